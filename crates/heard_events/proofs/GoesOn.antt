-- How what is told of channels goes on with the samples, where nothing of them is due.
use Rattle.heard_events.proofs.Common.{◌≡◌, ℕ, ◌<◌, ◌≤◌, List, [], ◌++◌, length, length-append, map, refl, sym, ap, ◌∙◌, arith, Sample, ap₂}
use Rattle.heard_events.proofs.Common.{drop, take, length-take-le, take-append-drop}
use Rattle.heard_events.proofs.Arrivals.{AreKnown, AreLater, Arrivals, all_left, left_from, none_between, none_left, none_now, now}
use Rattle.heard_events.proofs.Arrivals.{StaysWithin}

-- After these samples nothing is told up to a number of samples, and what is told there is left:
-- `told samples n` is told of some samples when just n have been taken, and `left samples` is left
-- to be given of their end.
pub record GoesOn {E : Type 0} (told : List Sample → ℕ → List E) (left : List Sample → List E)
    (heard : List Sample) (end : ℕ) : Type 0 where
  pub given : length heard < end → left heard ≡ []
  pub quiet : (more : List Sample) (n : ℕ) → length heard < n → n < end → told (heard ++ more) n ≡ []
  pub come : (more : List Sample) → 0 < length more → length (heard ++ more) ≤ end →
      left (heard ++ more) ≡ told (heard ++ more) (length (heard ++ more))

-- so it is of things of which those before a number are known, and the others later
pub things_go : {E : Type 0} (a : Arrivals) (next : ℕ) (gives : List Sample → ℕ → List ℕ → List E) →
    ((samples : List Sample) (n : ℕ) → gives samples n [] ≡ []) → (heard : List Sample) (end : ℕ) →
    AreKnown a next (length heard) → AreLater a next end → GoesOn (λ samples n. gives samples n (now a n))
    (λ samples. gives samples (length samples) (left_from a next (length samples))) heard end
things_go a next gives none heard end before following = record {
  given = λ early. ap (gives heard (length heard))
      (none_left a next (length heard)
      (λ k above inside e. let later = following k above inside in omega (arith, later, e, early)))
      ∙ none heard (length heard);
  quiet = λ more n past less. ap (gives (heard ++ more) n)
      (none_now a n (none_between a next (length heard) end n before following past less))
      ∙ none (heard ++ more) n;
  come = λ more some most. let n : ℕ = length (heard ++ more) in
      ap (gives (heard ++ more) n)
      (all_left a next n
      (λ k less inside e.
      let known = before k less inside in omega (arith, known, e, length-append heard more, some)));
}

-- a channel that is not received has no events
pub never : {E : Type 0} (told : List Sample → ℕ → List E) →
    ((samples : List Sample) (n : ℕ) → told samples n ≡ []) → (heard : List Sample) (end : ℕ) →
    GoesOn told (λ samples. []) heard end
never told none heard end = record {
  given = λ early. refl;
  quiet = λ more n past before. none (heard ++ more) n;
  come = λ more some most. sym (none (heard ++ more) (length (heard ++ more)));
}

pub joined : {E : Type 0} {xs xs' ys ys' : List E} → xs ≡ xs' → ys ≡ ys' → xs ++ ys ≡ xs' ++ ys'
joined e e' = ap₂ (λ (xs ys : List _). xs ++ ys) e e'

-- two channels
pub both : {E : Type 0} {told told' : List Sample → ℕ → List E} {left left' : List Sample → List E}
    {heard : List Sample} {end : ℕ} → GoesOn told left heard end → GoesOn told' left' heard end →
    GoesOn (λ samples n. told samples n ++ told' samples n) (λ samples. left samples ++ left' samples) heard end
both one other = record {
  given = λ early. joined (one.given early) (other.given early);
  quiet = λ more n past before. joined (one.quiet more n past before) (other.quiet more n past before);
  come = λ more some most. joined (one.come more some most) (other.come more some most);
}

-- the same, said in another way
pub goes_as : {E : Type 0} {told told' : List Sample → ℕ → List E}
    {left left' : List Sample → List E} {heard : List Sample} {end : ℕ} → GoesOn told left heard end →
    ((samples : List Sample) (n : ℕ) → told' samples n ≡ told samples n) →
    ((samples : List Sample) → left' samples ≡ left samples) → GoesOn told' left' heard end
goes_as {heard = heard} goes same rest = record {
  given = λ early. rest heard ∙ goes.given early;
  quiet = λ more n past before. same (heard ++ more) n ∙ goes.quiet more n past before;
  come = λ more some most. rest (heard ++ more)
      ∙ goes.come more some most
      ∙ sym (same (heard ++ more) (length (heard ++ more)));
}

-- and each with its number of samples
pub mapped : {A E : Type 0} (f : ℕ → A → E) {told : List Sample → ℕ → List A}
    {left : List Sample → List A} {heard : List Sample} {end : ℕ} → GoesOn told left heard end →
    GoesOn (λ samples n. map (f n) (told samples n)) (λ samples. map (f (length samples)) (left samples)) heard end
mapped f {heard = heard} goes = record {
  given = λ early. ap (map (f (length heard))) (goes.given early);
  quiet = λ more n past before. ap (map (f n)) (goes.quiet more n past before);
  come = λ more some most. ap (map (f (length (heard ++ more)))) (goes.come more some most);
}

-- What stays when more samples follow depends only on the first samples.
pub of_first : {A : Type 0} (f : List Sample → ℕ → A) → StaysWithin f →
    (one other : List Sample) (n : ℕ) → n ≤ length one → n ≤ length other →
    take n one ≡ take n other → f one n ≡ f other n
of_first f sooner one other n few few' same =
    first one few ∙ ap (λ xs. f xs n) same ∙ sym (first other few')
  where
    first : (samples : List Sample) → n ≤ length samples → f samples n ≡ f (take n samples) n
    first samples h =
        let long = length-take-le n samples h in
        ap (λ xs. f xs n) (sym (take-append-drop n samples))
        ∙ sooner (take n samples) (drop n samples) n (omega (arith, long))

-- The greatest of the numbers that aren't taken yet.
use Rattle.chip_core.proofs.Common.{◌≡◌, ℕ, zero, suc, ◌+◌, ◌<◌, Bool, true, false, List, [], ◌∷◌, ◌++◌, length, refl, sym, ap, ◌∙◌, subst}
use Rattle.chip_core.proofs.Common.{arith, ℤ, ◌<ℤ◌, ◌≤ℤ◌, below_more, add-one, ⊎_elim, ◌⊎◌, inl, inr, nat_eq, Option, Some, None, int_lt}
use Rattle.chip_core.proofs.Common.{nat_lt, if◌then◌else◌, list_any, ints, cases_order}
use Rattle.std.proofs.lemmas.Bool.Decides.{nat_tests}
use Rattle.chip_core.proofs.Greatest.{tested, untested}
use Rattle.chip_core.specs.Sums.{value_unless, is_less, greatest_unless, first_places}

pub record IsGreatestUnless (taken : List ℕ) (f : ℕ → ℤ) (n best : ℕ) : Type 0 where
  pub below : best < n
  pub free : list_any (nat_eq best) taken ≡ false
  pub greatest : (k : ℕ) → k < n → list_any (nat_eq k) taken ≡ false → f k ≤ℤ f best
  pub first : (k : ℕ) → k < best → list_any (nat_eq k) taken ≡ false → f k <ℤ f best

-- there is one at most
unique : (taken : List ℕ) (f : ℕ → ℤ) (n a b : ℕ) → IsGreatestUnless taken f n a → IsGreatestUnless taken f n b → a ≡ b
unique taken f n a b p q = ⊎_elim (λ e. e)
    (⊎_elim
    (λ lt. let first = q.first a lt p.free in let most = p.greatest b q.below q.free in
    absurd (omega (arith, ints, first, most)))
    (λ lt. let first = p.first b lt q.free in let most = q.greatest a p.below p.free in
    absurd (omega (arith, ints, first, most))))
    (cases_order a b)

is_less-none : (x : Option ℤ) → is_less x None ≡ false
is_less-none None = refl
is_less-none (Some x) = refl

value_of_taken : (taken : List ℕ) (f : ℕ → ℤ) (k : ℕ) → list_any (nat_eq k) taken ≡ true → value_unless taken f k ≡ None
value_of_taken taken f k e = rw e

value_of_free : (taken : List ℕ) (f : ℕ → ℤ) (k : ℕ) → list_any (nat_eq k) taken ≡ false →
    value_unless taken f k ≡ Some (f k)
value_of_free taken f k e = rw e

-- both can't be
pub free_taken : {A : Type 0} (b : Bool) → b ≡ false → b ≡ true → A
free_taken b e f = let both : false ≡ true = sym e ∙ f in absurd (cc)

-- all numbers below n are taken
pub record AllTaken (taken : List ℕ) (n : ℕ) : Type 0 where
  pub all : (k : ℕ) → k < n → list_any (nat_eq k) taken ≡ true

-- after the first n numbers
abbrev pub Scanned : List ℕ → (ℕ → ℤ) → ℕ → ℕ → Type 0
Scanned taken f n best = (AllTaken taken n × (best ≡ 0)) ⊎ IsGreatestUnless taken f n best

abbrev pick : ℕ → ℕ → Option ℤ → Option ℤ → ℕ
pick n best x y = if is_less x y then n else best

abbrev next_best : List ℕ → (ℕ → ℤ) → ℕ → ℕ → ℕ
next_best taken f n best = pick n best (value_unless taken f best) (value_unless taken f n)

-- a number that is taken changes nothing
next_best-taken : (taken : List ℕ) (f : ℕ → ℤ) (n best : ℕ) → list_any (nat_eq n) taken ≡ true →
    next_best taken f n best ≡ best
next_best-taken taken f n best e =
    ap (λ (y : Option ℤ). pick n best (value_unless taken f best) y) (value_of_taken taken f n e)
    ∙ ap (λ (b : Bool). if b then n else best) (is_less-none (value_unless taken f best))

still_taken : (taken : List ℕ) (f : ℕ → ℤ) (n best : ℕ) → list_any (nat_eq n) taken ≡ true →
    Scanned taken f n best → Scanned taken f (n + 1) best
still_taken taken f n best e h = ⊎_elim
    (λ none. inl (record { all = below_more (λ k. list_any (nat_eq k) taken ≡ true) n none.0.all e }, none.1))
    (λ is. inr (record {
      below = let b = is.below in omega (arith, b);
      free = is.free;
      greatest = below_more (λ k. list_any (nat_eq k) taken ≡ false → f k ≤ℤ f best) n is.greatest
          (λ free. free_taken (list_any (nat_eq n) taken) free e);
      first = is.first;
    }))
    h

-- the first number that isn't taken
first_free : (taken : List ℕ) (f : ℕ → ℤ) (n : ℕ) → AllTaken taken n →
    list_any (nat_eq n) taken ≡ false → IsGreatestUnless taken f (n + 1) n
first_free taken f n none e = record {
  below = omega arith;
  free = e;
  greatest = below_more (λ k. list_any (nat_eq k) taken ≡ false → f k ≤ℤ f n) n
      (λ k lt free. free_taken (list_any (nat_eq k) taken) free (none.all k lt))
      (λ free. omega (arith, ints));
  first = λ k lt free. free_taken (list_any (nat_eq k) taken) free (none.all k lt);
}

same_either : (b : Bool) (m n : ℕ) → n ≡ m → (if b then m else n) ≡ m
same_either true m n e = refl
same_either false m n e = e

next_best-first : (taken : List ℕ) (f : ℕ → ℤ) (n best : ℕ) → AllTaken taken n → best ≡ 0 →
    list_any (nat_eq n) taken ≡ false → next_best taken f n best ≡ n
next_best-first taken f zero best none start e =
    same_either (is_less (value_unless taken f best) (value_unless taken f zero)) zero best start
next_best-first taken f (suc n) best none start e =
    let before : list_any (nat_eq best) taken ≡ true = none.all best (omega (arith, start)) in
    ap (λ (x : Option ℤ). pick (suc n) best x (value_unless taken f (suc n))) (value_of_taken taken f best before)
    ∙ ap (λ (y : Option ℤ). pick (suc n) best None y) (value_of_free taken f (suc n) e)

-- a number that isn't taken, after others
takes : (taken : List ℕ) (f : ℕ → ℤ) (n best : ℕ) → IsGreatestUnless taken f n best →
    list_any (nat_eq n) taken ≡ false → f best <ℤ f n → IsGreatestUnless taken f (n + 1) n
takes taken f n best is e more = record {
  below = omega arith;
  free = e;
  greatest = below_more (λ k. list_any (nat_eq k) taken ≡ false → f k ≤ℤ f n) n
      (λ k lt free. let g = is.greatest k lt free in omega (arith, ints, g, more))
      (λ free. omega (arith, ints));
  first = λ k lt free. let g = is.greatest k lt free in omega (arith, ints, g, more);
}

keeps : (taken : List ℕ) (f : ℕ → ℤ) (n best : ℕ) → IsGreatestUnless taken f n best →
    f n ≤ℤ f best → IsGreatestUnless taken f (n + 1) best
keeps taken f n best is less = record {
  below = let b = is.below in omega (arith, b);
  free = is.free;
  greatest = below_more (λ k. list_any (nat_eq k) taken ≡ false → f k ≤ℤ f best) n is.greatest
      (λ free. less);
  first = is.first;
}

picked : (taken : List ℕ) (f : ℕ → ℤ) (n best : ℕ) → IsGreatestUnless taken f n best →
    list_any (nat_eq n) taken ≡ false → (b : Bool) → int_lt (f best) (f n) ≡ b →
    IsGreatestUnless taken f (n + 1) (if b then n else best)
picked taken f n best is e true t = takes taken f n best is e (tested (f best) (f n) t)
picked taken f n best is e false t = keeps taken f n best is (untested (f best) (f n) t)

-- One place more that isn't taken keeps the greatest of all that aren't: the new one is picked if
-- its value is above the best so far; otherwise the best stays. So on a tie the first is kept.
next_best-picked : (taken : List ℕ) (f : ℕ → ℤ) (n best : ℕ) → IsGreatestUnless taken f n best →
    list_any (nat_eq n) taken ≡ false → IsGreatestUnless taken f (n + 1) (next_best taken f n best)
next_best-picked taken f n best is e =
    let both : next_best taken f n best ≡ (if int_lt (f best) (f n) then n else best) =
    ap (λ (x : Option ℤ). pick n best x (value_unless taken f n)) (value_of_free taken f best is.free)
    ∙ ap (λ (y : Option ℤ). pick n best (Some (f best)) y) (value_of_free taken f n e) in
    let P : ℕ → Type 0 = λ m. IsGreatestUnless taken f (n + 1) m in
    subst P (sym both) (picked taken f n best is e (int_lt (f best) (f n)) refl)

scan_free : (taken : List ℕ) (f : ℕ → ℤ) (n best : ℕ) → list_any (nat_eq n) taken ≡ false →
    Scanned taken f n best → Scanned taken f (n + 1) (next_best taken f n best)
scan_free taken f n best e h = ⊎_elim
    (λ none. inr (let P : ℕ → Type 0 = λ m. IsGreatestUnless taken f (n + 1) m in
    subst P (sym (next_best-first taken f n best none.0 none.1 e)) (first_free taken f n none.0 e)))
    (λ is. inr (next_best-picked taken f n best is e))
    h

scan_more : (taken : List ℕ) (f : ℕ → ℤ) (n best : ℕ) (b : Bool) → list_any (nat_eq n) taken ≡ b →
    Scanned taken f n best → Scanned taken f (n + 1) (next_best taken f n best)
scan_more taken f n best true e h =
    let P : ℕ → Type 0 = λ m. Scanned taken f (n + 1) m in
    subst P (sym (next_best-taken taken f n best e)) (still_taken taken f n best e h)
scan_more taken f n best false e h = scan_free taken f n best e h

pub scanned : (taken : List ℕ) (f : ℕ → ℤ) (n : ℕ) → Scanned taken f n (greatest_unless taken f n)
unfolding greatest_unless
scanned taken f zero = inl (record { all = λ k lt. absurd (omega (arith, lt)) }, refl)
scanned taken f (suc n) =
    rw add-one at (scan_more taken f n (greatest_unless taken f n) (list_any (nat_eq n) taken) refl (scanned taken f n))

pub only : (taken : List ℕ) (f : ℕ → ℤ) (n best : ℕ) → IsGreatestUnless taken f n best →
    best ≡ greatest_unless taken f n
only taken f n best is = ⊎_elim (λ none. free_taken (list_any (nat_eq best) taken) is.free (none.0.all best is.below))
    (λ found. unique taken f n best (greatest_unless taken f n) is found) (scanned taken f n)

-- one place more
pub first_places-none : (f : ℕ → ℤ) (n : ℕ) → first_places 0 f n ≡ []
unfolding first_places
first_places-none f n = refl

pub nat_lt-true : (a b : ℕ) → a < b → nat_lt a b ≡ true
nat_lt-true a b h = grind (arith, nat_tests)

pub first_places-more : (k : ℕ) (f : ℕ → ℤ) (n best : ℕ) (before : List ℕ) →
    first_places k f n ≡ before → length before < n → IsGreatestUnless before f n best →
    first_places (suc k) f n ≡ before ++ best ∷ []
unfolding first_places
first_places-more k f n best before e room is = rw (e, nat_lt-true (length before) n room, ← only before f n best is)

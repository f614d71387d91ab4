-- Numbers in falling order of what a function gives: its first places.
use Rattle.pilot_survey.proofs.Common.{◌≡◌, ℕ, zero, suc, ◌<◌, ◌≤◌, ◌⊎◌, inl, inr, ⊎_elim, true, false, List, length, get_or, take, sym, ap}
use Rattle.pilot_survey.proofs.Common.{◌∙◌, subst, arith, pos, ◌<ℤ◌, ◌≤ℤ◌, add-one, nat_eq, list_any, Contains, get_or_default, get_or-take}
use Rattle.pilot_survey.proofs.Common.{length-take-le, take_more, take_all, first_places}
use Rattle.std.proofs.lemmas.Int.{ints}
use Rattle.std.proofs.lemmas.Bool.{cases_order, eq-eqb, ne_eqb}
use Rattle.std.proofs.lemmas.List.Folds.{list_any_none, list_any_at}
use Rattle.chip_core.proofs.Unless.{IsGreatestUnless, first_places-none, first_places-more, free_taken}

-- one number comes before another: by greater value, then as the lesser one
abbrev pub Leads : (ℕ → ℕ) → ℕ → ℕ → Type 0
Leads e p q = (e q < e p) ⊎ ((e p ≡ e q) × (p < q))

-- all numbers below n, each before the next ones
pub record IsOrdering (e : ℕ → ℕ) (n : ℕ) (ps : List ℕ) : Type 0 where
  pub long : length ps ≡ n
  pub below : (i d : ℕ) → i < n → get_or ps i d < n
  pub each : (p : ℕ) → p < n → Contains ps p
  pub order : (i j d : ℕ) → i < j → j < n → Leads e (get_or ps i d) (get_or ps j d)

-- a number doesn't come before itself
leads_apart : (e : ℕ → ℕ) (p q : ℕ) → Leads e p q → p ≡ q → ⊥
leads_apart e p q h same = ⊎_elim (λ less. let eq = ap e same in absurd (omega (arith, less, eq)))
    (λ both. let lt = both.1 in absurd (omega (arith, lt, same)))
    h

leads_most : (e : ℕ → ℕ) (p q : ℕ) → Leads e p q → pos (e q) ≤ℤ pos (e p)
leads_most e p q h = ⊎_elim (λ less. omega (arith, ints, less)) (λ both. let eq = both.0 in omega (arith, ints, eq))
    h

leads_first : (e : ℕ → ℕ) (p q : ℕ) → Leads e p q → q < p → pos (e q) <ℤ pos (e p)
leads_first e p q h under = ⊎_elim (λ less. omega (arith, ints, less))
    (λ both. let lt = both.1 in absurd (omega (arith, lt, under)))
    h

-- the next number isn't among those before it
next_free : (e : ℕ → ℕ) (n : ℕ) (ps : List ℕ) (k : ℕ) → IsOrdering e n ps → k < n →
    list_any (nat_eq (get_or ps k 0)) (take k ps) ≡ false
next_free e n ps k is lt =
    let room : k ≤ length ps = let l = is.long in omega (arith, l, lt) in
    list_any_none (nat_eq (get_or ps k 0)) (take k ps) (λ i d under.
    let low : i < k = let l = length-take-le k ps room in omega (arith, l, under) in
    let own : get_or ps k d ≡ get_or ps k 0 = get_or_default ps k d 0 (let l = is.long in omega (arith, l, lt)) in
    ne_eqb (get_or ps k 0) (get_or (take k ps) i d)
    (λ same. leads_apart e (get_or ps i d) (get_or ps k d) (is.order i k d low lt)
    (sym (same ∙ get_or-take k ps i d low) ∙ sym own)))

-- a number that isn't among the first ones comes at the place itself or after it
free_after : (ps : List ℕ) (k q i : ℕ) → k ≤ length ps → i < length ps → get_or ps i q ≡ q →
    list_any (nat_eq q) (take k ps) ≡ false → i < k → ⊥
free_after ps k q i room lt here free low =
    let taken : list_any (nat_eq q) (take k ps) ≡ true =
    list_any_at (nat_eq q) (take k ps) i q (let l = length-take-le k ps room in omega (arith, l, low))
    (eq-eqb q (get_or (take k ps) i q) (sym (get_or-take k ps i q low ∙ here))) in
    free_taken (list_any (nat_eq q) (take k ps)) free taken

-- it is the place's own number, or the place's number comes before it
own_or_after : (e : ℕ → ℕ) (n : ℕ) (ps : List ℕ) (k q : ℕ) → IsOrdering e n ps → k < n → q < n →
    list_any (nat_eq q) (take k ps) ≡ false → (get_or ps k 0 ≡ q) ⊎ Leads e (get_or ps k 0) q
own_or_after e n ps k q is lt below free =
    let at = is.each q below in
    let i : ℕ = at.0 in
    let l = is.long in
    let in' : i < n = let h = at.1 in omega (arith, l, h) in
    let own : get_or ps k q ≡ get_or ps k 0 = get_or_default ps k q 0 (omega (arith, l, lt)) in
    ⊎_elim (λ same. inl (sym own ∙ ap (λ (j : ℕ). get_or ps j q) (sym same) ∙ at.2))
    (⊎_elim (λ low. absurd (free_after ps k q i (omega (arith, l, lt)) at.1 at.2 free low))
    (λ high.
    let leads = is.order k i q high in' in
    inr (subst (λ (p : ℕ). Leads e p q) own (subst (λ (r : ℕ). Leads e (get_or ps k q) r) at.2 leads))))
    (cases_order i k)

next_greatest : (e : ℕ → ℕ) (n : ℕ) (ps : List ℕ) (k : ℕ) → IsOrdering e n ps → k < n →
    IsGreatestUnless (take k ps) (λ (p : ℕ). pos (e p)) n (get_or ps k 0)
next_greatest e n ps k is lt = record {
  below = is.below k 0 lt;
  free = next_free e n ps k is lt;
  greatest = λ q under free. ⊎_elim (λ same. let eq = ap e same in omega (arith, ints, eq))
      (λ leads. leads_most e (get_or ps k 0) q leads)
      (own_or_after e n ps k q is lt under free);
  first = λ q under free. ⊎_elim (λ same. absurd (omega (arith, same, under)))
      (λ leads. leads_first e (get_or ps k 0) q leads under)
      (own_or_after e n ps k q is lt (let b = is.below k 0 lt in omega (arith, b, under)) free);
}

-- The first k numbers of an ordering by falling value are its first places. By induction over k:
-- the number that comes next has the greatest value of those that aren't among them.
first_taken : (e : ℕ → ℕ) (n : ℕ) (ps : List ℕ) (k : ℕ) → IsOrdering e n ps → k ≤ n →
    first_places k (λ (p : ℕ). pos (e p)) n ≡ take k ps
first_taken e n ps zero is le = first_places-none (λ (p : ℕ). pos (e p)) n
first_taken e n ps (suc k) is le =
    let l = is.long in
    let lt : k < n = omega (arith, le) in
    let before = first_taken e n ps k is (omega (arith, le)) in
    let count : length (take k ps) ≡ k = length-take-le k ps (omega (arith, l, lt)) in
    let more = first_places-more k (λ (p : ℕ). pos (e p)) n (get_or ps k 0) (take k ps) before
    (omega (arith, count, lt)) (next_greatest e n ps k is lt) in
    more ∙ sym (rw add-one at (take_more ps k 0 (omega (arith, l, lt))))

-- so the ordered list is the list of first places
pub ordering_only : (e : ℕ → ℕ) (n : ℕ) (ps : List ℕ) → IsOrdering e n ps → first_places n (λ (p : ℕ). pos (e p)) n ≡ ps
ordering_only e n ps is =
    let l = is.long in
    first_taken e n ps n is (omega arith) ∙ take_all n ps (omega (arith, l))

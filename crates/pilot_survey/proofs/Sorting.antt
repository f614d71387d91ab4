-- There is a ranking: ranks can be sorted.
use Rattle.pilot_survey.proofs.Common.{◌≡◌, ℕ, zero, suc, ◌+◌, ◌<◌, ◌≤◌, ◌⊎◌, Bool, true, false, List, [], ◌∷◌, refl, arith, subst, Sample}
use Rattle.pilot_survey.proofs.Common.{IsPermutation, nat_tests, AreInOrder, IsRanking, ranking, Rank}
use Rattle.std.specs.Prelude.{if◌then◌else◌, ⊤, All}
use Rattle.std.specs.Ordering.{is_lt, ordering_then, nat_cmp}
use Rattle.std.proofs.lemmas.List.Elements.{All-nil, All-cons, All-head, All-tail, All-weaker}
use Rattle.std.proofs.lemmas.List.Sorted.{IsPermutation-refl, IsPermutation-cons, IsPermutation-swap, IsPermutation-trans}
use Rattle.pilot_survey.proofs.Orders.{NotAfter, chained, neighbours, by_number, sorted_ranking}
use Rattle.pilot_survey.proofs.Ranked.{ranking_only}

-- the first of two ranks stands after the second
abbrev is_late : Rank → Rank → Bool
is_late x y = is_lt (ordering_then (nat_cmp x.energy y.energy) (nat_cmp y.pilot x.pilot))

turned : (e e' p p' : ℕ) → is_lt (ordering_then (nat_cmp e e') (nat_cmp p' p)) ≡ true → (e < e') ⊎ ((e' ≡ e) × (p' ≤ p))
turned e e' p p' h = grind (arith, nat_tests)

inserted : Rank → List Rank → List Rank
inserted x [] = x ∷ []
inserted x (y ∷ ys) = if is_late x y then y ∷ inserted x ys else x ∷ y ∷ ys

sorted : List Rank → List Rank
sorted [] = []
sorted (x ∷ xs) = inserted x (sorted xs)

-- each rank may stand before all after it
Rises : List Rank → Type 0
Rises [] = ⊤
Rises (x ∷ xs) = All (NotAfter x) xs × Rises xs

either : (P : List Rank → Type 0) (t : Bool) (xs ys : List Rank) → P xs → P ys → P (if t then xs else ys)
either P true xs ys one other = one
either P false xs ys one other = other

inserted-all : (P : Rank → Type 0) (x : Rank) (ys : List Rank) → P x → All P ys → All P (inserted x ys)
unfolding inserted
inserted-all P x [] own all = All-cons P x [] own (All-nil P)
inserted-all P x (y ∷ ys) own all =
    either (All P) (is_late x y) (y ∷ inserted x ys) (x ∷ y ∷ ys)
    (All-cons P y (inserted x ys) (All-head P y ys all) (inserted-all P x ys own (All-tail P y ys all)))
    (All-cons P x (y ∷ ys) own all)

-- the place of a rank among two
placed : (x y : Rank) (ys zs : List Rank) (t : Bool) → is_late x y ≡ t → Rises (y ∷ ys) →
    (NotAfter y x → All (NotAfter y) zs) → Rises zs → Rises (if t then y ∷ zs else x ∷ y ∷ ys)
unfolding Rises
placed x y ys zs true e up following rest = (following (turned x.energy y.energy x.pilot y.pilot e), rest)
placed x y ys zs false e up following rest =
    let own : NotAfter x y = neighbours x.energy y.energy x.pilot y.pilot e in (
      All-cons (NotAfter x) y ys own
          (All-weaker (NotAfter y) (NotAfter x) (λ z h. chained x y z own h) ys up.0),
      up,
    )

inserted-rises : (x : Rank) (ys : List Rank) → Rises ys → Rises (inserted x ys)
unfolding Rises inserted
inserted-rises x [] up = (All-nil (NotAfter x), tt)
inserted-rises x (y ∷ ys) up =
    placed x y ys (inserted x ys) (is_late x y) refl up
    (λ own. inserted-all (NotAfter y) x ys own up.0) (inserted-rises x ys up.1)

sorted-rises : (xs : List Rank) → Rises (sorted xs)
unfolding Rises sorted
sorted-rises [] = tt
sorted-rises (x ∷ xs) = inserted-rises x (sorted xs) (sorted-rises xs)

rises_in_order : (xs : List Rank) → Rises xs → AreInOrder xs
unfolding Rises
rises_in_order [] up k d lt = absurd (omega (arith, lt))
rises_in_order (x ∷ xs) up zero d lt = up.0 0 d (omega (arith, lt))
rises_in_order (x ∷ xs) up (suc k) d lt =
    let next : suc k + 1 ≡ suc (k + 1) = omega arith in
    rw next (rises_in_order xs up.1 k d (omega (arith, lt)))

inserted-permutation : (x : Rank) (ys : List Rank) → IsPermutation (x ∷ ys) (inserted x ys)
unfolding inserted
inserted-permutation x [] = IsPermutation-refl (x ∷ [])
inserted-permutation x (y ∷ ys) =
    either (IsPermutation (x ∷ y ∷ ys)) (is_late x y) (y ∷ inserted x ys) (x ∷ y ∷ ys)
    (IsPermutation-trans (x ∷ y ∷ ys) (y ∷ x ∷ ys) (y ∷ inserted x ys)
    (IsPermutation-swap (x ∷ y ∷ ys) (y ∷ x ∷ ys) 0 1 (omega arith) (omega arith) refl)
    (IsPermutation-cons y (x ∷ ys) (inserted x ys) (inserted-permutation x ys)))
    (IsPermutation-refl (x ∷ y ∷ ys))

sorted-permutation : (xs : List Rank) → IsPermutation xs (sorted xs)
unfolding sorted
sorted-permutation [] = IsPermutation-refl []
sorted-permutation (x ∷ xs) =
    IsPermutation-trans (x ∷ xs) (x ∷ sorted xs) (inserted x (sorted xs))
    (IsPermutation-cons x xs (sorted xs) (sorted-permutation xs)) (inserted-permutation x (sorted xs))

pub ranking_is : (samples : List Sample) (base width : ℕ) → IsRanking samples base width (ranking samples base width)
ranking_is samples base width =
    let ranks : List Rank = sorted (by_number samples base width) in
    let is = sorted_ranking samples base width ranks (sorted-permutation (by_number samples base width))
    (rises_in_order ranks (sorted-rises (by_number samples base width))) in
    subst (λ (rs : List Rank). IsRanking samples base width rs) (ranking_only samples base width ranks is) is

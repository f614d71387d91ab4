-- Ranks in order: a sorted list of all pilots' ranks is a ranking.
use Rattle.pilot_survey.proofs.Common.{◌≡◌, ◌≢◌, ℕ, zero, suc, ◌+◌, ◌-◌, ◌<◌, ◌≤◌, ◌⊎◌, inl, inr, ⊎_elim, false, List, length, get_or, map}
use Rattle.pilot_survey.proofs.Common.{sym, ap, ◌∙◌, arith, nat_eq, IsDistinct, range_with_len, IsPermutation, nat_tests, get_or-map, Rank}
use Rattle.pilot_survey.proofs.Common.{length-map, Sample, ComesBefore, AreInOrder, IsRanking, surveyed}
use Rattle.std.specs.Ordering.{is_lt, ordering_then, nat_cmp}
use Rattle.std.proofs.lemmas.Bool.{ne_eqb, eqb-false}
use Rattle.std.proofs.lemmas.List.FromFn.{length-map-range_with_len, get_or-map-range_with_len}
use Rattle.std.proofs.lemmas.List.Sorted.{IsPermutation-map, length_permutation, All-permutation, Contains-permutation}
use Rattle.std.proofs.lemmas.Map.Keys.{IsDistinct-from_apart, IsDistinct-IsPermutation, apart_from_distinct}
use Rattle.chip_core.proofs.Finds.{nat_eq-flipped}
use Rattle.pilot_survey.proofs.Ranked.{pilot_of, named}
use Rattle.pilot_survey.proofs.Strength.{surveyed_pilot}

-- what a sort by energy, the greatest first, and then by pilot says of neighbours
pub neighbours : (e e' p p' : ℕ) → is_lt (ordering_then (nat_cmp e e') (nat_cmp p' p)) ≡ false →
    (e' < e) ⊎ ((e ≡ e') × (p ≤ p'))
neighbours e e' p p' h = grind (arith, nat_tests)

-- a rank that may stand before another
abbrev pub NotAfter : Rank → Rank → Type 0
NotAfter x y = (y.energy < x.energy) ⊎ ((x.energy ≡ y.energy) × (x.pilot ≤ y.pilot))

-- The order of ranks can be chained: a greater energy comes first, and the lesser pilot among equal
-- ones, and in each of the four cases one of the two comparisons decides, or both do together.
pub chained : (x y z : Rank) → NotAfter x y → NotAfter y z → NotAfter x z
chained x y z h g = ⊎_elim
    (λ less. ⊎_elim (λ lesser. inl (omega (arith, less, lesser)))
    (λ both. let eq = both.0 in inl (omega (arith, less, eq)))
    g)
    (λ own. let same = own.0 in let low = own.1 in ⊎_elim (λ lesser. inl (omega (arith, same, lesser)))
    (λ both. let eq = both.0 in let up = both.1 in
    inr (omega (arith, same, eq), omega (arith, low, up)))
    g)
    h

-- from neighbours to any two places
apart : (ranks : List Rank) → AreInOrder ranks → (n i : ℕ) (d : Rank) → i + n + 1 < length ranks →
    NotAfter (get_or ranks i d) (get_or ranks (i + n + 1) d)
apart ranks up zero i d lt =
    let next : i + zero + 1 ≡ i + 1 = omega arith in
    rw next (up i d (omega (arith, lt)))
apart ranks up (suc n) i d lt =
    let next : i + suc n + 1 ≡ i + n + 1 + 1 = omega arith in
    rw next (chained (get_or ranks i d) (get_or ranks (i + n + 1) d) (get_or ranks (i + n + 1 + 1) d)
    (apart ranks up n i d (omega (arith, lt))) (up (i + n + 1) d (omega (arith, lt))))

pub in_places : (ranks : List Rank) → AreInOrder ranks → (i j : ℕ) (d : Rank) → i < j →
    j < length ranks → NotAfter (get_or ranks i d) (get_or ranks j d)
in_places ranks up i j d less lt =
    let at : i + (j - i - 1) + 1 ≡ j = omega (arith, less) in
    rw at at (apart ranks up (j - i - 1) i d (omega (arith, less, lt)))

-- the ranks of all pilots, by number
abbrev pub by_number : List Sample → ℕ → ℕ → List Rank
by_number samples base width = map (surveyed samples base width) (range_with_len 0 512)

entry_by_number : (samples : List Sample) (base width i : ℕ) (d : Rank) → i < 512 →
    get_or (by_number samples base width) i d ≡ surveyed samples base width i
entry_by_number samples base width i d lt =
    get_or-map-range_with_len (surveyed samples base width) 0 512 i i d lt (omega arith)

pilot_by_number : (samples : List Sample) (base width i d : ℕ) → i < 512 →
    get_or (map pilot_of (by_number samples base width)) i d ≡ i
pilot_by_number samples base width i d lt =
    let long = length-map-range_with_len (surveyed samples base width) 0 512 in
    get_or-map pilot_of (by_number samples base width) i (named d) d (omega (arith, long, lt))
    ∙ ap pilot_of (entry_by_number samples base width i (named d) lt)
    ∙ surveyed_pilot samples base width i

-- each pilot stands there once
pilots_differ : (samples : List Sample) (base width : ℕ) →
    IsDistinct nat_eq (map pilot_of (by_number samples base width))
pilots_differ samples base width =
    let long = length-map-range_with_len (surveyed samples base width) 0 512 in
    let all = length-map (by_number samples base width) pilot_of in
    IsDistinct-from_apart nat_eq (map pilot_of (by_number samples base width)) (λ i j d less lt.
    let low = pilot_by_number samples base width i d (omega (arith, long, all, less, lt)) in
    let high = pilot_by_number samples base width j d (omega (arith, long, all, lt)) in
    ne_eqb (get_or (map pilot_of (by_number samples base width)) i d)
    (get_or (map pilot_of (by_number samples base width)) j d) (λ same. absurd (omega (arith, low, high, less, same))))

-- and in each other order too
still_differ : (samples : List Sample) (base width : ℕ) (ranks : List Rank) →
    IsPermutation (by_number samples base width) ranks → (i j : ℕ) (d : Rank) → i < j →
    j < length ranks → (get_or ranks i d).pilot ≢ (get_or ranks j d).pilot
still_differ samples base width ranks moved i j d less lt =
    let distinct =
    IsDistinct-IsPermutation nat_eq nat_eq-flipped (map pilot_of (by_number samples base width))
    (map pilot_of ranks) (IsPermutation-map pilot_of (by_number samples base width) ranks moved)
    (pilots_differ samples base width) in
    let long = length-map ranks pilot_of in
    let differ = apart_from_distinct nat_eq (map pilot_of ranks) i j d.pilot distinct less (omega (arith, long, lt)) in
    let low = get_or-map pilot_of ranks i d d.pilot (omega (arith, less, lt)) in
    let high = get_or-map pilot_of ranks j d d.pilot lt in
    λ same. eqb-false (get_or (map pilot_of ranks) i d.pilot) (get_or (map pilot_of ranks) j d.pilot)
    differ (low ∙ same ∙ sym high)

strictly : (x y : Rank) → NotAfter x y → x.pilot ≢ y.pilot → ComesBefore x y
strictly x y h differ = ⊎_elim (λ less. inl less) (λ both. let le = both.1 in inr (both.0, omega (arith, le, differ)))
    h

-- a list that has all ranks by number, in another order, and is in order
pub sorted_ranking : (samples : List Sample) (base width : ℕ) (ranks : List Rank) →
    IsPermutation (by_number samples base width) ranks → AreInOrder ranks → IsRanking samples base width ranks
sorted_ranking samples base width ranks moved up =
    let all = length-map-range_with_len (surveyed samples base width) 0 512 in
    let long : length ranks ≡ 512 = length_permutation (by_number samples base width) ranks moved ∙ all in
    let P : Rank → Type 0 = λ r. (r.pilot < 512) × (r ≡ surveyed samples base width r.pilot) in
    record {
      long = long;
      each = λ p lt. Contains-permutation (by_number samples base width) ranks
          (surveyed samples base width p) moved (
            p,
            omega (arith, all, lt),
            entry_by_number samples base width p (surveyed samples base width p) lt,
          );
      measured = All-permutation P (by_number samples base width) ranks moved (λ k d lt.
          let under : k < 512 = omega (arith, all, lt) in
          let here = entry_by_number samples base width k d under in
          let own = ap pilot_of here ∙ surveyed_pilot samples base width k in
          (omega (arith, own, under), here ∙ ap (surveyed samples base width) (sym own)));
      order = λ i j d less lt.
          let room : j < length ranks = omega (arith, long, lt) in
          strictly (get_or ranks i d) (get_or ranks j d) (in_places ranks up i j d less room)
          (still_differ samples base width ranks moved i j d less room);
    }

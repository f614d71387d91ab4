-- What the entries are from stage to stage, until each is what its row carries.
use Rattle.walsh.proofs.Common.{◌≡◌, ℕ, suc, ◌+◌, ◌-◌, ◌^◌, ◌<◌, Bool, true, false, List, length, map, get_or, refl, sym, ap, ◌∙◌, arith, ℤ}
use Rattle.walsh.proofs.Common.{add-one, if◌then◌else◌, pos, ◌+ℤ◌, ◌-ℤ◌, bit_of, Pair, IsWithin, in_phase, quadrature, transform}
use Rattle.walsh.proofs.Common.{walsh_sum_from}
use Rattle.std.specs.List.{All}
use Rattle.std.proofs.lemmas.List.{length-map}
use Rattle.std.proofs.lemmas.List.Elements.{All-get_or}
use Rattle.std.proofs.Math.ListN.{get_or-map}
use Rattle.chip_core.specs.Complex.{origin, plus}
use Rattle.chip_core.proofs.Places.{get_or-map-places, map-places-all}
use Rattle.walsh.specs.Butterfly.{minus, entry, butterfly, IsStage, EntriesAreWithin}
use Rattle.walsh.proofs.Partial.{partial, partial-none, partial-same, partial-more, partial-all}

-- the entries after the stages of the lowest bits
pub record IsCarried (bits : ℕ) (old new : List Pair) : Type 0 where
  pub long : length new ≡ 64
  pub i_is : (n : ℕ) → n < 64 → (entry new n).i ≡ partial bits (λ k. (entry old k).i) n
  pub q_is : (n : ℕ) → n < 64 → (entry new n).q ≡ partial bits (λ k. (entry old k).q) n
  pub small : EntriesAreWithin (2 ^ (40 + bits)) new

pub begins : (old : List Pair) → length old ≡ 64 → All (IsWithin (2 ^ 40)) old → IsCarried 0 old old
begins old h within = record {
  long = h;
  i_is = λ n less. sym (partial-none (λ k. (entry old k).i) n);
  q_is = λ n less. sym (partial-none (λ k. (entry old k).q) n);
  small = λ n less. All-get_or (IsWithin (2 ^ 40)) old n origin (omega (arith, less, h)) within;
}

-- a part of complex numbers, which adds up by itself
record IsPart (part : Pair → ℤ) : Type 0 where
  sums : (x y : Pair) → part (plus x y) ≡ part x +ℤ part y
  differences : (x y : Pair) → part (minus x y) ≡ part x -ℤ part y

i_part : IsPart (λ v. v.i)
i_part = record { sums = λ x y. refl; differences = λ x y. refl }

q_part : IsPart (λ v. v.q)
q_part = record { sums = λ x y. refl; differences = λ x y. refl }

part_of : (part : Pair → ℤ) → IsPart part → (b : Bool) (x y z w : Pair) → part (if b then minus x y else plus z w) ≡
    (if b then part x -ℤ part y else part z +ℤ part w)
part_of part p true x y z w = p.differences x y
part_of part p false x y z w = p.sums z w

part_more : (part : Pair → ℤ) → IsPart part → (bit n : ℕ) (old new next : List Pair) → bit < 6 →
    n < 64 → entry next n ≡ butterfly bit new n →
    ((m : ℕ) → m < 64 → part (entry new m) ≡ partial bit (λ k. part (entry old k)) m) →
    part (entry next n) ≡ partial (bit + 1) (λ k. part (entry old k)) n
unfolding butterfly
part_more part p bit n old new next few less is h =
    let count : bit + 1 ≡ suc bit = add-one bit in
    ap part is
    ∙ part_of part p (bit_of n bit) (entry new (n - 2 ^ bit)) (entry new n) (entry new n) (entry new (n + 2 ^ bit))
    ∙ partial-more bit n (λ k. part (entry old k)) (λ k. part (entry new k)) few less h ∙
    ap (λ (s : ℕ). partial s (λ k. part (entry old k)) n) (sym count)

pub goes_on : (bit : ℕ) (old new next : List Pair) → bit < 6 → length next ≡ 64 →
    IsCarried bit old new → IsStage bit new next → EntriesAreWithin (2 ^ (41 + bit)) next → IsCarried (bit + 1) old next
goes_on bit old new next p long h stage small =
    let bound : 40 + (bit + 1) ≡ 41 + bit = omega arith in
    record {
      long = long;
      i_is = λ n less. part_more (λ v. v.i) i_part bit n old new next p less (stage n less) h.i_is;
      q_is = λ n less. part_more (λ v. v.q) q_part bit n old new next p less (stage n less) h.q_is;
      small = rw bound small;
    }

part_is : (part : Pair → ℤ) (old new : List Pair) → part origin ≡ pos 0 → length old ≡ 64 → length new ≡ 64 →
    ((n : ℕ) → n < 64 → part (entry new n) ≡ partial 6 (λ k. part (entry old k)) n) →
    map part new ≡ transform (map part old)
unfolding transform
part_is part old new none long long' h =
    map-places-all (λ n. walsh_sum_from n 0 (map part old)) (map part new) 64 (pos 0) (length-map new part ∙ long')
    (λ n less.
    at new n ∙ h n less ∙
    partial-same 6 n (λ k. part (entry old k)) (λ k. get_or (map part old) k (pos 0)) (λ k. sym (at old k))
    ∙ partial-all n (map part old) less (length-map old part ∙ long)) where
      at : (values : List Pair) (k : ℕ) → get_or (map part values) k (pos 0) ≡ part (entry values k)
      at values k = ap (get_or (map part values) k) (sym none) ∙ get_or-map part values k origin

pub in_phase_is : (old new : List Pair) → length old ≡ 64 → IsCarried 6 old new →
    in_phase new ≡ transform (in_phase old)
in_phase_is old new long h = part_is (λ v. v.i) old new refl long h.long h.i_is

pub quadrature_is : (old new : List Pair) → length old ≡ 64 → IsCarried 6 old new →
    quadrature new ≡ transform (quadrature old)
quadrature_is old new long h = part_is (λ v. v.q) old new refl long h.long h.q_is

-- one entry of the transform, for callers
pub get_or-transform : (xs : List ℤ) (n : ℕ) → n < 64 → get_or (transform xs) n (pos 0) ≡ walsh_sum_from n 0 xs
unfolding transform
get_or-transform xs n h = get_or-map-places (λ n. walsh_sum_from n 0 xs) 64 n (pos 0) h

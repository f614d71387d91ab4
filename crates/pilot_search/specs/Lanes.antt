-- Eight products of samples with the code, side by side.
use Rattle.pilot_search.specs.Common.{plus, total, Pair, Sample, IsUnit, turned}
use Rattle.std.specs.Prelude.{◌≡◌, ◌≤◌, ℕ, ◌+◌, ◌*◌, unsigned_abs, List, [], ◌∷◌, map, get_or, drop}
use Rattle.std.specs.Prelude.{length, ℤ, pos, ◌+ℤ◌, ◌*ℤ◌, FitsSigned}
use lib.Lanes.{Each1}
use mir.Syntax.{w16}
use Rattle.pilot_search.specs.BySigns.{correlation_with}

abbrev pub product_at : List Sample → List (ℤ × ℤ) → ℕ → Pair
product_at samples signs t =
    turned (get_or samples t (record { i = pos 0; q = pos 0 })) (get_or signs t (pos 0, pos 0))

abbrev pub seven : List ℕ
seven = 1 ∷ 2 ∷ 3 ∷ 4 ∷ 5 ∷ 6 ∷ 7 ∷ []

-- eight values of a function, the first at this place
abbrev pub eight : {T : Type 0} → (ℕ → T) → ℕ → List T
eight f first = f first ∷ map (λ k. f (first + k)) seven

-- both parts of each number, side by side
abbrev pub parts : List (ℤ × ℤ) → List ℤ
parts [] = []
parts (x ∷ xs) = x.0 ∷ x.1 ∷ parts xs

-- both parts of a sample, and those of the sample at a place
abbrev pub both : Sample → ℤ × ℤ
both s = (s.i, s.q)

abbrev pub sample_at : List Sample → ℕ → ℤ × ℤ
sample_at samples t = both (get_or samples t (record { i = pos 0; q = pos 0 }))

-- the signs of the chip at a place
abbrev pub signs_at : List (ℤ × ℤ) → ℕ → ℤ × ℤ
signs_at signs t = get_or signs t (pos 0, pos 0)

-- both parts of a number, each times a sign, added up
abbrev pub with_signs : ℤ × ℤ → ℤ × ℤ → ℤ
with_signs x g = (x.0 *ℤ g.0) +ℤ (x.1 *ℤ g.1)

-- a number whose parts have 16 bits
abbrev pub IsShort : ℤ × ℤ → Type 0
IsShort x = FitsSigned w16 x.0 × FitsSigned w16 x.1

-- numbers whose parts are all short, or all signs
abbrev pub AreShort : (ℕ → ℤ × ℤ) → Type 0
AreShort x = (t : ℕ) → IsShort (x t)

abbrev pub AreUnits : (ℕ → ℤ × ℤ) → Type 0
AreUnits g = (t : ℕ) → IsUnit (g t)

-- the real parts of eight products, the first at this place
abbrev pub real_lanes : List Sample → List (ℤ × ℤ) → ℕ → List ℤ
real_lanes samples signs first = eight (λ t. (product_at samples signs t).i) first

abbrev pub imaginary_lanes : List Sample → List (ℤ × ℤ) → ℕ → List ℤ
imaginary_lanes samples signs first = eight (λ t. (product_at samples signs t).q) first

-- eight products: their real parts, and their imaginary parts
pub record AreProducts (samples : List Sample) (signs : List (ℤ × ℤ)) (first : ℕ)
    (real imaginary : List ℤ) : Type 0 where
  pub real_parts : real ≡ real_lanes samples signs first
  pub imaginary_parts : imaginary ≡ imaginary_lanes samples signs first
  pub real_bound : Each1 (λ x. unsigned_abs x ≤ 65536) (real_lanes samples signs first)
  pub imaginary_bound : Each1 (λ x. unsigned_abs x ≤ 65536) (imaginary_lanes samples signs first)

-- eight real and eight imaginary parts, each a possible sum of `groups` products
pub record LanesAreNear (groups : ℕ) (real imaginary : List ℤ) : Type 0 where
  pub real_long : length real ≡ 8
  pub imaginary_long : length imaginary ≡ 8
  pub real_bound : Each1 (λ x. unsigned_abs x ≤ 65536 * groups) real
  pub imaginary_bound : Each1 (λ x. unsigned_abs x ≤ 65536 * groups) imaginary

-- sums of the products of the first `groups` groups of eight samples: together with the products of
-- the remaining samples they are the whole sum
pub record AreSums (samples : List Sample) (signs : List (ℤ × ℤ)) (groups : ℕ)
    (real imaginary : List ℤ) : Type 0 where
  pub near : LanesAreNear groups real imaginary
  pub whole : plus (record { i = total real; q = total imaginary })
      (correlation_with (drop (8 * groups) samples) (drop (8 * groups) signs)) ≡
      correlation_with samples signs

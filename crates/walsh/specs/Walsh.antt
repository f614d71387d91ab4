-- The 64 orthogonal rows (TIA/EIA-95-B, 7.1.3.1.8), and the transform that returns the level of
-- each row.
use Rattle.std.specs.Prelude.{◌≡◌, ℕ, suc, ◌<◌, ◌≤◌, ◌==◌, if◌then◌else◌, Bool, ℤ, pos, ◌+ℤ◌, ◌*ℤ◌}
use Rattle.std.specs.Prelude.{unsigned_abs, List, [], ◌∷◌, map}
use Rattle.chip_core.specs.Bits.{binary, common_parity, sign, places}
use Rattle.chip_core.specs.Sums.{sum_below}
use Rattle.chip_core.specs.declared.sample.Pair.{Pair}

-- chip k of row n: the parity of the bits that are 1 in both numbers
unfoldable pub walsh : ℕ → ℕ → Bool
walsh n k = common_parity (binary 6 n) (binary 6 k)

-- the sum of numbers, each times the sign of a chip of row n, from chip k on
abbrev pub walsh_sum_from : ℕ → ℕ → List ℤ → ℤ
walsh_sum_from n k [] = pos 0
walsh_sum_from n k (x ∷ xs) = (sign (walsh n k) *ℤ x) +ℤ walsh_sum_from n (suc k) xs

-- for each row, the sum of 64 numbers, each times the sign of its chip
unfoldable pub transform : List ℤ → List ℤ
transform xs = map (λ n. walsh_sum_from n 0 xs) (places 64)

-- the two branches of complex numbers
abbrev pub in_phase : List Pair → List ℤ
in_phase values = map (λ v. v.i) values

abbrev pub quadrature : List Pair → List ℤ
quadrature values = map (λ v. v.q) values

-- the absolute value of neither part exceeds the bound
abbrev pub IsWithin : ℕ → Pair → Type 0
IsWithin bound v = (unsigned_abs v.i ≤ bound) × (unsigned_abs v.q ≤ bound)

-- the correlation of two rows: the sum of the products of their signs
unfoldable pub row_sum : ℕ → ℕ → ℤ
row_sum m n = sum_below 64 (λ k. sign (walsh m k) *ℤ sign (walsh n k))

abbrev pub AreOrthogonalRows : Type 0
AreOrthogonalRows = (m n : ℕ) → m < 64 → n < 64 → row_sum m n ≡ (if m == n then pos 64 else pos 0)

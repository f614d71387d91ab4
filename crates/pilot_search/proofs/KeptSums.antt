-- Sums of two numbers, each kept as 64 bits.
use Rattle.pilot_search.proofs.Common.{◌≡◌, ◌+◌, ◌^◌, ◌<◌, ◌≤◌, ◌∙◌, ℕ, sym, subst, arith, ℤ, ◌+ℤ◌, unsigned_abs, FitsSigned, to_z, of_z}
use Rattle.pilot_search.proofs.Common.{w64, fits_signed_from_abs, to_z-of_z, plus, Pair, abs_sum}

read_back : (a : ℤ) → unsigned_abs a < 2 ^ 63 → to_z w64 (of_z w64 a) ≡ a
read_back a small = to_z-of_z w64 a (fits_signed_from_abs w64 a (omega (arith, small)))

abbrev pub kept_sum : ℤ → ℤ → ℤ
kept_sum a b = to_z w64 (of_z w64 a) +ℤ to_z w64 (of_z w64 b)

kept_sum_is : (a b : ℤ) → unsigned_abs a + unsigned_abs b < 2 ^ 63 → kept_sum a b ≡ a +ℤ b
kept_sum_is a b small = λ n. read_back a (omega (arith, small)) n +ℤ read_back b (omega (arith, small)) n

pub kept_sum_fits : (a b : ℤ) → unsigned_abs a + unsigned_abs b < 2 ^ 63 → FitsSigned w64 (kept_sum a b)
kept_sum_fits a b small =
    subst (FitsSigned w64) (sym (kept_sum_is a b small))
    (fits_signed_from_abs w64 (a +ℤ b) (omega (arith, small, abs_sum a b)))

-- the sum, kept as bits too, is the true one
pub kept_sum_back : (a b : ℤ) → unsigned_abs a + unsigned_abs b < 2 ^ 63 → to_z w64 (of_z w64 (kept_sum a b)) ≡ a +ℤ b
kept_sum_back a b small = to_z-of_z w64 (kept_sum a b) (kept_sum_fits a b small) ∙ kept_sum_is a b small

-- and no larger than both together
pub kept_sum_within : (a b : ℤ) (most : ℕ) → unsigned_abs a + unsigned_abs b ≤ most →
    most < 2 ^ 63 → unsigned_abs (to_z w64 (of_z w64 (kept_sum a b))) ≤ most
kept_sum_within a b most within fits =
    subst (λ (z : ℤ). unsigned_abs z ≤ most) (sym (kept_sum_back a b (omega (arith, within, fits))))
    (omega (arith, within, abs_sum a b))

-- the sum of two complex numbers, by its parts
pub plus_kept : (x y : Pair) → unsigned_abs x.i + unsigned_abs y.i < 2 ^ 63 →
    unsigned_abs x.q + unsigned_abs y.q < 2 ^ 63 →
    ◌≡◌ {A = Pair} record {
      i = to_z w64 (of_z w64 (kept_sum x.i y.i));
      q = to_z w64 (of_z w64 (kept_sum x.q y.q));
    } (plus x y)
plus_kept x y small_i small_q = rw (kept_sum_back x.i y.i small_i, kept_sum_back x.q y.q small_q)

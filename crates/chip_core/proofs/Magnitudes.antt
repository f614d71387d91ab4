-- How large signs, sums, differences and signed numbers are at most.
use Rattle.chip_core.proofs.Common.{◌≡◌, ◌+◌, ◌≤◌, Bool, true, false, arith, ℤ, ◌+ℤ◌, ◌*ℤ◌, unsigned_abs, FitsSigned, w16, ◌-ℤ◌, ints, sign}

pub sign_unit : (b : Bool) → unsigned_abs (sign b) ≤ 1
sign_unit true = omega arith
sign_unit false = omega arith

pub abs_signed : (v : ℤ) (b : Bool) → unsigned_abs (v *ℤ sign b) ≡ unsigned_abs v
abs_signed v true = omega (arith, ints)
abs_signed v false = omega (arith, ints)

pub abs_sum : (x y : ℤ) → unsigned_abs (x +ℤ y) ≤ unsigned_abs x + unsigned_abs y
abs_sum x y = omega (arith, ints)

pub abs_difference : (x y : ℤ) → unsigned_abs (x -ℤ y) ≤ unsigned_abs x + unsigned_abs y
abs_difference x y = omega (arith, ints)

pub abs_fits : (z : ℤ) → FitsSigned w16 z → unsigned_abs z ≤ 32768
abs_fits z fits = omega (arith, ints, fits.sfits)

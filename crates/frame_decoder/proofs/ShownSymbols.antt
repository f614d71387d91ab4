-- How two scores compare.
use Rattle.frame_decoder.proofs.Common.{◌≡◌, true, false, arith, ℤ, ◌≤ℤ◌, ◌<ℤ◌, int_lt, ints}

pub lt_true : (x y : ℤ) → x <ℤ y → int_lt x y ≡ true
lt_true x y h = grind (arith, ints, h)

pub le_false : (x y : ℤ) → y ≤ℤ x → int_lt x y ≡ false
le_false x y h = grind (arith, ints, h)

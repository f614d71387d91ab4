-- Numbers that fit a machine integer come back from it.
use Rattle.cell_plan.proofs.Common.{◌≡◌, ◌+◌, ◌*◌, ◌≤◌, ◌^◌, arith, ℤ, ◌+ℤ◌, ◌*ℤ◌, unsigned_abs, to_z, of_z, w64, to_z-of_z, abs_sum}
use Rattle.cell_plan.proofs.Common.{fits_signed_from_abs, unsigned_abs-mul, mul-le-mul}

pub read64 : (z : ℤ) → unsigned_abs z ≤ 2 ^ 62 → to_z w64 (of_z w64 z) ≡ z
read64 z small = to_z-of_z w64 z (fits_signed_from_abs w64 z (omega (arith, small)))

-- ---- a level times a part of the link, added to a sum

pub product_most : (l f : ℤ) → unsigned_abs l ≤ 65535 → unsigned_abs f ≤ 32768 → unsigned_abs (l *ℤ f) ≤ 2 ^ 31
product_most l f small low =
    let most : unsigned_abs l * unsigned_abs f ≤ 65535 * 32768 = mul-le-mul small low in
    omega (arith, most, unsigned_abs-mul l f)

pub level_added : (s l f : ℤ) → unsigned_abs s ≤ 2 ^ 39 → unsigned_abs l ≤ 65535 → unsigned_abs f ≤ 32768 →
    to_z w64 (of_z w64
    (to_z w64 (of_z w64 s) +ℤ to_z w64 (of_z w64 (to_z w64 (of_z w64 l) *ℤ to_z w64 (of_z w64 f)))))
    ≡ s +ℤ (l *ℤ f)
level_added s l f sum small low =
    let product = product_most l f small low in
    rw (
      read64 s (omega (arith, sum)),
      read64 l (omega (arith, small)),
      read64 f (omega (arith, low)),
      read64 (l *ℤ f) (omega (arith, product)),
    )
    (read64 (s +ℤ (l *ℤ f)) (omega (arith, sum, product, abs_sum s (l *ℤ f))))

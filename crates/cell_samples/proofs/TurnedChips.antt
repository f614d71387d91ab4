-- A chip times a point of the codes, whose parts have 16 bits.
use Rattle.cell_samples.proofs.Common.{◌≡◌, ◌+◌, ◌*◌, ◌≤◌, ◌∙◌, ℤ, ◌+ℤ◌, ◌-ℤ◌, ◌*ℤ◌, unsigned_abs, FitsSigned, arith, refl, to_z, of_z, w8}
use Rattle.cell_samples.proofs.Common.{w16, to_z-of_z, fits_signed_from_abs, of_sample, Sample, IsPoint, IsTurned, abs_sum, abs_difference}
use Rattle.cell_samples.proofs.Common.{unsigned_abs-mul}
use Rattle.std.proofs.lemmas.Nat.{mul-le}

read8 : (z : ℤ) → unsigned_abs z ≤ 1 → to_z w8 (of_z w8 z) ≡ z
read8 z small = to_z-of_z w8 z (fits_signed_from_abs w8 z (omega (arith, small)))

read16 : (z : ℤ) → unsigned_abs z ≤ 32767 → to_z w16 (of_z w16 z) ≡ z
read16 z small = to_z-of_z w16 z (fits_signed_from_abs w16 z (omega (arith, small)))

difference_is : (x y : ℤ) → unsigned_abs x + unsigned_abs y ≤ 32767 →
    to_z w16 (of_z w16 (to_z w16 (of_z w16 x) -ℤ to_z w16 (of_z w16 y))) ≡ x -ℤ y
difference_is x y small =
    rw (read16 x (omega (arith, small)), read16 y (omega (arith, small)))
    (read16 (x -ℤ y) (omega (arith, small, abs_difference x y)))

sum_is : (x y : ℤ) → unsigned_abs x + unsigned_abs y ≤ 32767 →
    to_z w16 (of_z w16 (to_z w16 (of_z w16 x) +ℤ to_z w16 (of_z w16 y))) ≡ x +ℤ y
sum_is x y small =
    rw (read16 x (omega (arith, small)), read16 y (omega (arith, small)))
    (read16 (x +ℤ y) (omega (arith, small, abs_sum x y)))

-- a part times a sign that was made as wide is no larger than the part
pub signed_within : (part sign : ℤ) → unsigned_abs sign ≤ 1 → unsigned_abs (part *ℤ sign) ≤ unsigned_abs part
signed_within part sign unit =
    let most : unsigned_abs part * unsigned_abs sign ≤ unsigned_abs part * 1 =
    mul-le (unsigned_abs part) (unsigned_abs sign) (unsigned_abs part) 1 (omega arith) unit in
    omega (arith, most, unsigned_abs-mul part sign)

pub with_sign_fits : (part sign wide : ℤ) → unsigned_abs part ≤ 32767 → unsigned_abs sign ≤ 1 →
    wide ≡ to_z w8 (of_z w8 sign) → FitsSigned w16 (to_z w16 (of_z w16 part) *ℤ to_z w16 (of_z w16 wide))
with_sign_fits part sign wide small unit is =
    rw (is ∙ read8 sign unit, read16 part small, read16 sign (omega (arith, unit)))
    (fits_signed_from_abs w16 (part *ℤ sign) (omega (arith, small, signed_within part sign unit)))

pub with_sign_is : (part sign wide : ℤ) → unsigned_abs part ≤ 32767 → unsigned_abs sign ≤ 1 →
    wide ≡ to_z w8 (of_z w8 sign) →
    to_z w16 (of_z w16 (to_z w16 (of_z w16 part) *ℤ to_z w16 (of_z w16 wide))) ≡ part *ℤ sign
with_sign_is part sign wide small unit is =
    rw (is ∙ read8 sign unit, read16 part small, read16 sign (omega (arith, unit)))
    (read16 (part *ℤ sign) (omega (arith, small, signed_within part sign unit)))

-- a part with a sign, by what is known of both in their bits
pub record IsSigned (part sign made : ℤ) : Type 0 where
  pub value : made ≡ to_z w16 (of_z w16 part) *ℤ to_z w8 (of_z w8 sign)
  pub bound : unsigned_abs made ≤ unsigned_abs (to_z w16 (of_z w16 part))

signed_is : (part sign made : ℤ) → unsigned_abs part ≤ 32767 → unsigned_abs sign ≤ 1 →
    IsSigned part sign made → made ≡ part *ℤ sign
signed_is part sign made small unit is = is.value ∙ rw (read16 part small, read8 sign unit) refl

signed_most : (part sign made : ℤ) → unsigned_abs part ≤ 32767 → IsSigned part sign made →
    unsigned_abs made ≤ unsigned_abs part
signed_most part sign made small is = rw (read16 part small) at is.bound

-- parts of a quiet chip with signs are as quiet
signed_small : (x y s t a b : ℤ) → unsigned_abs x + unsigned_abs y ≤ 32767 → IsSigned x s a →
    IsSigned y t b → unsigned_abs a + unsigned_abs b ≤ 32767
signed_small x y s t a b small first second =
    let one = signed_most x s a (omega (arith, small)) first in
    let other = signed_most y t b (omega (arith, small)) second in
    omega (arith, small, one, other)

pub difference_fits : (chip : Sample) (signs : ℤ × ℤ) (a b : ℤ) → unsigned_abs chip.i + unsigned_abs chip.q ≤ 32767 →
    IsSigned chip.i signs.0 a → IsSigned chip.q signs.1 b →
    FitsSigned w16 (to_z w16 (of_z w16 a) -ℤ to_z w16 (of_z w16 b))
difference_fits chip signs a b quiet first second =
    let small = signed_small _ _ _ _ a b quiet first second in
    rw (read16 a (omega (arith, small)), read16 b (omega (arith, small)))
    (fits_signed_from_abs w16 (a -ℤ b) (omega (arith, small, abs_difference a b)))

pub sum_fits : (chip : Sample) (signs : ℤ × ℤ) (a b : ℤ) → unsigned_abs chip.i + unsigned_abs chip.q ≤ 32767 →
    IsSigned chip.i signs.1 a → IsSigned chip.q signs.0 b →
    FitsSigned w16 (to_z w16 (of_z w16 a) +ℤ to_z w16 (of_z w16 b))
sum_fits chip signs a b quiet first second =
    let small = signed_small _ _ _ _ a b quiet first second in
    rw (read16 a (omega (arith, small)), read16 b (omega (arith, small)))
    (fits_signed_from_abs w16 (a +ℤ b) (omega (arith, small, abs_sum a b)))

-- A chip times a point of the codes fits into 16 bits: the point's parts are 1 or -1, so each
-- product is one part of the chip or its negative, and the sum or the difference of two is at most
-- as large as both parts together, which is 32,767.
pub turned_is : (chip : Sample) (signs : ℤ × ℤ) (a b d e : ℤ) →
    unsigned_abs chip.i + unsigned_abs chip.q ≤ 32767 → IsPoint signs →
    IsSigned chip.i signs.0 a → IsSigned chip.q signs.1 b → IsSigned chip.i signs.1 d → IsSigned chip.q signs.0 e →
    IsTurned (of_sample chip) signs (record {
      i = to_z w16 (of_z w16 (to_z w16 (of_z w16 a) -ℤ to_z w16 (of_z w16 b)));
      q = to_z w16 (of_z w16 (to_z w16 (of_z w16 d) +ℤ to_z w16 (of_z w16 e)));
    })
turned_is chip signs a b d e quiet point a_signed b_signed d_signed e_signed =
    let x : unsigned_abs chip.i ≤ 32767 = omega (arith, quiet) in
    let y : unsigned_abs chip.q ≤ 32767 = omega (arith, quiet) in
    let i = difference_is a b (signed_small _ _ _ _ a b quiet a_signed b_signed) in
    let q = sum_is d e (signed_small _ _ _ _ d e quiet d_signed e_signed) in
    let a_most = signed_most _ _ a x a_signed in
    let b_most = signed_most _ _ b y b_signed in
    let d_most = signed_most _ _ d x d_signed in
    let e_most = signed_most _ _ e y e_signed in
    let a_is = signed_is _ _ a x point.0 a_signed in
    let b_is = signed_is _ _ b y point.1 b_signed in
    let d_is = signed_is _ _ d x point.1 d_signed in
    let e_is = signed_is _ _ e y point.0 e_signed in
    record {
      value = rw (i, q, a_is, b_is, d_is, e_is) refl;
      in_phase = rw i (omega (arith, a_most, b_most, abs_difference a b));
      quadrature = rw q (omega (arith, d_most, e_most, abs_sum d e));
    }

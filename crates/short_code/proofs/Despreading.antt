-- Samples times the conjugate of the codes' points.
use Rattle.std.proofs.Common.{◌≡◌, ℕ, suc, ◌+◌, ◌*◌, ◌≤◌, List, [], ◌∷◌, ◌++◌, length, ap, ◌∙◌, arith, refl, ℤ, ◌+ℤ◌, ◌-ℤ◌, ◌*ℤ◌, to_z, w8}
use Rattle.std.proofs.Common.{unsigned_abs, FitsSigned, of_z, w16, w32, w64}
use Rattle.std.proofs.lemmas.Int.{fits_signed_from_abs, to_z-of_z, unsigned_abs-mul}
use Rattle.std.proofs.lemmas.Nat.{mul-le}
use Rattle.chip_core.specs.Complex.{times, conjugate, of_sample}
use Rattle.chip_core.specs.declared.sample.Pair.{Pair}
use Rattle.chip_core.specs.declared.sample.Sample.{Sample}
use Rattle.chip_core.proofs.ComplexSums.{real_part, imaginary_part}
use Rattle.chip_core.proofs.Magnitudes.{abs_fits, abs_sum, abs_difference}
use Rattle.short_code.specs.Despread.{code_point, despread, turned}

pub despread-append : (xs ys : List Sample) (phase : ℕ) →
    despread phase (xs ++ ys) ≡ despread phase xs ++ despread (phase + length xs) ys
despread-append [] ys phase = let place : phase + 0 ≡ phase = omega arith in rw place
despread-append (x ∷ xs) ys phase =
    let place : phase + 1 + length xs ≡ phase + suc (length xs) = omega arith in
    ap (λ (ps : List Pair). times (of_sample x) (conjugate (code_point phase)) ∷ ps)
    (rw (← place) (despread-append xs ys (phase + 1)))

-- the product by its two parts
pub turned_is : (s : Sample) (signs : ℤ × ℤ) (i q : ℤ) → i ≡ (s.i *ℤ signs.0) +ℤ (s.q *ℤ signs.1) →
    q ≡ (s.q *ℤ signs.0) -ℤ (s.i *ℤ signs.1) →
    ◌≡◌ {A = Pair} record { i = i; q = q } (turned s signs)
turned_is s signs i q e f = rw (e ∙ real_part s.i s.q signs.0 signs.1, f ∙ imaginary_part s.i s.q signs.0 signs.1)

-- a branch times a sign, both as their bits hold them
pub branch_is : (branch sign made : ℤ) → FitsSigned w16 branch → unsigned_abs sign ≤ 1 →
    made ≡ to_z w16 (of_z w16 branch) *ℤ to_z w8 (of_z w8 sign) → made ≡ branch *ℤ sign
branch_is branch sign made fits unit is =
    is
    ∙ rw (to_z-of_z w16 branch fits, to_z-of_z w8 sign (fits_signed_from_abs w8 sign (omega (arith, unit))))
    refl

-- a branch comes back from 32 bits, and a sign makes it no larger
kept_branch : (x : ℤ) → unsigned_abs x ≤ 32768 → to_z w32 (of_z w32 x) ≡ x
kept_branch x small = to_z-of_z w32 x (fits_signed_from_abs w32 x (omega (arith, small)))

pub branch_most : (branch sign : ℤ) → FitsSigned w16 branch → unsigned_abs sign ≤ 1 →
    unsigned_abs (branch *ℤ sign) ≤ 32768
branch_most branch sign fits unit =
    omega (
      arith,
      unsigned_abs-mul branch sign,
      mul-le (unsigned_abs branch) (unsigned_abs sign) 32768 1 (abs_fits branch fits) unit,
    )

-- the product, as 32 bits hold both
pub branch_kept : (branch sign wide_branch wide_sign : ℤ) → FitsSigned w16 branch →
    unsigned_abs sign ≤ 1 → wide_branch ≡ to_z w16 (of_z w16 branch) → wide_sign ≡ to_z w8 (of_z w8 sign) →
    to_z w32 (of_z w32 (to_z w32 (of_z w32 wide_branch) *ℤ to_z w32 (of_z w32 wide_sign))) ≡ branch *ℤ sign
branch_kept branch sign wide_branch wide_sign fits unit b s =
    rw (
      b ∙ to_z-of_z w16 branch fits,
      s ∙ to_z-of_z w8 sign (fits_signed_from_abs w8 sign (omega (arith, unit))),
      kept_branch branch (abs_fits branch fits),
      kept_branch sign (omega (arith, unit)),
    )
    (kept_branch (branch *ℤ sign) (branch_most branch sign fits unit))

-- the sum or the difference of two turned branches, made with 32 bits and kept with 64
kept_wide : (x made : ℤ) → unsigned_abs x ≤ 65536 → made ≡ to_z w32 (of_z w32 x) → to_z w64 (of_z w64 made) ≡ x
kept_wide x made small is =
    rw (is ∙ to_z-of_z w32 x (fits_signed_from_abs w32 x (omega (arith, small))))
    (to_z-of_z w64 x (fits_signed_from_abs w64 x (omega (arith, small))))

pub branches_added : (x y made : ℤ) → unsigned_abs x ≤ 32768 → unsigned_abs y ≤ 32768 →
    made ≡ to_z w32 (of_z w32 (to_z w32 (of_z w32 x) +ℤ to_z w32 (of_z w32 y))) → to_z w64 (of_z w64 made) ≡ x +ℤ y
branches_added x y made h g is =
    kept_wide (x +ℤ y) made (omega (arith, h, g, abs_sum x y)) (rw (kept_branch x h, kept_branch y g) at is)

pub branches_taken : (x y made : ℤ) → unsigned_abs x ≤ 32768 → unsigned_abs y ≤ 32768 →
    made ≡ to_z w32 (of_z w32 (to_z w32 (of_z w32 x) -ℤ to_z w32 (of_z w32 y))) → to_z w64 (of_z w64 made) ≡ x -ℤ y
branches_taken x y made h g is =
    kept_wide (x -ℤ y) made (omega (arith, h, g, abs_difference x y)) (rw (kept_branch x h, kept_branch y g) at is)

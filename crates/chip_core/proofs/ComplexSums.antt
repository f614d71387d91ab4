-- Sums of complex numbers, and products with a conjugate.
use Rattle.chip_core.proofs.Common.{◌≡◌, List, [], ◌∷◌, ◌++◌, sym, ap, ◌∙◌, arith, ℤ, pos, ◌+ℤ◌, ◌-ℤ◌, ◌*ℤ◌, ints}
use Rattle.std.proofs.Math.IntN.{neg_ℤ, +ℤ_assoc}
use Rattle.chip_core.specs.Complex.{origin, plus, sum_of}
use Rattle.chip_core.specs.declared.sample.Pair.{Pair}
use Rattle.chip_core.proofs.Ring.{times_neg}

pub plus_assoc : (x y z : Pair) → plus (plus x y) z ≡ plus x (plus y z)
plus_assoc x y z =
    let e : (x.i +ℤ y.i) +ℤ z.i ≡ x.i +ℤ (y.i +ℤ z.i) = +ℤ_assoc x.i y.i z.i in
    let f : (x.q +ℤ y.q) +ℤ z.q ≡ x.q +ℤ (y.q +ℤ z.q) = +ℤ_assoc x.q y.q z.q in
    cc

pub plus-origin : (x : Pair) → plus x origin ≡ x
plus-origin x =
    let e : x.i +ℤ pos 0 ≡ x.i = omega (arith, ints) in
    let f : x.q +ℤ pos 0 ≡ x.q = omega (arith, ints) in
    rw (e, f)

pub origin-plus : (x : Pair) → plus origin x ≡ x
origin-plus x =
    let e : pos 0 +ℤ x.i ≡ x.i = omega (arith, ints) in
    let f : pos 0 +ℤ x.q ≡ x.q = omega (arith, ints) in
    rw (e, f)

pub sum_of-append : (xs ys : List Pair) → sum_of (xs ++ ys) ≡ plus (sum_of xs) (sum_of ys)
sum_of-append [] ys = sym (origin-plus (sum_of ys))
sum_of-append (x ∷ xs) ys = ap (plus x) (sum_of-append xs ys) ∙ sym (plus_assoc x (sum_of xs) (sum_of ys))

-- the parts of (x + iy) times the conjugate of (c + id)
pub real_part : (x y c d : ℤ) → (x *ℤ c) +ℤ (y *ℤ d) ≡ (x *ℤ c) -ℤ (y *ℤ neg_ℤ d)
real_part x y c d = rw (times_neg y d) (omega (arith, ints))

pub imaginary_part : (x y c d : ℤ) → (y *ℤ c) -ℤ (x *ℤ d) ≡ (x *ℤ neg_ℤ d) +ℤ (y *ℤ c)
imaginary_part x y c d = rw (times_neg x d) (omega (arith, ints))

-- Complex numbers with integer parts: I is the real part, and Q the imaginary one.
use Rattle.std.specs.Prelude.{ℕ, ◌+◌, Bool, List, [], ◌∷◌, pos, ◌+ℤ◌, ◌-ℤ◌, ◌*ℤ◌, neg_ℤ}
use Rattle.chip_core.specs.Bits.{sign}
use Rattle.chip_core.specs.Sums.{square}
use Rattle.chip_core.specs.declared.sample.Pair.{Pair}
use Rattle.chip_core.specs.declared.sample.Sample.{Sample}

abbrev pub origin : Pair
origin = record { i = pos 0; q = pos 0 }

abbrev pub plus : Pair → Pair → Pair
plus x y = record { i = x.i +ℤ y.i; q = x.q +ℤ y.q }

abbrev pub times : Pair → Pair → Pair
times x y = record { i = (x.i *ℤ y.i) -ℤ (x.q *ℤ y.q); q = (x.i *ℤ y.q) +ℤ (x.q *ℤ y.i) }

abbrev pub conjugate : Pair → Pair
conjugate x = record { i = x.i; q = neg_ℤ x.q }

abbrev pub sum_of : List Pair → Pair
sum_of [] = origin
sum_of (x ∷ xs) = plus x (sum_of xs)

-- the square of the absolute value
abbrev pub norm : Pair → ℕ
norm x = square x.i + square x.q

-- two code chips, I and then Q, as a point of the constellation
abbrev pub point : Bool × Bool → Pair
point chips = record { i = sign chips.0; q = sign chips.1 }

abbrev pub of_sample : Sample → Pair
of_sample s = record { i = s.i; q = s.q }

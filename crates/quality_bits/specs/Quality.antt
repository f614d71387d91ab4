-- Frame quality indicators and message checks, as remainders.
use Rattle.std.specs.Prelude.{ℕ, Bool, true, false, not, List, [], ◌∷◌, ◌++◌, replicate, map}
use Rattle.chip_core.specs.Polynomial.{coefficients, plus_at_front, remainder}

-- a generator: its degree, and the powers below it
pub record Generator : Type 0 where
  pub degree : ℕ
  pub powers : List ℕ

abbrev pub q6 : Generator
q6 = record { degree = 6; powers = 2 ∷ 1 ∷ 0 ∷ [] }

abbrev pub q8 : Generator
q8 = record { degree = 8; powers = 7 ∷ 4 ∷ 3 ∷ 1 ∷ 0 ∷ [] }

abbrev pub q10 : Generator
q10 = record { degree = 10; powers = 9 ∷ 8 ∷ 7 ∷ 6 ∷ 4 ∷ 3 ∷ 0 ∷ [] }

abbrev pub q12 : Generator
q12 = record { degree = 12; powers = 11 ∷ 10 ∷ 9 ∷ 8 ∷ 4 ∷ 1 ∷ 0 ∷ [] }

abbrev pub m16 : Generator
m16 = record { degree = 16; powers = 12 ∷ 5 ∷ 0 ∷ [] }

abbrev pub m30 : Generator
m30 = record { degree = 30; powers = 29 ∷ 21 ∷ 20 ∷ 15 ∷ 13 ∷ 12 ∷ 11 ∷ 8 ∷ 7 ∷ 6 ∷ 2 ∷ 1 ∷ 0 ∷ [] }

-- a generator's coefficients below its degree
abbrev pub below_of : Generator → List Bool
below_of g = coefficients g.degree g.powers

-- The remainder of the bits times x^degree, with ones added to the first `degree` coefficients.
unfoldable pub check_bits : Generator → List Bool → List Bool
check_bits g bits =
    remainder (below_of g)
    (plus_at_front (bits ++ replicate g.degree false) (replicate g.degree true))

abbrev pub inverted : List Bool → List Bool
inverted bits = map not bits

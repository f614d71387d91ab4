-- Numbers at places of a list of bits.
use Rattle.std.specs.Prelude.{ℕ, zero, suc, Bool, List, [], ◌∷◌, take, drop}
use Rattle.chip_core.specs.Bits.{number}

-- the number that `width` bits after a place spell
abbrev pub number_at : ℕ → ℕ → List Bool → ℕ
number_at place width bits = number (take width (drop place bits))

-- the numbers of fields of these widths, one after another
abbrev pub values_at : List ℕ → List Bool → List ℕ
values_at [] bits = []
values_at (width ∷ widths) bits = number_at 0 width bits ∷ values_at widths (drop width bits)

-- the number at a place of each of the first n records, all of `size` bits
abbrev pub column_at : ℕ → ℕ → ℕ → ℕ → List Bool → List ℕ
column_at size place width zero bits = []
column_at size place width (suc n) bits =
    number_at place width bits ∷ column_at size place width n (drop size bits)

-- Soft values of any size with the signs of symbols.
use Rattle.viterbi.specs.Common.{sign}
use Rattle.std.specs.Prelude.{Bool, List, ℤ, pos, ◌*ℤ◌, ◌<ℤ◌}
use Rattle.std.specs.List.{AllZip}

-- A soft value has the sign of a symbol if it is above 0 and the symbol is 0, or it is below 0 and
-- the symbol is 1. A soft value of 0 has the sign of neither symbol.
abbrev pub HasSign : Bool → ℤ → Type 0
HasSign b z = pos 0 <ℤ (z *ℤ sign b)

-- There are as many soft values as symbols, and each has the sign of its symbol.
abbrev pub HaveSigns : List Bool → List ℤ → Type 0
HaveSigns symbols softs = AllZip HasSign symbols softs

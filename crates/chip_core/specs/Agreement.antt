-- How well soft values agree with symbols.
use Rattle.std.specs.Prelude.{Bool, List, ℤ, ◌*ℤ◌}
use Rattle.chip_core.specs.Bits.{sign, zip_with}
use Rattle.chip_core.specs.Sums.{total}

-- the sum of the soft values, each with the sign of its symbol
abbrev pub agreement : List ℤ → List Bool → ℤ
agreement softs symbols = total (zip_with (λ v b. v *ℤ sign b) softs symbols)

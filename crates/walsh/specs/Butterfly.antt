-- One stage of butterflies: two entries that differ in one bit of their place become their sum and
-- their difference.
use Rattle.std.specs.Prelude.{◌≡◌, ℕ, ◌+◌, ◌-◌, ◌^◌, ◌<◌, if◌then◌else◌, ◌-ℤ◌, List, get_or}
use Rattle.chip_core.specs.Bits.{bit_of}
use Rattle.chip_core.specs.Complex.{origin, plus}
use Rattle.chip_core.specs.declared.sample.Pair.{Pair}
use Rattle.walsh.specs.Walsh.{IsWithin}

abbrev pub minus : Pair → Pair → Pair
minus x y = record { i = x.i -ℤ y.i; q = x.q -ℤ y.q }

abbrev pub entry : List Pair → ℕ → Pair
entry values n = get_or values n origin

-- entry n after the stage of this bit
unfoldable pub butterfly : ℕ → List Pair → ℕ → Pair
butterfly bit values n =
    if bit_of n bit
    then minus (entry values (n - 2 ^ bit)) (entry values n)
    else plus (entry values n) (entry values (n + 2 ^ bit))

-- the new entries are those of the stage
abbrev pub IsStage : ℕ → List Pair → List Pair → Type 0
IsStage bit old new = (n : ℕ) → n < 64 → entry new n ≡ butterfly bit old n

-- all entries are within a bound
abbrev pub EntriesAreWithin : ℕ → List Pair → Type 0
EntriesAreWithin bound values = (n : ℕ) → n < 64 → IsWithin bound (entry values n)

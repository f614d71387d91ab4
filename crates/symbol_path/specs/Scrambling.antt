-- Data scrambling and the power control subchannel (TIA/EIA-95-B, 7.1.3.1.6 and 7.1.3.1.7).
use Rattle.std.specs.Prelude.{ℕ, zero, suc, ◌+◌, ◌*◌, ◌/◌, ◌==◌, if◌then◌else◌, Bool, false, List}
use Rattle.std.specs.Prelude.{[], ◌∷◌, map, get_or}
use Rattle.std.specs.List.{flat_map, list_any}
use Rattle.chip_core.specs.Bits.{places, digit}
use Rattle.long_code.specs.LongCode.{after, before, long_chip}

-- the long-code chips at the first chips of n symbols of 64 chips
unfoldable pub scrambling_chips : ℕ → ℕ → ℕ → List Bool
scrambling_chips state mask count = map (λ i. long_chip state mask (64 * i)) (places count)

-- the scrambling bits of a frame of 384 symbols
abbrev pub scrambling : ℕ → ℕ → List Bool
scrambling state mask = scrambling_chips state mask 384

-- the scrambling bits of a power control group of 24 symbols
abbrev pub group_scrambling : ℕ → ℕ → List Bool
group_scrambling state mask = scrambling_chips state mask 24

-- the place at which a group's power control bit begins, from the previous group's scrambling bits
abbrev pub power_start : List Bool → ℕ
power_start previous =
    8 * digit (get_or previous 23 false) + 4 * digit (get_or previous 22 false) +
    2 * digit (get_or previous 21 false) + digit (get_or previous 20 false)

-- The place in the frame of the first symbol that group g's power control bit replaces. Group g
-- begins 1,536 g chips after the frame's state, and the group before it 1,536 chips earlier.
abbrev pub power_place : ℕ → ℕ → ℕ → ℕ
power_place state mask zero = power_start (group_scrambling (before state 1536) mask)
power_place state mask (suc g) =
    24 * suc g + power_start (group_scrambling (after state (1536 * g)) mask)

-- the places of the symbols that a frame's 16 power control bits replace, two for each bit
unfoldable pub power_places : ℕ → ℕ → List ℕ
power_places state mask =
    flat_map (λ g. power_place state mask g ∷ (power_place state mask g + 1) ∷ []) (places 16)

-- Symbol i of a frame with its power control bits: the bit of its group of 24 if i is one of these
-- places, otherwise the symbol itself.
abbrev pub symbol_or_power_bit : List ℕ → List Bool → List Bool → ℕ → Bool
symbol_or_power_bit replaced power_bits symbols i =
    if list_any (λ place. place == i) replaced then get_or power_bits (i / 24) false
    else get_or symbols i false

-- the symbols of a frame with its 16 power control bits, each of which replaces two of them
unfoldable pub with_power_bits : ℕ → ℕ → List Bool → List Bool → List Bool
with_power_bits state mask power_bits symbols =
    map (symbol_or_power_bit (power_places state mask) power_bits symbols) (places 384)

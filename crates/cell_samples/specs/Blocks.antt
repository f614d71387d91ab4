-- The channels of a cell over blocks of 64 chips.
use Rattle.std.specs.Prelude.{◌≡◌, ℕ, ◌+◌, ◌%◌, ◌<◌, ◌≤◌, List, All, length, map, get_or, ℤ, pos}
use Rattle.std.specs.Prelude.{unsigned_abs}
use Rattle.chip_core.specs.Complex.{of_sample, origin, times}
use Rattle.chip_core.specs.declared.sample.Pair.{Pair}
use Rattle.chip_core.specs.declared.sample.Sample.{Sample}
use Rattle.walsh.specs.Walsh.{IsWithin}
use Rattle.cell_plan.specs.Signal.{Carrier, amplitudes, level, scaled}
use Rattle.cell_plan.specs.Transmitter.{point_of}
use Rattle.cell_samples.specs.Channels.{ChannelState, carrier_of}

-- a cell's channels, and the factor of its link
pub record BlockState : Type 0 where
  pub channels : List ChannelState
  pub factor : Pair

-- the factor times the channels' sum at a local chip, before it is multiplied by the codes' point
abbrev pub chip_at : BlockState → ℕ → Pair
chip_at b chip = scaled (amplitudes chip (map carrier_of b.channels)) b.factor

-- a gain with a sign, or 0
abbrev pub IsLevel : ℤ → Type 0
IsLevel l = unsigned_abs l ≤ 65535

-- the levels of the first carriers over the 64 chips from a local chip on
abbrev pub AreFirstLevels : ℕ → List Carrier → ℕ → List ℤ → Type 0
AreFirstLevels first cs done levels = (n : ℕ) (none : Carrier) → n < done → (k : ℕ) → k < 64 →
    level (first + k) (get_or cs n none) ≡ get_or levels n (pos 0)

-- the levels of all carriers over these chips
abbrev pub AreLevels : ℕ → List Carrier → List ℤ → Type 0
AreLevels first cs levels = AreFirstLevels first cs (length cs) levels

-- the sums over any block in which the carriers have these levels, each times the factor
abbrev pub AreBlockSums : List Carrier → Pair → List ℤ → List Pair → Type 0
AreBlockSums cs factor levels sums = (first : ℕ) → first % 64 ≡ 0 → AreLevels first cs levels →
    (k : ℕ) → k < 64 → get_or sums k origin ≡ scaled (amplitudes (first + k) cs) factor

-- the same sums as samples
abbrev pub no_sample : Sample
no_sample = record { i = pos 0; q = pos 0 }

abbrev pub AreChips : List Carrier → Pair → List ℤ → List Sample → Type 0
AreChips cs factor levels chips = (first : ℕ) → first % 64 ≡ 0 → AreLevels first cs levels →
    (k : ℕ) → k < 64 →
    of_sample (get_or chips k no_sample) ≡ scaled (amplitudes (first + k) cs) factor

-- small enough for a sample, whatever the codes' point
abbrev pub IsQuiet : Pair → Type 0
IsQuiet chip = unsigned_abs chip.i + unsigned_abs chip.q ≤ 32767

abbrev pub AreQuiet : List Carrier → Pair → Type 0
AreQuiet cs factor = (chip : ℕ) → IsQuiet (scaled (amplitudes chip cs) factor)

-- channels, with the levels and chips that are kept of a block
pub record IsKeptBlock (channels : List ChannelState) (factor : Pair) (levels : List ℤ)
    (chips : List Sample) : Type 0 where
  pub few : length channels ≤ 128
  pub low : IsWithin 32768 factor
  pub quiet : AreQuiet (map carrier_of channels) factor
  pub small : All IsLevel levels
  pub sums : AreChips (map carrier_of channels) factor levels chips

-- a chip times the codes' point with these signs, no louder than the chip
pub record IsTurned (chip : Pair) (signs : ℤ × ℤ) (sample : Sample) : Type 0 where
  pub value : of_sample sample ≡ times chip (point_of signs)
  pub in_phase : unsigned_abs sample.i ≤ unsigned_abs chip.i + unsigned_abs chip.q
  pub quadrature : unsigned_abs sample.q ≤ unsigned_abs chip.i + unsigned_abs chip.q

-- the first `done` of these chips, each times its point
abbrev pub AreTurned : (ℕ → Pair) → List (ℤ × ℤ) → ℕ → List Sample → Type 0
AreTurned chips signs done samples = (k : ℕ) → k < done →
    IsTurned (chips k) (get_or signs k (pos 0, pos 0)) (get_or samples k no_sample)

-- The rates of rate set 2, and the sizes of a frame of each.
use Rattle.std.specs.Prelude.{ℕ, ◌/◌, true, Option, Some}
use Rattle.quality_bits.specs.Formats.{RateRow, bits_in, format_by}
use Rattle.quality_bits.specs.declared.format.FrameFormat.{FrameFormat}
use Rattle.quality_bits.specs.declared.kind.Kind.{Kind}
use Rattle.quality_bits.specs.declared.kind.Kind.TheVariants.{Q6, Q8, Q10, Q12}
use Rattle.symbol_path.specs.declared.rate_two.Rate2.{Rate2}
use Rattle.symbol_path.specs.declared.rate_two.Rate2.TheVariants.{R14400, R7200, R3600, R1800}

-- the rows of rate set 2; the reserved bit counts as an information bit
abbrev pub rate_row2 : Rate2 → RateRow
rate_row2 R14400 = record { information = 268; quality = Some Q12; repeats = 1 }
rate_row2 R7200 = record { information = 126; quality = Some Q10; repeats = 2 }
rate_row2 R3600 = record { information = 56; quality = Some Q8; repeats = 4 }
rate_row2 R1800 = record { information = 22; quality = Some Q6; repeats = 8 }

-- how many information bits a frame has, the reserved bit first
abbrev pub information_of2 : Rate2 → ℕ
information_of2 rate = (rate_row2 rate).information

-- the kind of a frame's quality indicator
abbrev pub quality_of2 : Rate2 → Option Kind
quality_of2 rate = (rate_row2 rate).quality

-- how often each code symbol of a rate is repeated
abbrev pub repeats_of2 : Rate2 → ℕ
repeats_of2 rate = (rate_row2 rate).repeats

-- the rate's format: the third and the fifth of each six repeated symbols are dropped
abbrev pub format_of2 : Rate2 → FrameFormat Rate2
format_of2 rate = format_by rate (rate_row2 rate) true

-- how many bits a frame has, including its quality indicator and its eight tail bits
abbrev pub frame_bits2 : Rate2 → ℕ
frame_bits2 rate = bits_in (format_of2 rate)

-- how many code symbols a frame has: repetition makes them 576
abbrev pub symbols_of : Rate2 → ℕ
symbols_of rate = 576 / repeats_of2 rate

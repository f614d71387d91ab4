-- The rates of rate set 1, and the bits of the frames of its traffic channels (TIA/EIA-95-B,
-- 7.1.3.1.4 and 7.1.3.5).
use Rattle.std.specs.Prelude.{ℕ, Bool, false, List, Option, Some, None}
use Rattle.quality_bits.specs.Formats.{RateRow, format_by, format_codeword}
use Rattle.quality_bits.specs.declared.format.FrameFormat.{FrameFormat}
use Rattle.quality_bits.specs.declared.kind.Kind.{Kind}
use Rattle.quality_bits.specs.declared.kind.Kind.TheVariants.{Q8, Q12}
use Rattle.quality_bits.specs.declared.rate.Rate.{Rate}
use Rattle.quality_bits.specs.declared.rate.Rate.TheVariants.{R9600, R4800, R2400, R1200}

-- the rows of rate set 1
abbrev pub rate_row : Rate → RateRow
rate_row R9600 = record { information = 172; quality = Some Q12; repeats = 1 }
rate_row R4800 = record { information = 80; quality = Some Q8; repeats = 2 }
rate_row R2400 = record { information = 40; quality = None; repeats = 4 }
rate_row R1200 = record { information = 16; quality = None; repeats = 8 }

-- its formats, which drop no repeated symbols
abbrev pub format_of : Rate → FrameFormat Rate
format_of rate = format_by rate (rate_row rate) false

-- the number of times that each code symbol of a rate is sent
abbrev pub repeats_of : Rate → ℕ
repeats_of rate = (rate_row rate).repeats

-- the number of information bits in a frame
abbrev pub information_of : Rate → ℕ
information_of rate = (rate_row rate).information

-- the kind of its quality indicator, if it has one
abbrev pub quality_of : Rate → Option Kind
quality_of rate = (rate_row rate).quality

-- the bits of a frame: its information, its quality indicator, and eight tail bits
abbrev pub traffic_codeword : Rate → List Bool → List Bool
traffic_codeword rate information = format_codeword (format_of rate) information

-- The frames of a rate of any rate set (TIA/EIA-95-B, 7.1.3.1.4 and 7.1.3.5).
use Rattle.std.specs.Prelude.{◌≡◌, ℕ, ◌+◌, ◌*◌, ◌≤◌, Bool, false, if◌then◌else◌, List, ◌++◌, Option}
use Rattle.std.specs.Prelude.{replicate}
use Rattle.quality_bits.specs.Kinds.{quality_indicator, quality_length}
use Rattle.quality_bits.specs.declared.kind.Kind.{Kind}
use Rattle.quality_bits.specs.declared.format.FrameFormat.{FrameFormat}

-- a row of the table of a rate set: the number of information bits in a frame, the kind of its
-- quality indicator, if it has one, and the number of times that each code symbol occurs
pub record RateRow : Type 0 where
  pub information : ℕ
  pub quality : Option Kind
  pub repeats : ℕ

-- the format of a rate with this row, in a set whose frames drop the third and the fifth of each
-- six repeated symbols, or in one whose frames drop none
abbrev pub format_by : {R : Type 0} → R → RateRow → Bool → FrameFormat R
format_by rate row drops = record {
  rate = rate;
  information = row.information;
  quality = row.quality;
  repeats = row.repeats;
  drops = drops;
}

-- the number of bits in a frame: its information, its quality indicator, and eight tail bits
abbrev pub bits_in : {R : Type 0} → FrameFormat R → ℕ
bits_in format = format.information + quality_length format.quality + 8

-- the number of its repeated symbols, before any are dropped
abbrev pub repeated_in : {R : Type 0} → FrameFormat R → ℕ
repeated_in format = if format.drops then 576 else 384

-- two code symbols per bit, each `repeats` times, are all of them; at least one bit is information
pub record IsFormat {R : Type 0} (format : FrameFormat R) : Type 0 where
  pub fills : 2 * bits_in format * format.repeats ≡ repeated_in format
  pub some : 1 ≤ format.repeats
  pub most : bits_in format ≤ 288
  pub told : 1 ≤ format.information

-- the bits of a frame: its information, its quality indicator, and eight tail bits
abbrev pub format_codeword : {R : Type 0} → FrameFormat R → List Bool → List Bool
format_codeword format information =
    information ++ quality_indicator format.quality information ++ replicate 8 false

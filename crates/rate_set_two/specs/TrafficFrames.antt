-- The frames of rate set 2, and how one is decoded.
use Rattle.std.specs.Prelude.{ℕ, Bool, List, [], ◌∷◌, map, ℤ}
use Rattle.viterbi.specs.Codewords.{Codeword}
use Rattle.frame_decoder.specs.Formats.{symbols_in, frame_of}
use Rattle.frame_decoder.specs.Laws.{sent_codeword}
use Rattle.frame_decoder.specs.declared.formats.DecodedFrame.{DecodedFrame}
use Rattle.symbol_path.specs.declared.rate_two.Rate2.{Rate2}
use Rattle.symbol_path.specs.declared.rate_two.Rate2.TheVariants.{R14400, R7200, R3600, R1800}
use Rattle.rate_set_two.specs.declared.traffic.Decoded2.{Decoded2}
pub use Rattle.symbol_path.specs.RatesTwo.{format_of2}

-- a frame's codeword: its bits after eight zeros
abbrev pub frame_codeword2 : Rate2 → List Bool → Codeword
frame_codeword2 rate information = sent_codeword (format_of2 rate) information

-- a codeword's symbols as a frame of its rate sends them
abbrev pub frame_symbols2 : Rate2 → Codeword → List Bool
frame_symbols2 rate w = symbols_in (format_of2 rate) w

-- the rates below the highest, the lowest first
abbrev pub lower_rates2 : List Rate2
lower_rates2 = R1800 ∷ R3600 ∷ R7200 ∷ []

-- a frame that was decoded by its format, as a frame of rate set 2
abbrev pub as_decoded2 : DecodedFrame Rate2 → Decoded2
as_decoded2 d = record { rate = d.rate; good = d.good; bits = d.bits; score = d.score }

-- the frame that is decoded from soft values, of which those at these places belong to power
-- control bits
unfoldable pub decoded2 : List ℕ → List ℤ → Decoded2
decoded2 replaced softs =
    as_decoded2 (frame_of (format_of2 R14400) (map format_of2 lower_rates2) replaced softs)

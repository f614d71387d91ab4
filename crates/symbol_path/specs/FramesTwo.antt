-- The bits of the frames of rate set 2, and their transmitted symbols.
use Rattle.std.specs.Prelude.{Bool, List}
use Rattle.quality_bits.specs.Formats.{format_codeword}
use Rattle.symbol_path.specs.declared.rate_two.Rate2.{Rate2}
use Rattle.symbol_path.specs.FormatSymbols.{format_symbols}
use Rattle.symbol_path.specs.RatesTwo.{format_of2}

-- the bits of a frame: its information, its quality indicator, and eight tail bits
abbrev pub codeword_bits : Rate2 → List Bool → List Bool
codeword_bits rate information = format_codeword (format_of2 rate) information

-- a frame's symbols in the order in which they are sent: the encoder starts from eight zeros
abbrev pub sent_frame2 : Rate2 → List Bool → List Bool
sent_frame2 rate information = format_symbols (format_of2 rate) information

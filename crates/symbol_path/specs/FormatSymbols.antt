-- The transmitted symbols of a frame, by the format of its rate in any rate set.
use Rattle.std.specs.Prelude.{ℕ, ◌*◌, ◌/◌, Bool, false, if◌then◌else◌, List, replicate, ℤ}
use Rattle.conv_code.specs.ConvCode.{code_symbols}
use Rattle.quality_bits.specs.Formats.{bits_in, format_codeword}
use Rattle.quality_bits.specs.declared.format.FrameFormat.{FrameFormat}
use Rattle.symbol_path.specs.SentOrder.{data_shape, shape_of, size, address, sent_by, gathered_by}
use Rattle.symbol_path.specs.SentOrderTwo.{repeated_symbol}
use Rattle.symbol_path.specs.declared.kinds.Kind.TheVariants.{Data}
use Rattle.symbol_path.specs.declared.placing.SentSymbols.{SentSymbols}
use Rattle.symbol_path.specs.declared.placing.SentSymbols.TheVariants.{Every, Kept}

-- ---- the repeated symbols that are sent
-- how many symbols are sent
abbrev pub sent_count : SentSymbols → ℕ
sent_count (Every kind) = size (shape_of kind)
sent_count Kept = 384

-- the number of repeated symbols that they are taken from
abbrev pub repeated_count : SentSymbols → ℕ
repeated_count (Every kind) = size (shape_of kind)
repeated_count Kept = 576

-- which of the repeated symbols is sent as symbol i
abbrev pub repeated_as : SentSymbols → ℕ → ℕ
repeated_as (Every kind) i = address (shape_of kind) i
repeated_as Kept i = repeated_symbol i

-- the symbols that a traffic channel's frame sends, by whether some are dropped
abbrev pub which_sent : Bool → SentSymbols
which_sent drops = if drops then Kept else Every Data

-- ---- the symbols of a format
-- which code symbol a frame sends as symbol i
abbrev pub place_in : {R : Type 0} → FrameFormat R → ℕ → ℕ
place_in format i =
    (if format.drops then repeated_symbol i else address data_shape i) / format.repeats

-- a frame's symbols in the order in which they are sent: the encoder starts from eight zeros
abbrev pub format_symbols : {R : Type 0} → FrameFormat R → List Bool → List Bool
format_symbols format information =
    sent_by (place_in format) 384
    (code_symbols (replicate 8 false) (format_codeword format information))

-- for each code symbol, the sum of the soft values of the symbols that are sent for it
abbrev pub gathered_in : {R : Type 0} → FrameFormat R → List ℤ → List ℤ
gathered_in format softs = gathered_by (place_in format) 384 (2 * bits_in format) softs

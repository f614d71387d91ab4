-- Symbol repetition and block interleaving (TIA/EIA-95-B, 7.1.3.1.4 and 7.1.3.1.5).
use Rattle.std.specs.Prelude.{ℕ, ◌+◌, ◌*◌, ◌/◌, ◌%◌, ◌^◌, ◌==◌, Bool, false, List, map, filter, ℤ}
use Rattle.std.specs.Prelude.{get_or, reverse, pos}
use Rattle.chip_core.specs.Bits.{number, binary, places}
use Rattle.chip_core.specs.Sums.{total}
use Rattle.symbol_path.specs.declared.kinds.Kind.{Kind}
use Rattle.symbol_path.specs.declared.kinds.Kind.TheVariants.{Sync, Data}

-- the width m and the number of columns J of an interleaver
pub record Shape : Type 0 where
  pub width : ℕ
  pub columns : ℕ

abbrev pub sync_shape : Shape
sync_shape = record { width = 7; columns = 1 }

abbrev pub data_shape : Shape
data_shape = record { width = 6; columns = 6 }

abbrev pub shape_of : Kind → Shape
shape_of Sync = sync_shape
shape_of Data = data_shape

-- how many symbols a frame sends
abbrev pub size : Shape → ℕ
size s = 2 ^ s.width * s.columns

-- a number of m bits with its bits in reverse order
abbrev pub reversed : ℕ → ℕ → ℕ
reversed m n = number (reverse (binary m n))

-- which of the repeated symbols is sent as symbol i
abbrev pub address : Shape → ℕ → ℕ
address s i = 2 ^ s.width * (i % s.columns) + reversed s.width (i / s.columns)

-- the place at which a repeated symbol is sent
abbrev pub place : Shape → ℕ → ℕ
place s a = s.columns * reversed s.width (a % 2 ^ s.width) + a / 2 ^ s.width

-- the code symbols in the order in which they are sent: `key` gives the number of the code symbol
-- that is sent at each of n places
unfoldable pub sent_by : (ℕ → ℕ) → ℕ → List Bool → List Bool
sent_by key count symbols = map (λ i. get_or symbols (key i) false) (places count)

-- for each of n code symbols, the sum of the soft values of the symbols that are sent for it
unfoldable pub gathered_by : (ℕ → ℕ) → ℕ → ℕ → List ℤ → List ℤ
gathered_by key count code_symbols softs =
    map (λ c. total (map (λ i. get_or softs i (pos 0)) (filter (λ i. key i == c) (places count))))
    (places code_symbols)

-- which code symbol is sent as symbol i, if each is repeated the same number of times
abbrev pub code_symbol : Shape → ℕ → ℕ → ℕ
code_symbol s repeats i = address s i / repeats

-- the code symbols in the order in which they are sent, and the sums for them
abbrev pub sent : Shape → ℕ → List Bool → List Bool
sent s repeats symbols = sent_by (code_symbol s repeats) (size s) symbols

abbrev pub gathered : Shape → ℕ → List ℤ → List ℤ
gathered s repeats softs = gathered_by (code_symbol s repeats) (size s) (size s / repeats) softs

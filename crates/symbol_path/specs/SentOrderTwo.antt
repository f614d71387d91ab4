-- Repetition, dropping and interleaving: the order in which code symbols are sent.
use Rattle.std.specs.Prelude.{◌≡◌, ℕ, ◌+◌, ◌*◌, ◌/◌, ◌%◌, ◌<◌, ◌==◌, ◌||◌, Bool, false, List, []}
use Rattle.std.specs.Prelude.{◌∷◌, get_or}
use Rattle.symbol_path.specs.SentOrder.{data_shape, address, sent_by}
use Rattle.symbol_path.specs.declared.rate_two.Rate2.{Rate2}
use Rattle.symbol_path.specs.RatesTwo.{repeats_of2}

-- which of the repeated symbols is kept as symbol a: the first, second, fourth and sixth of each
-- six
abbrev pub kept_symbol : ℕ → ℕ
kept_symbol a = 6 * (a / 4) + get_or (0 ∷ 1 ∷ 3 ∷ 5 ∷ []) (a % 4) 0

-- which of the repeated symbols is sent as symbol i
abbrev pub repeated_symbol : ℕ → ℕ
repeated_symbol i = kept_symbol (address data_shape i)

-- which code symbol is sent as symbol i
abbrev pub place2 : Rate2 → ℕ → ℕ
place2 rate i = repeated_symbol i / repeats_of2 rate

-- the code symbols in the order in which they are sent
abbrev pub sent2 : Rate2 → List Bool → List Bool
sent2 rate code = sent_by (place2 rate) 384 code

-- whether a repeated symbol is the third or the fifth of its six
abbrev pub is_dropped : ℕ → Bool
is_dropped k = k % 6 == 2 || k % 6 == 4

-- repeated symbol k is sent as exactly one symbol
pub record IsSentOnce (k : ℕ) : Type 0 where
  pub sent_as : ℕ
  pub below : sent_as < 384
  pub is : repeated_symbol sent_as ≡ k
  pub alone : (i : ℕ) → i < 384 → repeated_symbol i ≡ k → i ≡ sent_as

-- each repeated symbol that isn't dropped is sent once
abbrev pub IsKeptOnce : Type 0
IsKeptOnce = (k : ℕ) → k < 576 → is_dropped k ≡ false → IsSentOnce k

-- a dropped symbol is never sent
abbrev pub IsDropped : Type 0
IsDropped = (i : ℕ) → i < 384 → is_dropped (repeated_symbol i) ≡ false

-- Codewords, their scores, and the best of them.
use Rattle.viterbi.specs.Common.{binary, number, code_symbols, Ends, Zero, Free}
use Rattle.std.specs.Prelude.{ℕ, ◌+◌, ◌-◌, ◌^◌, ◌<◌, ◌≡◌, Bool, false, List, ◌++◌, take, drop, ℤ}
use Rattle.std.specs.Prelude.{replicate, reverse, ◌<ℤ◌, ◌⊎◌}
use Rattle.chip_core.specs.Agreement.{agreement}
use Rattle.chip_core.specs.Sums.{first_greatest}

-- the eight start bits, the oldest first, and the bits
pub record Codeword : Type 0 where
  pub start : List Bool
  pub bits : List Bool

-- the number that the bits spell from the last to the first; of two codewords with equal scores the
-- one with the lesser number is better
abbrev pub rank : Codeword → ℕ
rank w = number (reverse (w.start ++ w.bits))

-- how many codewords of n bits are allowed
abbrev pub codeword_count : Ends → ℕ → ℕ
codeword_count Zero n = 2 ^ (n - 8)
codeword_count Free n = 2 ^ (n + 8)

-- codeword r of the allowed codewords of n bits, by rising rank
abbrev pub codeword_at : Ends → ℕ → ℕ → Codeword
codeword_at Zero n r =
    record { start = replicate 8 false; bits = reverse (binary (n - 8) r) ++ replicate 8 false }
codeword_at Free n r = let joined = reverse (binary (n + 8) r) in record
    { start = take 8 joined; bits = drop 8 joined }

-- the correlation of soft values with symbols: how well they agree
abbrev pub correlation : List ℤ → List Bool → ℤ
correlation = agreement

-- the score of a codeword: the correlation of its code symbols
abbrev pub score_of : List ℤ → Codeword → ℤ
score_of softs w = correlation softs (code_symbols w.start w.bits)

-- a codeword is better than another: its score is greater, or the same with a lesser rank
abbrev pub IsBetter : (Codeword → ℤ) → Codeword → Codeword → Type 0
IsBetter score w v = (score v <ℤ score w) ⊎ ((score v ≡ score w) × (rank w < rank v))

-- the best of the allowed codewords of n bits
unfoldable pub best_codeword : (Codeword → ℤ) → Ends → ℕ → Codeword
best_codeword score ends n =
    codeword_at ends n (first_greatest (λ r. score (codeword_at ends n r)) (codeword_count ends n))

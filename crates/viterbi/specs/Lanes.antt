-- What a bit adds to the score, eight states at a time.
use Rattle.viterbi.specs.Common.{bit_of, sign}
use Rattle.std.specs.Prelude.{ℕ, ◌+◌, ◌*◌, ◌/◌, ◌%◌, ◌<◌, ◌≡◌, List, [], ◌∷◌, length, get_or, ℤ}
use Rattle.std.specs.Prelude.{pos, ◌+ℤ◌, ◌-ℤ◌, ◌*ℤ◌, ◌≤ℤ◌, FitsSigned}
use Rattle.std.specs.Int.{w64}
use lib.Lanes.{Each1}

-- A code is two symbols as a number: 1 if the first is 1, plus 2 if the second is 1.

-- what a code's two symbols add to the score
unfoldable pub gain_by : ℤ → ℤ → ℕ → ℤ
gain_by first second code = (first *ℤ sign (bit_of code 0)) +ℤ (second *ℤ sign (bit_of code 1))

-- the codes of eight states from a multiple of eight on, for each of four patterns in turn: those
-- of the symbols of the newest bit if the oldest is 0
unfoldable pub lane_codes : List ℕ
lane_codes =
    0 ∷ 1 ∷ 0 ∷ 1 ∷ 1 ∷ 0 ∷ 1 ∷ 0 ∷ 1 ∷ 0 ∷ 1 ∷ 0 ∷ 0 ∷ 1 ∷ 0 ∷ 1
    ∷ 2 ∷ 3 ∷ 2 ∷ 3 ∷ 3 ∷ 2 ∷ 3 ∷ 2 ∷ 3 ∷ 2 ∷ 3 ∷ 2 ∷ 2 ∷ 3 ∷ 2 ∷ 3 ∷ []

-- the patterns of the 32 blocks of eight states
unfoldable pub patterns : List ℕ
patterns =
    0 ∷ 2 ∷ 3 ∷ 1 ∷ 3 ∷ 1 ∷ 0 ∷ 2 ∷ 1 ∷ 3 ∷ 2 ∷ 0 ∷ 2 ∷ 0 ∷ 1 ∷ 3
    ∷ 3 ∷ 1 ∷ 0 ∷ 2 ∷ 0 ∷ 2 ∷ 3 ∷ 1 ∷ 2 ∷ 0 ∷ 1 ∷ 3 ∷ 1 ∷ 3 ∷ 2 ∷ 0 ∷ []

-- a state's code
abbrev pub lane_code_of : ℕ → ℕ
lane_code_of t = get_or lane_codes (8 * get_or patterns (t / 8) 0 + t % 8) 0

-- three numbers of 64 bits: two and the result of an operation on them
abbrev pub Fit : ℤ → ℤ → ℤ → Type 0
Fit x y made = FitsSigned w64 x × (FitsSigned w64 y × FitsSigned w64 made)

-- the sum and the difference of two lanes
abbrev pub sum_at : List ℤ → List ℤ → ℕ → ℤ
sum_at xs ys l = get_or xs l (pos 0) +ℤ get_or ys l (pos 0)

abbrev pub difference_at : List ℤ → List ℤ → ℕ → ℤ
difference_at xs ys l = get_or xs l (pos 0) -ℤ get_or ys l (pos 0)

-- eight lanes made of every other number of a column, from a place on
pub record AreEveryOther (made : ℤ → ℤ) (column : List ℤ) (at : ℕ) (lanes : List ℤ) : Type 0 where
  pub long : length lanes ≡ 8
  pub each : (l : ℕ) → l < 8 → get_or lanes l (pos 0) ≡ made (get_or column (at + 2 * l) (pos 0))

-- the greater of each pair of lanes, as their least upper bound
pub record AreGreater (one other lanes : List ℤ) : Type 0 where
  pub long : length lanes ≡ 8
  pub fit : Each1 (λ x. FitsSigned w64 x) lanes
  pub first : (l : ℕ) → l < 8 → get_or one l (pos 0) ≤ℤ get_or lanes l (pos 0)
  pub second : (l : ℕ) → l < 8 → get_or other l (pos 0) ≤ℤ get_or lanes l (pos 0)
  pub least : (bound : ℤ) (l : ℕ) → l < 8 → get_or one l (pos 0) ≤ℤ bound →
      get_or other l (pos 0) ≤ℤ bound → get_or lanes l (pos 0) ≤ℤ bound

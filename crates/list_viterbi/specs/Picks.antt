-- The first codewords after another bit, only by their scores and origins.
use Rattle.std.specs.Prelude.{ℕ, zero, suc, ◌+◌, ◌-◌, ◌*◌, ◌%◌, ◌^◌, ◌≤◌, ◌≡◌, List, [], ◌∷◌, map}
use Rattle.std.specs.Prelude.{get_or, ℤ, pos, ◌+ℤ◌, ◌-ℤ◌, unsigned_abs, if◌then◌else◌}
use Rattle.chip_core.specs.Bits.{bit_of, digit}
use Rattle.viterbi.specs.Lanes.{gain_by, lane_code_of}
use Rattle.list_viterbi.specs.Merging.{merge}

-- a codeword's score, and its pointer: twice its place in the list of the state before plus that
-- state's oldest bit
pub record Pick : Type 0 where
  pub score : ℤ
  pub back : ℕ

abbrev pub pick_score : Pick → ℤ
pick_score p = p.score

-- the codewords of a state's list with another bit, the first of them at this place
abbrev pub picks_from : ℕ → ℤ → ℕ → List ℤ → List Pick
picks_from oldest gain place [] = []
picks_from oldest gain place (s ∷ ss) =
    record { score = s +ℤ gain; back = 2 * place + oldest }
    ∷ picks_from oldest gain (suc place) ss

-- the first k codewords into a state, if the bit adds `gain` after oldest bit 0
unfoldable pub picks_by : List (List ℤ) → ℤ → ℕ → ℕ → List Pick
picks_by column gain k t =
    merge pick_score k (picks_from 0 gain 0 (get_or column (2 * (t % 128) + 0) []))
    (picks_from 1 (pos 0 -ℤ gain) 0 (get_or column (2 * (t % 128) + 1) []))

-- the same, from the two soft values of the bit
abbrev pub picks_into : List (List ℤ) → ℤ → ℤ → ℕ → ℕ → List Pick
picks_into column first second k t = picks_by column (gain_by first second (lane_code_of t)) k t

-- Choices are a number. Its bit r is the oldest bit of the state that codeword r comes from.

-- how many of the first n codewords come from the state with oldest bit 1
unfoldable pub ones_below : ℕ → ℕ → ℕ
ones_below choices zero = 0
ones_below choices (suc n) = ones_below choices n + digit (bit_of choices n)

-- a codeword's pointer: codewords from one state keep their order, so its place in that state's
-- list is the number of codewords before it that come from there
abbrev pub pointer_of : ℕ → ℕ → ℕ
pointer_of choices place =
    if bit_of choices place
    then 2 * ones_below choices place + 1
    else 2 * (place - ones_below choices place)

-- the choices from a place on lead to the picks
abbrev pub HasChoices : ℕ → ℕ → List Pick → Type 0
HasChoices choices place [] = Unit {0}
HasChoices choices place (p ∷ ps) =
    (pointer_of choices place ≡ p.back) × HasChoices choices (suc place) ps

-- their scores and their choices
abbrev pub HasPicks : List ℤ → ℕ → List Pick → Type 0
HasPicks scores choices picks = (scores ≡ map pick_score picks) × HasChoices choices 0 picks

-- the gain can be added
abbrev pub LeavesScoreRoom : ℤ → ℤ → Type 0
LeavesScoreRoom gain s = unsigned_abs s + unsigned_abs gain ≤ 2 ^ 62

-- Columns of decisions, and the codewords that they lead back to.
use Rattle.viterbi.specs.Common.{binary, bit_of, digit, Ends, Zero, Free, Survivor}
use Rattle.std.specs.Prelude.{ℕ, zero, suc, ◌+◌, ◌*◌, ◌/◌, ◌%◌, ◌<◌, ◌≡◌, Bool, true, false, List}
use Rattle.std.specs.Prelude.{[], ◌∷◌, ◌++◌, length, get_or, ℤ, pos, ◌+ℤ◌, ◌≤ℤ◌, int_lt, nat_le}
use Rattle.std.specs.Prelude.{nat_lt, if◌then◌else◌, Option, Some, None, ◌-ℤ◌, ◌≤◌, ◌^◌, FitsSigned}
use Rattle.std.specs.Prelude.{unsigned_abs}
use Rattle.std.specs.Int.{w64}
use Rattle.viterbi.specs.States.{low_bits}
use Rattle.viterbi.specs.Survivors.{gain_of}

-- whether a state came from the one with oldest bit 1: bit t of a column
unfoldable pub took : List ℕ → ℕ → Bool
took choices t = bit_of (get_or choices (t / 8) 0) (t % 8)

-- the state before, by column k
abbrev pub state_before : List (List ℕ) → ℕ → ℕ → ℕ
state_before columns k t = 2 * (t % 128) + digit (took (get_or columns k []) t)

-- the state before the first of k bits
unfoldable pub path_origin : List (List ℕ) → ℕ → ℕ → ℕ
path_origin columns zero t = t
path_origin columns (suc k) t = path_origin columns k (state_before columns k t)

-- the k bits that lead into a state
unfoldable pub path : List (List ℕ) → ℕ → ℕ → List Bool
path columns zero t = []
path columns (suc k) t = path columns k (state_before columns k t) ++ nat_le 128 t ∷ []

-- a state's metric if it is reached from the state with this oldest bit
unfoldable pub metric_from : List ℤ → ℤ → ℤ → ℕ → ℕ → ℤ
metric_from metrics first second t oldest =
    get_or metrics (2 * (t % 128) + oldest) (pos 0)
    +ℤ gain_of first second (low_bits 9 (2 * t + oldest))

-- whether the state with oldest bit 1 is taken: its metric is greater, and it may be taken
abbrev pub wants : Bool → ℤ → ℤ → Bool
wants true even odd = false
wants false even odd = int_lt even odd

-- the metric that is taken
abbrev pub taken_of : Bool → ℤ → ℤ → ℤ
taken_of choice even odd = if choice then odd else even

-- the choice between the two states, and the metric of the chosen one
unfoldable pub choice_into : Bool → List ℤ → ℤ → ℤ → ℕ → Bool
choice_into forced metrics first second t =
    wants forced (metric_from metrics first second t 0)
    (metric_from metrics first second t 1)

unfoldable pub metric_into : Bool → List ℤ → ℤ → ℤ → ℕ → ℤ
metric_into forced metrics first second t =
    taken_of (choice_into forced metrics first second t) (metric_from metrics first second t 0)
    (metric_from metrics first second t 1)

-- a metric, plus what was subtracted, and the columns so far agree with the survivor of a state
abbrev pub Agrees : List (List ℕ) → ℕ → ℕ → ℤ → Option Survivor → Type 0
Agrees columns k t metric None = Unit {0}
Agrees columns k t metric (Some s) =
    (metric ≡ s.score)
    × ((path columns k t ≡ s.codeword.bits) × (binary 8 s.codeword.start
    ≡ low_bits 8 (path_origin columns k t)))

-- if the state with oldest bit 1 may not be taken, it has no survivor; otherwise both have one
abbrev pub Alive : Bool → Option Survivor → Option Survivor → Type 0
Alive true one None = Unit {0}
Alive true one (Some two) = ⊥
Alive false None two = ⊥
Alive false (Some one) None = ⊥
Alive false (Some one) (Some two) = Unit {0}

-- whether, after k bits, states with oldest bit 1 may not be taken: no codeword that starts from
-- zeros leads into one
abbrev pub forced_at : Ends → ℕ → Bool
forced_at Zero k = nat_lt k 8
forced_at Free k = false

-- the greatest of a list's numbers, as their least upper bound
pub record IsGreatest (xs : List ℤ) (top : ℤ) : Type 0 where
  pub most : (t : ℕ) → t < length xs → get_or xs t (pos 0) ≤ℤ top
  pub least : (bound : ℤ) → ((t : ℕ) → t < length xs → get_or xs t (pos 0) ≤ℤ bound) → top ≤ℤ bound

-- what a step needs: no metric exceeds `top`, and how far it is below `top`, plus the absolute
-- values of the two soft values, is at most 2^63
pub record CanStep (column : List ℤ) (top first second : ℤ) : Type 0 where
  pub whole : length column ≡ 256
  pub pair : unsigned_abs first + unsigned_abs second ≤ 2 ^ 62
  pub fit : (t : ℕ) → t < 256 → FitsSigned w64 (get_or column t (pos 0))
  pub most : (t : ℕ) → t < 256 → get_or column t (pos 0) ≤ℤ top
  pub near : (t : ℕ) → t < 256 →
      unsigned_abs (top -ℤ get_or column t (pos 0)) + (unsigned_abs first + unsigned_abs second)
      ≤ 2 ^ 63

-- the result of a step: all metrics after another bit, less the greatest before; whether each state
-- came from the one with oldest bit 1; and the greatest new metric
pub record IsColumnStep (forced : Bool) (column : List ℤ) (top first second : ℤ) (next : List ℤ)
    (decisions : List ℕ) (most : ℤ) : Type 0 where
  pub whole : length next ≡ 256
  pub metrics : (t : ℕ) → t < 256 →
      get_or next t (pos 0) ≡ metric_into forced column first second t -ℤ top
  pub choices : (t : ℕ) → t < 256 → took decisions t ≡ choice_into forced column first second t
  pub greatest : IsGreatest next most

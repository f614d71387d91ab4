-- The results of workers in their ranges of phases.
use Rattle.pilot_search.specs.Common.{Sample}
use Rattle.std.specs.Prelude.{ℕ, ◌<◌, ◌≤◌, ◌≡◌, ◌*◌, ◌/◌, List, Option, Some, None, IfSome, nat_lt}
use Rattle.std.specs.Prelude.{IsSomeAnd, if◌then◌else◌}
use Rattle.pilot_search.specs.Search.{energy}
use Rattle.pilot_search.specs.Bounds.{greatest}
use Rattle.pilot_search.specs.declared.sweeping.Best.{Best}

-- a phase of the range with its energy, or none; if the range has phases of the greatest energy of
-- all, the first of these
pub record IsFound (samples : List Sample) (from to : ℕ) (found : Option Best) : Type 0 where
  pub real : IfSome found (λ b. (b.energy ≡ energy samples b.phase) × (from ≤ b.phase) ×
      (b.phase < to))
  pub first : (k : ℕ) → from ≤ k → k < to → energy samples k ≡ greatest samples →
      IsSomeAnd found (λ b. (b.energy ≡ greatest samples) × (b.phase ≤ k))

-- the one of greater energy, and the left one on a tie
abbrev pub better_of : Option Best → Option Best → Option Best
better_of None right = right
better_of (Some left) None = Some left
better_of (Some left) (Some right) =
    if nat_lt left.energy right.energy then Some right else Some left

-- the first phase of a worker, or the end of the last worker's range
abbrev pub worker_start : ℕ → ℕ → ℕ
worker_start worker workers = 32768 * worker / workers

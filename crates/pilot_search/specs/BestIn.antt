-- The best phase of a range.
use Rattle.pilot_search.specs.Common.{Sample}
use Rattle.std.specs.Prelude.{ℕ, ◌<◌, ◌≤◌, ◌≡◌, List}
use Rattle.pilot_search.specs.Search.{energy}

-- the phase with the greatest energy from `from` to before `to`, the least on a tie, and its energy
pub record IsBestIn (samples : List Sample) (from to phase most : ℕ) : Type 0 where
  pub not_below : from ≤ phase
  pub below : phase < to
  pub measured : most ≡ energy samples phase
  pub greatest : (k : ℕ) → from ≤ k → k < to → energy samples k ≤ most
  pub first : (k : ℕ) → from ≤ k → k < phase → energy samples k < most

-- Rankings of pilots.
use Rattle.std.specs.Prelude.{◌≡◌, ◌<◌, ◌≤◌, ◌⊎◌, ℕ, ◌+◌, List, length, slice_index_or, All}
use Rattle.std.specs.Prelude.{Contains}
use Rattle.chip_core.specs.declared.sample.Sample.{Sample}
use Rattle.pilot_survey.specs.Survey.{surveyed}
use Rattle.pilot_survey.specs.declared.rank.Rank.{Rank}

-- a rank comes before another if its energy is greater or, on a tie, its pilot is lesser
abbrev pub ComesBefore : Rank → Rank → Type 0
ComesBefore x y = (y.energy < x.energy) ⊎ ((x.energy ≡ y.energy) × (x.pilot < y.pilot))

-- each rank comes before the next one, or has the same energy and pilot
abbrev pub AreInOrder : List Rank → Type 0
AreInOrder ranks = (k : ℕ) (d : Rank) → k + 1 < length ranks →
    (slice_index_or ranks (k + 1) d).energy < (slice_index_or ranks k d).energy
    ⊎ (((slice_index_or ranks k d).energy ≡ (slice_index_or ranks (k + 1) d).energy)
    × ((slice_index_or ranks k d).pilot ≤ (slice_index_or ranks (k + 1) d).pilot))

-- the ranks of all 512 pilots, each once, in order
pub record IsRanking (samples : List Sample) (base width : ℕ) (ranks : List Rank) : Type 0 where
  pub long : length ranks ≡ 512
  pub each : (pilot : ℕ) → pilot < 512 → Contains ranks (surveyed samples base width pilot)
  pub measured : All (λ r. (r.pilot < 512) × (r ≡ surveyed samples base width r.pilot)) ranks
  pub order : (i j : ℕ) (d : Rank) → i < j → j < 512 →
      ComesBefore (slice_index_or ranks i d) (slice_index_or ranks j d)

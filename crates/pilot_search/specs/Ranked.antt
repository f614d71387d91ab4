-- Phases with their energies, in order of rank: by larger energy, then by smaller phase.
use Rattle.pilot_search.specs.Common.{Sample}
use Rattle.std.specs.Prelude.{◌≡◌, ◌≢◌, ℕ, ◌+◌, ◌*◌, ◌<◌, ◌≤◌, List, length, get_or}
use Rattle.pilot_search.specs.Near.{near_phase_at}
use Rattle.pilot_search.specs.Search.{energy}
use Rattle.pilot_search.specs.declared.sweeping.Best.{Best}

-- the first comes before the second, if both phases are below 32,768
abbrev pub RanksBefore : Best → Best → Type 0
RanksBefore x y = 32768 * y.energy + x.phase < 32768 * x.energy + y.phase

-- the phase at a place, with its energy
abbrev pub measured_at : List Sample → ℕ → ℕ → Best
measured_at samples best place =
    record { phase = near_phase_at best place; energy = energy samples (near_phase_at best place) }

-- the phases of the first `count` places, with their energies
pub record IsRound (samples : List Sample) (best count : ℕ) (round : List Best) : Type 0 where
  pub long : length round ≡ 65
  pub measured : (place : ℕ) (d : Best) → place < count →
      get_or round place d ≡ measured_at samples best place

-- the place that comes before all others of the first `count`, except `first` and `second`
pub record IsNext (round : List Best) (first second count place : ℕ) : Type 0 where
  pub below : place < 65
  pub not_first : place ≢ first
  pub not_second : place ≢ second
  pub greatest : (other : ℕ) (d : Best) → other < count → other ≢ first → other ≢ second →
      32768 * (get_or round other d).energy + (get_or round place d).phase ≤
      32768 * (get_or round place d).energy + (get_or round other d).phase

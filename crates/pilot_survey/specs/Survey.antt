-- The survey: the strength of each pilot, and the ranking of all 512.
use Rattle.std.specs.Prelude.{ℕ, ◌+◌, ◌-◌, ◌*◌, ◌/◌, ◌%◌, List, map, pos, ◌-ℤ◌}
use Rattle.chip_core.specs.Sums.{first_greatest, first_places}
use Rattle.chip_core.specs.declared.sample.Sample.{Sample}
use Rattle.pilot_search.specs.Search.{energy}
use Rattle.pilot_survey.specs.declared.rank.Rank.{Rank}

-- The phases around a pilot's own, which lies 64 chips below the base for each step of its offset.
-- The first of them is `width` chips below the pilot's own.
abbrev pub survey_phase : ℕ → ℕ → ℕ → ℕ → ℕ
survey_phase base width pilot place = (base + 65536 - 64 * pilot + place - width) % 32768

-- the place of greatest energy, the least on a tie
unfoldable pub strongest : List Sample → ℕ → ℕ → ℕ → ℕ
strongest samples base width pilot =
    first_greatest (λ place. pos (energy samples (survey_phase base width pilot place)))
    (2 * width + 1)

-- the strength of a pilot, and the distance from its own phase
unfoldable pub surveyed : List Sample → ℕ → ℕ → ℕ → Rank
surveyed samples base width pilot =
    let best = strongest samples base width pilot in record {
      pilot = pilot;
      delta = pos best -ℤ pos width;
      energy = energy samples (survey_phase base width pilot best);
    }

-- the ranks of all pilots, by falling energy, then by rising pilot
unfoldable pub ranking : List Sample → ℕ → ℕ → List Rank
ranking samples base width =
    map (surveyed samples base width)
    (first_places 512 (λ pilot. pos ((surveyed samples base width pilot).energy)) 512)

-- the first pilot of a worker, or for `worker` = `workers` the end of the last worker's pilots
abbrev pub survey_start : ℕ → ℕ → ℕ
survey_start worker workers = 512 * worker / workers

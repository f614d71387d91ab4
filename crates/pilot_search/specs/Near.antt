-- The phases of largest energy near the best one.
use Rattle.pilot_search.specs.Common.{first_places, Sample}
use Rattle.std.specs.Prelude.{ℕ, ◌+◌, ◌-◌, ◌%◌, if◌then◌else◌, nat_le, List, map, ℤ, pos, negsuc}
use Rattle.std.specs.Prelude.{◌-ℤ◌}
use Rattle.pilot_search.specs.Search.{energy}

-- the place of a phase, modulo the period: 0 to 64 for the 65 phases around the best one, greater
-- for all others
abbrev pub near_place : ℕ → ℕ → ℕ
near_place best phase = (phase + 32800 - best) % 32768

-- the phase at one of these places
abbrev pub near_phase_at : ℕ → ℕ → ℕ
near_phase_at best place = (best + 32736 + place) % 32768

-- the energy of one of these phases; for any other phase -1, which is less than any energy
abbrev pub near_value : List Sample → ℕ → ℕ → ℤ
near_value samples best phase =
    if nat_le (near_place best phase) 64 then pos (energy samples phase) else negsuc 0

-- the first `count` of these phases, by greater energy, then by lesser phase, as deltas from the
-- best phase
unfoldable pub near_deltas : List Sample → ℕ → ℕ → List ℤ
near_deltas samples best count =
    map (λ phase. pos (near_place best phase) -ℤ pos 32)
    (first_places count (near_value samples best) 32768)

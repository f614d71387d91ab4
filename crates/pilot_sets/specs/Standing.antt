-- The content of the sets, and how each call changes it.
use Rattle.pilot_sets.specs.Common.{DirectionFields, DirectionFault, Thresholds, SetChange}
use Rattle.pilot_sets.specs.Common.{Accepted, ActivePilot, PilotSets}
use Rattle.std.specs.Prelude.{ℕ, ℤ, pos, Bool, not, if◌then◌else◌, ◌&&◌, ◌==◌, List, [], ◌∷◌, map}
use Rattle.std.specs.Prelude.{nat_eq, replicate, slice_set, Option, Some, None, unwrap_or}
use Rattle.std.specs.Cmp.Lexicographic.{pointwise}
use Rattle.pilot_sets.specs.Pilots.{has}
use Rattle.pilot_sets.specs.PilotSets.{new_sets, neighbors_heard, thresholds_heard, timed_pilots}
use Rattle.pilot_sets.specs.PilotSets.{pilots_of_candidates, candidate_pilots}
use Rattle.pilot_sets.specs.Directions.{direction_fault, accepted_of}
use Rattle.pilot_sets.specs.Handoffs.{handed_off}
use Rattle.pilot_sets.specs.Moments.{energy_in, measured, is_reported}
use Rattle.pilot_sets.specs.declared.lists.Active.{Active}
use Rattle.pilot_sets.specs.declared.strengths.Strength.{Strength}
use Rattle.pilot_sets.specs.declared.standing.Began.{Began}

-- the sets; the lists when the moment began, if a direction has taken effect since the last step;
-- and the last delta of each pilot
pub record Standing : Type 0 where
  pub sets : PilotSets
  pub began : Option Began
  pub deltas : List ℤ

abbrev pub new_standing : ℕ → ℕ → Standing
new_standing pilot row =
    record { sets = new_sets pilot row; began = None; deltas = replicate 512 (pos 0) }

-- WHAT IS SHOWN
abbrev pub shown_active : ActivePilot → Active
shown_active a = record { pilot = a.pilot; row = a.row; subchannel = a.subchannel }

abbrev pub shown : Standing → List Active
shown s = map shown_active s.sets.active

-- the number of a pilot's search window: active pilots and candidates have one, neighbors another
abbrev pub window_number : PilotSets → ℕ → ℕ
window_number s p = if has (timed_pilots s) p then s.thresholds.win_a else s.thresholds.win_n

-- BETWEEN MOMENTS
abbrev pub with_thresholds : Thresholds → Standing → Standing
with_thresholds t s = record s { sets = thresholds_heard t s.sets }

abbrev pub with_neighbors : List ℕ → Standing → Standing
with_neighbors heard s = record s { sets = neighbors_heard heard s.sets }

abbrev pub with_waiting : Accepted → Standing → Standing
with_waiting direction s = record s { sets = record s.sets { waiting = Some direction } }

-- an accepted direction waits, and replaces a waiting one; a refused one changes nothing
abbrev pub unless_refused : Option DirectionFault → Accepted → Standing → Standing
unless_refused None direction s = with_waiting direction s
unless_refused (Some fault) direction s = s

abbrev pub directed : ℕ → DirectionFields → Standing → Standing
directed m d s = unless_refused (direction_fault d) (accepted_of m d) s

-- A MOMENT
abbrev pub began_now : PilotSets → Began
began_now s = record { active = s.active; candidates = s.candidates; neighbors = s.neighbors }

-- the lists when the moment began: right before the first direction that took effect since the last
-- step, or now
abbrev pub began_in : Standing → Began
began_in s = unwrap_or s.began (began_now s.sets)

-- the waiting direction takes effect if this is its time
abbrev pub due_for : Option Accepted → ℕ → Standing → Standing
due_for None time s = s
due_for (Some direction) time s =
    if direction.time == time
    then record s { sets = handed_off time direction s.sets; began = Some (began_in s) }
    else s

abbrev pub due_at : ℕ → Standing → Standing
due_at time s = due_for s.sets.waiting time s

-- the deltas, updated by those of the measured pilots
abbrev pub deltas_with : List Strength → List ℤ → List ℤ
deltas_with [] deltas = deltas
deltas_with (s ∷ strengths) deltas = deltas_with strengths (slice_set deltas s.pilot s.delta)

abbrev pub stepped : List Strength → ℕ → ℕ → Standing → Standing
stepped strengths power time s = record {
  sets = measured (energy_in strengths) power time (began_in s).neighbors s.sets;
  began = None;
  deltas = deltas_with strengths s.deltas;
}

-- whether the active or the candidate list has changed, apart from timers
abbrev pub is_same_active : ActivePilot → ActivePilot → Bool
is_same_active a b = a.pilot == b.pilot && a.row == b.row && a.subchannel == b.subchannel

abbrev pub is_changed : Began → PilotSets → Bool
is_changed old new =
    not (pointwise is_same_active old.active new.active
    && pointwise nat_eq (pilots_of_candidates old.candidates) (candidate_pilots new))

abbrev pub change_at : List Strength → ℕ → ℕ → Standing → SetChange
change_at strengths power time s = record {
  changed = is_changed (began_in s) (stepped strengths power time s).sets;
  report = is_reported (energy_in strengths) power time (began_in s).neighbors s.sets;
}

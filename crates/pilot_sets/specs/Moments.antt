-- The other steps of a moment: timers start, stop and run out, pilots move between the candidates
-- and the neighbors, and a report may be due.
use Rattle.pilot_sets.specs.Common.{Thresholds, ActivePilot, CandidatePilot, PilotSets}
use Rattle.std.specs.Prelude.{ℕ, ◌-◌, ◌*◌, Bool, not, ◌&&◌, ◌||◌, ◌==◌, if◌then◌else◌, List, []}
use Rattle.std.specs.Prelude.{◌∷◌, ◌++◌, length, map, filter, take, nat_lt}
use Rattle.std.specs.List.{list_any}
use Rattle.pilot_sets.specs.Tables.{ratio}
use Rattle.pilot_sets.specs.Pilots.{has, without}
use Rattle.pilot_sets.specs.PilotSets.{active_pilots, candidate_pilots, pilots_of_candidates}
use Rattle.pilot_sets.specs.Timers.{is_strong, is_expired, timer_after}
use Rattle.pilot_sets.specs.Handoffs.{fresh}
use Rattle.pilot_sets.specs.declared.strengths.Strength.{Strength}

-- THE STRENGTHS
-- the energy of a pilot: that of its first strength, or 0 if it has none
abbrev pub energy_in : List Strength → ℕ → ℕ
energy_in [] pilot = 0
energy_in (s ∷ strengths) pilot = if s.pilot == pilot then s.energy else energy_in strengths pilot

-- TIMERS
abbrev pub active_timed : (ℕ → ℕ) → ℕ → ℕ → ℕ → ActivePilot → ActivePilot
active_timed energy k power time a =
    record a { timer = timer_after (is_strong k power (energy a.pilot)) time a.timer }

abbrev pub candidate_timed : (ℕ → ℕ) → ℕ → ℕ → ℕ → CandidatePilot → CandidatePilot
candidate_timed energy k power time c =
    record c { timer = timer_after (is_strong k power (energy c.pilot)) time c.timer }

-- the timers of weak active pilots and candidates start, and those of strong ones stop
abbrev pub timed : (ℕ → ℕ) → ℕ → ℕ → PilotSets → PilotSets
timed energy power time s = record s {
  active = map (active_timed energy s.thresholds.t_drop power time) s.active;
  candidates = map (candidate_timed energy s.thresholds.t_drop power time) s.candidates;
}

-- MOVES
abbrev pub goes : Thresholds → ℕ → CandidatePilot → Bool
goes t time c = is_expired t time c.timer

abbrev pub stays : Thresholds → ℕ → CandidatePilot → Bool
stays t time c = not (is_expired t time c.timer)

abbrev pub pilots_going : Thresholds → ℕ → List CandidatePilot → List ℕ
pilots_going t time candidates = pilots_of_candidates (filter (goes t time) candidates)

-- candidates whose timer has expired go to the neighbors, as long as there is room
abbrev pub expired_moved : ℕ → PilotSets → PilotSets
expired_moved time s = record s {
  candidates = filter (stays s.thresholds time) s.candidates;
  neighbors = take 20 (s.neighbors ++ pilots_going s.thresholds time s.candidates);
}

abbrev pub rises : (ℕ → ℕ) → ℕ → ℕ → List ℕ → ℕ → Bool
rises energy k power began p = has began p && is_strong k power (energy p)

-- the neighbors that move up, as long as there is room: those that are strong and were already
-- neighbors when the moment began
abbrev pub rising : (ℕ → ℕ) → ℕ → List ℕ → PilotSets → List ℕ
rising energy power began s =
    take (10 - length s.candidates)
    (filter (rises energy s.thresholds.t_add power began) s.neighbors)

abbrev pub risen : List ℕ → PilotSets → PilotSets
risen up s = record s {
  candidates = s.candidates ++ map fresh up;
  neighbors = without up s.neighbors;
}

-- THE REPORT
-- a candidate is stronger than some active pilot by a ratio
abbrev pub is_above : (ℕ → ℕ) → ℕ → List ℕ → ℕ → Bool
is_above energy k actives c =
    list_any (λ a. nat_lt (1000000 * energy a) (ratio k * energy c)) actives

abbrev pub has_above : (ℕ → ℕ) → PilotSets → Bool
has_above energy s =
    list_any (is_above energy s.thresholds.t_comp (active_pilots s)) (candidate_pilots s)

abbrev pub has_expired : ℕ → PilotSets → Bool
has_expired time s = list_any (λ (a : ActivePilot). is_expired s.thresholds time a.timer) s.active

-- a report is due if pilots moved up, an active pilot's timer has expired, or a candidate is above
-- an active pilot
abbrev pub is_report_due : (ℕ → ℕ) → ℕ → List ℕ → PilotSets → Bool
is_report_due energy time up s = nat_lt 0 (length up) || has_expired time s || has_above energy s

-- THE MOMENT
-- the sets after the timers were updated and the expired candidates were moved
abbrev pub dropped : (ℕ → ℕ) → ℕ → ℕ → PilotSets → PilotSets
dropped energy power time s = expired_moved time (timed energy power time s)

-- the neighbors that move up; `began` contains the neighbors when the moment began
abbrev pub moving_up : (ℕ → ℕ) → ℕ → ℕ → List ℕ → PilotSets → List ℕ
moving_up energy power time began s = rising energy power began (dropped energy power time s)

abbrev pub measured : (ℕ → ℕ) → ℕ → ℕ → List ℕ → PilotSets → PilotSets
measured energy power time began s =
    risen (moving_up energy power time began s) (dropped energy power time s)

abbrev pub is_reported : (ℕ → ℕ) → ℕ → ℕ → List ℕ → PilotSets → Bool
is_reported energy power time began s =
    is_report_due energy time (moving_up energy power time began s)
    (measured energy power time began s)

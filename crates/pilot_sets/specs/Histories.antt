-- The sets over a history of calls.
use Rattle.pilot_sets.specs.Common.{DirectionFields, DirectionFault, Thresholds, Accepted}
use Rattle.pilot_sets.specs.Common.{ActivePilot, CandidatePilot, PilotSets}
use Rattle.std.specs.Prelude.{ℕ, ◌≡◌, ◌≢◌, ◌≤◌, ◌<◌, ◌%◌, ◌⊎◌, List, [], ◌∷◌, ◌++◌, length, map}
use Rattle.std.specs.Prelude.{Option, Some}
use Rattle.std.specs.List.{All}
use Rattle.pilot_sets.specs.Directions.{IsDirection, direction_fault}
use Rattle.pilot_sets.specs.Orderly.{times_in}
use Rattle.pilot_sets.specs.Standing.{Standing, with_thresholds, with_neighbors, directed, due_at}
use Rattle.pilot_sets.specs.Standing.{stepped}
use Rattle.pilot_sets.specs.declared.strengths.Strength.{Strength}

pub data Call : Type 0 where
  Parameters : (t : Thresholds) → Call
  Neighbors : (heard : List ℕ) → Call
  Direct : (first : ℕ) (d : DirectionFields) → Call
  Due : (time : ℕ) → Call
  Step : (strengths : List Strength) (power : ℕ) (time : ℕ) → Call

abbrev pub after_call : Call → Standing → Standing
after_call (Parameters t) s = with_thresholds t s
after_call (Neighbors heard) s = with_neighbors heard s
after_call (Direct first d) s = directed first d s
after_call (Due time) s = due_at time s
after_call (Step strengths power time) s = stepped strengths power time s

abbrev pub after_all : List Call → Standing → Standing
after_all [] s = s
after_all (call ∷ calls) s = after_all calls (after_call call s)

-- the requirements of the calls on their arguments
abbrev pub IsLawfulCall : Call → Type 0
IsLawfulCall (Parameters t) = Unit {0}
IsLawfulCall (Neighbors heard) = All (λ p. p < 512) heard
IsLawfulCall (Direct first d) = IsDirection d
IsLawfulCall (Due time) = Unit {0}
IsLawfulCall (Step strengths power time) = Unit {0}

-- THE SETS
-- no pilot is in two sets or twice in one, at least one is active, and no list exceeds its limit
pub record AreApart (s : PilotSets) : Type 0 where
  pub once : (p : ℕ) → times_in p s ≤ 1
  pub some : 1 ≤ length s.active
  pub active : length s.active ≤ 6
  pub candidates : length s.candidates ≤ 10
  pub neighbors : length s.neighbors ≤ 20

-- DIRECTIONS
-- a call that neither replaces the waiting direction nor applies it at its time
abbrev pub LeavesWaiting : Accepted → Call → Type 0
LeavesWaiting direction (Parameters t) = Unit {0}
LeavesWaiting direction (Neighbors heard) = Unit {0}
LeavesWaiting direction (Direct first d) =
    (fault : DirectionFault) × (direction_fault d ≡ Some fault)
LeavesWaiting direction (Due time) = time ≢ direction.time
LeavesWaiting direction (Step strengths power time) = Unit {0}

-- the least time from `first` on that equals the action time modulo 64
pub record IsNextAt (first action time : ℕ) : Type 0 where
  pub from : first ≤ time
  pub at_action : time % 64 ≡ action
  pub least : (k : ℕ) → first ≤ k → k % 64 ≡ action → time ≤ k

-- TIMERS
abbrev pub active_timers : List ActivePilot → List (ℕ × Option ℕ)
active_timers actives = map (λ (a : ActivePilot). (a.pilot, a.timer)) actives

abbrev pub candidate_timers : List CandidatePilot → List (ℕ × Option ℕ)
candidate_timers candidates = map (λ (c : CandidatePilot). (c.pilot, c.timer)) candidates

-- the pilots of the active and the candidate set with their timers; no other pilot has one
abbrev pub timers : PilotSets → List (ℕ × Option ℕ)
timers s = active_timers s.active ++ candidate_timers s.candidates

abbrev pub IsAmong : (ℕ × Option ℕ) → List (ℕ × Option ℕ) → Type 0
IsAmong x [] = ⊥
IsAmong x (y ∷ ys) = (x ≡ y) ⊎ IsAmong x ys

-- a pilot's timer has run since time `start`
abbrev pub RunsSince : ℕ → ℕ → PilotSets → Type 0
RunsSince pilot start s = IsAmong (pilot, Some start) (timers s)

-- the call may start timers, and its time is `start`
abbrev pub Starts : ℕ → Call → Type 0
Starts start (Parameters t) = ⊥
Starts start (Neighbors heard) = ⊥
Starts start (Direct first d) = ⊥
Starts start (Due time) = ⊥
Starts start (Step strengths power time) = start ≡ time

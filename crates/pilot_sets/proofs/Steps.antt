-- What holds after a step of the sets, where it holds of each thing that the step may come to.
use Rattle.pilot_sets.proofs.Common.{◌≡◌, ℕ, ◌<◌, Bool, true, false, not, ◌&&◌, ◌==◌, if◌then◌else◌, [], ◌∷◌, ◌++◌, length, nat_lt, Option}
use Rattle.pilot_sets.proofs.Common.{Some, None, refl, ltb-true, DirectionFields, DirectionFault, ActivePilot, Accepted, PilotSets, fresh}
use Rattle.pilot_sets.proofs.Common.{direction_fault, accepted_of, is_expired, left, handed_off, Standing, unless_refused, directed}
use Rattle.pilot_sets.proofs.Common.{began_in, due_for}

-- a pilot that leaves the active set becomes a candidate or a neighbor, or is in no set
pub left_is : (P : PilotSets → Type 0) (time : ℕ) (a : ActivePilot) (s : PilotSets) →
    (length s.candidates < 10 → P (record s { candidates = s.candidates ++ fresh a.pilot ∷ [] })) →
    (length s.neighbors < 20 → P (record s { neighbors = s.neighbors ++ a.pilot ∷ [] })) → P s → P (left time a s)
left_is P time a s candidate neighbor none =
    by_cases (nat_lt (length s.candidates) 10) (not (is_expired s.thresholds time a.timer))
    (nat_lt (length s.neighbors) 20) refl refl
  where
    by_cases : (b e c : Bool) → nat_lt (length s.candidates) 10 ≡ b → nat_lt (length s.neighbors) 20 ≡ c →
        P (if b && e then record s { candidates = s.candidates ++ fresh a.pilot ∷ [] }
        else if c then record s { neighbors = s.neighbors ++ a.pilot ∷ [] } else s)
    by_cases true true c h k = candidate (ltb-true (length s.candidates) 10 h)
    by_cases true false true h k = neighbor (ltb-true (length s.neighbors) 20 k)
    by_cases true false false h k = none
    by_cases false e true h k = neighbor (ltb-true (length s.neighbors) 20 k)
    by_cases false e false h k = none

-- the direction that waits takes effect, or nothing happens
pub due_is : (P : PilotSets → Type 0) (waiting : Option Accepted) (time : ℕ) (s : Standing) →
    ((direction : Accepted) → waiting ≡ Some direction → P (handed_off time direction s.sets)) →
    P s.sets → P (due_for waiting time s).sets
due_is P None time s handed same = same
due_is P (Some direction) time s handed same = by_cases (direction.time == time)
  where
    by_cases : (b : Bool) → P (if b
        then record s { sets = handed_off time direction s.sets; began = Some (began_in s) }
        else s).sets
    by_cases true = handed direction refl
    by_cases false = same

-- a direction waits, or is refused
pub directed_is : (P : PilotSets → Type 0) (first : ℕ) (d : DirectionFields) (s : Standing) →
    (direction_fault d ≡ None → P (record s.sets { waiting = Some (accepted_of first d) })) →
    P s.sets → P (directed first d s).sets
directed_is P first d s accepted same = by_cases (direction_fault d) refl
  where
    by_cases : (fault : Option DirectionFault) → direction_fault d ≡ fault →
        P (unless_refused fault (accepted_of first d) s).sets
    by_cases None e = accepted e
    by_cases (Some fault) e = same

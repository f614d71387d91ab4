use Rattle.pilot_sets.proofs.Common.{◌≡◌, ◌≤◌, take, length, pilots_going}
use Rattle.pilot_sets.proofs.moves.going.Given as goal

abbrev pub invariant-loop-c : goal.invariant-loop-c
invariant-loop-c l =
    (l.going ≡ pilots_going l.thresholds l.time (take l.c-index l.candidates))
    × (length l.going ≤ l.c-index)

use Rattle.pilot_sets.proofs.Common.{◌≡◌, ◌≤◌, take, filter, length, stays}
use Rattle.pilot_sets.proofs.moves.staying.Given as goal

abbrev pub invariant-loop-c : goal.invariant-loop-c
invariant-loop-c l =
    (l.staying ≡ filter (stays l.thresholds l.time) (take l.c-index l.candidates))
    × (length l.staying ≤ l.c-index)

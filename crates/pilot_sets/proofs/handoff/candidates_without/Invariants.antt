use Rattle.pilot_sets.proofs.Common.{◌≡◌, ◌≤◌, take, length, candidates_without as candidates_left}
use Rattle.pilot_sets.proofs.handoff.candidates_without.Given as goal

abbrev pub invariant-loop-c : goal.invariant-loop-c
invariant-loop-c l =
    (l.others ≡ candidates_left l.named (take l.c-index l.candidates))
    × (length l.others ≤ l.c-index)

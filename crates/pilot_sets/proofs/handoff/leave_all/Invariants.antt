use Rattle.pilot_sets.proofs.Common.{◌≡◌, drop, all_left}
use Rattle.pilot_sets.proofs.handoff.leave_all.Given as goal

abbrev pub invariant-loop-a : goal.invariant-loop-a
invariant-loop-a l = all_left l.time l.leaving l.initial.sets ≡ all_left l.time (drop l.a-index l.leaving) l.sets

use Rattle.pilot_sets.proofs.Common.{◌≡◌, drop, timer_of as timer_among}
use Rattle.pilot_sets.proofs.handoff.timer_of.Given as goal

-- the pilots so far are others
abbrev pub invariant-loop-a : goal.invariant-loop-a
invariant-loop-a l = timer_among l.actives l.pilot ≡ timer_among (drop l.a-index l.actives) l.pilot

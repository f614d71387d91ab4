use Rattle.pilot_sets.proofs.Common.{◌≡◌, ◌≤◌, take, length, actives_without as actives_left}
use Rattle.pilot_sets.proofs.handoff.actives_without.Given as goal

abbrev pub invariant-loop-a : goal.invariant-loop-a
invariant-loop-a l = (l.others ≡ actives_left l.named (take l.a-index l.actives)) × (length l.others ≤ l.a-index)

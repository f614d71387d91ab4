use Rattle.pilot_sets.proofs.Common.{◌≡◌, take, pilots_of_actives}
use Rattle.pilot_sets.proofs.pilots.active_pilots.Given as goal

abbrev pub invariant-loop-a : goal.invariant-loop-a
invariant-loop-a l = l.pilots ≡ pilots_of_actives (take l.a-index l.actives)

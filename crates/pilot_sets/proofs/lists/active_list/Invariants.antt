use Rattle.pilot_sets.proofs.Common.{◌≡◌, map, take, shown_active}
use Rattle.pilot_sets.proofs.lists.active_list.Given as goal

abbrev pub invariant-loop-a : goal.invariant-loop-a
invariant-loop-a l = l.list ≡ map shown_active (take l.a-index l.actives)

use Rattle.pilot_sets.proofs.Common.{◌≡◌, drop, pointwise, is_same_active as is_same_by}
use Rattle.pilot_sets.proofs.moment.are_same_actives.Given as goal

abbrev pub invariant-loop-i : goal.invariant-loop-i
invariant-loop-i l = pointwise is_same_by l.one l.other ≡ pointwise is_same_by (drop l.i l.one) (drop l.i l.other)

use Rattle.pilot_search.proofs.Common.{pos, All-get_or, IsUnit, arith, common_steps, ints}
use Rattle.pilot_search.proofs.CorrelationSums.{units}
use Rattle.pilot_search.proofs.points.Points.of.Goals as goal

pub point-requires : goal.point-requires
point-requires c =
    All-get_or IsUnit c.table-signs-items.result.now c.loop-signs.signs-index (pos 0, pos 0)
    c.loop-signs-test.true (rw c.table-signs-items.ensures.value units)

pub turned_point-requires : goal.turned_point-requires
turned_point-requires c =
    All-get_or IsUnit c.table-signs-items.result.now c.loop-signs.signs-index (pos 0, pos 0)
    c.loop-signs-test.true (rw c.table-signs-items.ensures.value units)

pub loop-signs-preserved : goal.loop-signs-preserved
loop-signs-preserved c = grind (ints, arith, common_steps)

pub invariant_of-result : goal.invariant_of-result
invariant_of-result c = grind (ints, arith, common_steps)

pub returns : goal.returns
returns c = grind (ints, arith, common_steps)

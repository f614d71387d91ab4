use Rattle.pilot_sets.proofs.Common.{arith, common_steps, ints}
use Rattle.pilot_sets.proofs.reports.is_above.Goals as goal

pub loop-a-preserved : goal.loop-a-preserved
loop-a-preserved c = grind (ints, arith, common_steps)

pub returns-then-millionths-part : goal.returns-then-millionths-part
returns-then-millionths-part c = grind (ints, arith, common_steps)

pub returns : goal.returns
returns c = grind (ints, arith, common_steps)

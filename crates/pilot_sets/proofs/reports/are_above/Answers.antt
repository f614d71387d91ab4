use Rattle.pilot_sets.proofs.Common.{arith, common_steps, ints}
use Rattle.pilot_sets.proofs.reports.are_above.Goals as goal

pub returns-then-is_above : goal.returns-then-is_above
returns-then-is_above c = grind (ints, arith, common_steps)

pub loop-c-preserved : goal.loop-c-preserved
loop-c-preserved c = grind (ints, arith, common_steps)

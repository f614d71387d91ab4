use Rattle.pilot_sets.proofs.Common.{arith, common_steps, ints}
use Rattle.pilot_sets.proofs.moment.are_same_actives.Goals as goal

pub loop-i-preserved : goal.loop-i-preserved
loop-i-preserved c = grind (ints, arith, common_steps)

pub returns-then-not-is_same_active : goal.returns-then-not-is_same_active
returns-then-not-is_same_active c = grind (ints, arith, common_steps)

use Rattle.pilot_sets.proofs.Common.{arith, common_steps, ints}
use Rattle.pilot_sets.proofs.handoff.actives_after.Goals as goal

pub loop-i-preserved : goal.loop-i-preserved
loop-i-preserved c = grind (ints, arith, common_steps)

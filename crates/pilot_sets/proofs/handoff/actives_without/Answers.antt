use Rattle.pilot_sets.proofs.Common.{arith, common_steps, ints}
use Rattle.pilot_sets.proofs.handoff.actives_without.Goals as goal

pub loop-a-preserved : goal.loop-a-preserved
loop-a-preserved c = grind (ints, arith, common_steps)

use Rattle.pilot_sets.proofs.Common.{arith, common_steps, ints}
use Rattle.pilot_sets.proofs.pilots.without.Goals as goal

pub returns : goal.returns
returns c = grind (ints, arith, common_steps)

pub loop-p-preserved : goal.loop-p-preserved
loop-p-preserved c = grind (ints, arith, common_steps)

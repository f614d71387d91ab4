use Rattle.rake_finger.proofs.Common.{arith, common_steps, ints}
use Rattle.rake_finger.proofs.moments.power_of.Goals as goal

pub loop-sample-preserved : goal.loop-sample-preserved
loop-sample-preserved c = grind (ints, arith, common_steps)

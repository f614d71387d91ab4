use Rattle.pilot_sets.proofs.Common.{arith, common_steps, ints}
use Rattle.pilot_sets.proofs.sets.keep_deltas.Goals as goal

pub loop-s-preserved : goal.loop-s-preserved
loop-s-preserved c = grind (ints, arith, common_steps)

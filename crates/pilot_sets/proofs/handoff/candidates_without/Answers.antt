use Rattle.pilot_sets.proofs.Common.{arith, common_steps, ints}
use Rattle.pilot_sets.proofs.handoff.candidates_without.Goals as goal

pub loop-c-preserved : goal.loop-c-preserved
loop-c-preserved c = grind (ints, arith, common_steps)

use Rattle.pilot_sets.proofs.Common.{arith, common_steps, ints}
use Rattle.pilot_sets.proofs.strengths.energy_of.Goals as goal

pub loop-strength-preserved : goal.loop-strength-preserved
loop-strength-preserved c = grind (ints, arith, common_steps)

use Rattle.pilot_sets.proofs.Common.{arith, common_steps, ints}
use Rattle.pilot_sets.proofs.few.Few.empty.Goals as goal

pub invariant_of-result : goal.invariant_of-result
invariant_of-result c = grind (ints, arith, common_steps)

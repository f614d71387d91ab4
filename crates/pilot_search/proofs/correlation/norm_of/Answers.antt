use Rattle.pilot_search.proofs.Common.{arith, common_steps, ints}
use Rattle.pilot_search.proofs.correlation.norm_of.Goals as goal

pub overflow_add-result : goal.overflow_add-result
overflow_add-result c = grind (ints, arith, common_steps)

pub returns-clause-bound : goal.returns-clause-bound
returns-clause-bound c = grind (ints, arith, common_steps)

use Rattle.pilot_search.proofs.Common.{arith, common_steps, ints}
use Rattle.pilot_search.proofs.trying.bound_of.Goals as goal

pub overflow_add-result : goal.overflow_add-result
overflow_add-result c = grind (ints, arith, common_steps)

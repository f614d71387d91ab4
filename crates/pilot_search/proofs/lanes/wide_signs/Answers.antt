use Rattle.pilot_search.proofs.Common.{arith, common_steps, ints}
use Rattle.pilot_search.proofs.lanes.wide_signs.Goals as goal

pub overflow_cast-result : goal.overflow_cast-result
overflow_cast-result c = grind (ints, arith, common_steps)

use Rattle.reception.proofs.Common.{arith, common_steps, ints}
use Rattle.reception.proofs.fingers.end_of.Goals as goal

pub overflow_cast-result : goal.overflow_cast-result
overflow_cast-result c = grind (ints, arith, common_steps)

use Rattle.reception.proofs.Common.{arith, common_steps, ints}
use Rattle.reception.proofs.fingers.are_begun.Goals as goal

pub returns-then-not-has_begun : goal.returns-then-not-has_begun
returns-then-not-has_begun c = grind (ints, arith, common_steps)

pub loop-finger-preserved : goal.loop-finger-preserved
loop-finger-preserved c = grind (ints, arith, common_steps)

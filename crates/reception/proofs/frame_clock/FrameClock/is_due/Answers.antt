use Rattle.reception.proofs.Common.{arith, common_steps, ints}
use Rattle.reception.proofs.frame_clock.FrameClock.is_due.Goals as goal

pub returns-else-self-2 : goal.returns-else-self-2
returns-else-self-2 c = grind (ints, arith, common_steps)

pub returns-else-self : goal.returns-else-self
returns-else-self c = grind (ints, arith, common_steps)

pub returns-then-self-2 : goal.returns-then-self-2
returns-then-self-2 c = grind (ints, arith, common_steps)

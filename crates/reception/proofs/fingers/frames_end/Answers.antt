use Rattle.reception.proofs.Common.{arith, common_steps, ints}
use Rattle.reception.proofs.fingers.frames_end.Goals as goal

pub loop-finger-preserved : goal.loop-finger-preserved
loop-finger-preserved c = grind (ints, arith, common_steps)

use Rattle.tuned_listener.proofs.Common.{arith, ints, common_steps}
use Rattle.tuned_listener.proofs.frame_writer.FrameWriter.write.Goals as goal

pub returns-in-Slots-clause-ready : goal.returns-in-Slots-clause-ready
returns-in-Slots-clause-ready c = grind (ints, arith, common_steps)

pub returns-in-Slots-clause-ok : goal.returns-in-Slots-clause-ok
returns-in-Slots-clause-ok c = grind (ints, arith, common_steps)

pub returns-in-Listed-clause-err : goal.returns-in-Listed-clause-err
returns-in-Listed-clause-err c = grind (ints, arith, common_steps)

pub returns-in-Listed-clause-ok : goal.returns-in-Listed-clause-ok
returns-in-Listed-clause-ok c = grind (ints, arith, common_steps)

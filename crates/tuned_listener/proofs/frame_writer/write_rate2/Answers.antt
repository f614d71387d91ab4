use Rattle.tuned_listener.proofs.Common.{arith, ints, common_steps}
use Rattle.tuned_listener.proofs.frame_writer.write_rate2.Goals as goal

pub returns-clause-err : goal.returns-clause-err
returns-clause-err c = grind (ints, arith, common_steps)

pub returns-clause-ok : goal.returns-clause-ok
returns-clause-ok c = grind (ints, arith, common_steps)

use Rattle.tuned_listener.proofs.Common.{arith, ints, common_steps}
use Rattle.tuned_listener.proofs.slot_writer.page_after.Goals as goal

pub returns-in-Err-clause-page : goal.returns-in-Err-clause-page
returns-in-Err-clause-page c = grind (ints, arith, common_steps)

pub returns-in-Ok-clause-page : goal.returns-in-Ok-clause-page
returns-in-Ok-clause-page c = grind (ints, arith, common_steps)

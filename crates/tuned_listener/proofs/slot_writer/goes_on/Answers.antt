use Rattle.tuned_listener.proofs.Common.{arith, ints, common_steps}
use Rattle.tuned_listener.proofs.slot_writer.goes_on.Goals as goal

pub returns-else-place-eq0 : goal.returns-else-place-eq0
returns-else-place-eq0 c = grind (ints, arith, common_steps)

pub returns-then-place-eq0 : goal.returns-then-place-eq0
returns-then-place-eq0 c = grind (ints, arith, common_steps)

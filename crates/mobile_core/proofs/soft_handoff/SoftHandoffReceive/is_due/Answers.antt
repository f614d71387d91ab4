use Rattle.mobile_core.proofs.Common.{arith, common_steps, ints}
use Rattle.mobile_core.proofs.soft_handoff.SoftHandoffReceive.is_due.Goals as goal

pub returns-then-has_told : goal.returns-then-has_told
returns-then-has_told c = grind (ints, arith, common_steps)

pub returns-else-has_told : goal.returns-else-has_told
returns-else-has_told c = grind (ints, arith, common_steps)

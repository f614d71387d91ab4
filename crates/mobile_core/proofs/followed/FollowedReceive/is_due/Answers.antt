use Rattle.mobile_core.proofs.Common.{arith, common_steps, ints}
use Rattle.mobile_core.proofs.followed.FollowedReceive.is_due.Goals as goal

pub returns-then-is_due : goal.returns-then-is_due
returns-then-is_due c = grind (ints, arith, common_steps)

pub returns-else-is_due : goal.returns-else-is_due
returns-else-is_due c = grind (ints, arith, common_steps)

use Rattle.mobile_core.proofs.Common.{arith, common_steps, ints}
use Rattle.mobile_core.proofs.followed.Followed.opens.Goals as goal

pub returns-else-is_none : goal.returns-else-is_none
returns-else-is_none c = grind (ints, arith, common_steps)

pub returns-then-is_none : goal.returns-then-is_none
returns-then-is_none c = grind (ints, arith, common_steps)

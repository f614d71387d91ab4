use Rattle.mobile_core.proofs.Common.{arith, common_steps, ints}
use Rattle.mobile_core.proofs.receive.OptionReceive.is_due.Goals as goal

pub returns-in-None : goal.returns-in-None
returns-in-None c = grind (ints, arith, common_steps)

pub returns-in-Some : goal.returns-in-Some
returns-in-Some c = grind (ints, arith, common_steps)

use Rattle.message_layout.proofs.Common.{arith, common_steps, ints}
use Rattle.message_layout.proofs.reading.is_rest_of.Goals as goal

pub returns-in-Some : goal.returns-in-Some
returns-in-Some c = grind (ints, arith, common_steps)

use Rattle.mobile_core.proofs.Common.{arith, common_steps, ints}
use Rattle.mobile_core.proofs.soft_handoff.SoftHandoffReceive.take_ended.Goals as goal

pub returns-clause-hears : goal.returns-clause-hears
returns-clause-hears c = grind (ints, arith, common_steps)

pub returns-clause-waits : goal.returns-clause-waits
returns-clause-waits c = grind (ints, arith, common_steps)

pub come-requires-clause-sound : goal.come-requires-clause-sound
come-requires-clause-sound c = grind (ints, arith, common_steps)

pub returns-clause-sound : goal.returns-clause-sound
returns-clause-sound c = grind (ints, arith, common_steps)

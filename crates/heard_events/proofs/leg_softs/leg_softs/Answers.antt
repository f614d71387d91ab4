use Rattle.heard_events.proofs.Common.{arith, common_steps, ints}
use Rattle.heard_events.proofs.leg_softs.leg_softs.Goals as goal

pub combine_into-requires-clause-rows : goal.combine_into-requires-clause-rows
combine_into-requires-clause-rows c = grind (ints, arith, common_steps)

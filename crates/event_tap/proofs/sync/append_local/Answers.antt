use Rattle.event_tap.proofs.Common.{arith, common_steps, ints}
use Rattle.event_tap.proofs.sync.append_local.Goals as goal

pub append_values-requires-clause-all : goal.append_values-requires-clause-all
append_values-requires-clause-all c = grind (ints, arith, common_steps)

pub append_values-requires-clause-fit : goal.append_values-requires-clause-fit
append_values-requires-clause-fit c = grind (ints, arith, common_steps)

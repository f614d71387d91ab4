use Rattle.event_tap.proofs.Common.{arith, common_steps, ints}
use Rattle.event_tap.proofs.sync.append_sync.Goals as goal

pub append_rest-requires : goal.append_rest-requires
append_rest-requires c = grind (ints, arith, common_steps)

pub append_named-requires-clause-ascii : goal.append_named-requires-clause-ascii
append_named-requires-clause-ascii c = grind (ints, arith, common_steps)

pub append_local-requires-clause-fit : goal.append_local-requires-clause-fit
append_local-requires-clause-fit c = grind (ints, arith, common_steps)

pub returns-clause-most : goal.returns-clause-most
returns-clause-most c = grind (ints, arith, common_steps)

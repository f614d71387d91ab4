use Rattle.event_tap.proofs.Common.{arith, common_steps, ints}
use Rattle.event_tap.proofs.paging.append_slot.Goals as goal

pub append_str-requires-clause-ascii : goal.append_str-requires-clause-ascii
append_str-requires-clause-ascii c = grind (ints, arith, common_steps)

pub append_named-requires-3-clause-ascii : goal.append_named-requires-3-clause-ascii
append_named-requires-3-clause-ascii c = grind (ints, arith, common_steps)

pub append_named-requires-2-clause-ascii : goal.append_named-requires-2-clause-ascii
append_named-requires-2-clause-ascii c = grind (ints, arith, common_steps)

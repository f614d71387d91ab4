use Rattle.event_tap.proofs.Common.{arith, common_steps, ints}
use Rattle.event_tap.proofs.parts.append_raw.Goals as goal

pub returns-clause-most : goal.returns-clause-most
returns-clause-most c = grind (ints, arith, common_steps)

pub append_str-requires-clause-ascii : goal.append_str-requires-clause-ascii
append_str-requires-clause-ascii c = grind (ints, arith, common_steps)

pub append_named-requires-clause-ascii : goal.append_named-requires-clause-ascii
append_named-requires-clause-ascii c = grind (ints, arith, common_steps)

pub append_str-requires-2-clause-ascii : goal.append_str-requires-2-clause-ascii
append_str-requires-2-clause-ascii c = grind (ints, arith, common_steps)

use Rattle.event_tap.proofs.Common.{arith, common_steps, ints, kind_text}
use Rattle.event_tap.proofs.said.append_kind.Goals as goal

pub returns-clause-value : goal.returns-clause-value
unfolding kind_text
returns-clause-value c = grind (ints, arith, common_steps)

pub append_named-requires-clause-ascii : goal.append_named-requires-clause-ascii
append_named-requires-clause-ascii c = grind (ints, arith, common_steps)

pub append_str-requires-2-clause-ascii : goal.append_str-requires-2-clause-ascii
append_str-requires-2-clause-ascii c = grind (ints, arith, common_steps)

pub append_str-requires-clause-ascii : goal.append_str-requires-clause-ascii
append_str-requires-clause-ascii c = grind (ints, arith, common_steps)

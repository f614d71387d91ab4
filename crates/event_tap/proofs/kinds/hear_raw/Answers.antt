use Rattle.event_tap.proofs.Common.{arith, common_steps, ints}
use Rattle.event_tap.proofs.kinds.hear_raw.Goals as goal

pub returns-clause-left : goal.returns-clause-left
returns-clause-left c = grind (ints, arith, common_steps)

pub append_raw-requires-clause-ascii : goal.append_raw-requires-clause-ascii
append_raw-requires-clause-ascii c = grind (ints, arith, common_steps)

pub append_raw-requires-in-Traffic-clause-ascii : goal.append_raw-requires-in-Traffic-clause-ascii
append_raw-requires-in-Traffic-clause-ascii c = grind (ints, arith, common_steps)

pub append_raw-requires-in-Paging-clause-ascii : goal.append_raw-requires-in-Paging-clause-ascii
append_raw-requires-in-Paging-clause-ascii c = grind (ints, arith, common_steps)

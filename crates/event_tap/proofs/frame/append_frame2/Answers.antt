use Rattle.event_tap.proofs.Common.{arith, common_steps, ints}
use Rattle.event_tap.proofs.frame.append_frame2.Goals as goal

pub append_named-requires-clause-ascii : goal.append_named-requires-clause-ascii
append_named-requires-clause-ascii c = grind (ints, arith, common_steps)

use Rattle.heard_events.proofs.Common.{arith, common_steps, ints}
use Rattle.heard_events.proofs.fingers.with_leg.Goals as goal

pub loop-i-preserved : goal.loop-i-preserved
loop-i-preserved c = grind (ints, arith, common_steps)

pub with_finger-more-requires : goal.with_finger-more-requires
with_finger-more-requires c = grind (ints, arith, common_steps)

use Rattle.heard_events.proofs.Common.{arith, common_steps, ints}
use Rattle.heard_events.proofs.legs.Legs.on_subchannel.Goals as goal

pub loop-leg-preserved : goal.loop-leg-preserved
loop-leg-preserved c = grind (ints, arith, common_steps)

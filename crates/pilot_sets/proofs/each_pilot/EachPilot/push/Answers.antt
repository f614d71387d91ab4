use Rattle.pilot_sets.proofs.Common.{arith, common_steps, ints}
use Rattle.pilot_sets.proofs.each_pilot.EachPilot.push.Goals as goal

pub push-requires : goal.push-requires
push-requires c = grind (ints, arith, common_steps)

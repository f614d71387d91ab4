use Rattle.pilot_sets.proofs.Common.{arith, common_steps, ints}
use Rattle.pilot_sets.proofs.each_pilot.EachPilot.add.Goals as goal

pub loop-t-preserved : goal.loop-t-preserved
loop-t-preserved c = grind (ints, arith, common_steps)

pub returns : goal.returns
returns c = grind (ints, arith, common_steps)

pub push-requires : goal.push-requires
push-requires c = grind (ints, arith, common_steps)

use Rattle.pilot_sets.proofs.Common.{arith, common_steps, ints}
use Rattle.pilot_sets.proofs.lists.active_list.Goals as goal

pub push-requires : goal.push-requires
push-requires c = grind (ints, arith, common_steps)

pub loop-a-preserved : goal.loop-a-preserved
loop-a-preserved c = grind (ints, arith, common_steps)

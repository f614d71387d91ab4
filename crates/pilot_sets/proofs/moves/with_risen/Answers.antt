use Rattle.pilot_sets.proofs.Common.{arith, common_steps, ints}
use Rattle.pilot_sets.proofs.moves.with_risen.Goals as goal

pub loop-p-preserved : goal.loop-p-preserved
loop-p-preserved c = grind (ints, arith, common_steps)

pub push-requires : goal.push-requires
push-requires c = grind (ints, arith, common_steps)

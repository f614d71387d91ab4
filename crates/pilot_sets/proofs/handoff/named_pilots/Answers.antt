use Rattle.pilot_sets.proofs.Common.{arith, common_steps, ints}
use Rattle.pilot_sets.proofs.handoff.named_pilots.Goals as goal

pub loop-n-preserved : goal.loop-n-preserved
loop-n-preserved c = grind (ints, arith, common_steps)

pub push-requires : goal.push-requires
push-requires c = grind (ints, arith, common_steps)

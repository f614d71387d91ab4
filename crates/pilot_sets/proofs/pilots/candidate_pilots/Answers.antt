use Rattle.pilot_sets.proofs.Common.{arith, common_steps, ints}
use Rattle.pilot_sets.proofs.pilots.candidate_pilots.Goals as goal

pub push-requires : goal.push-requires
push-requires c = grind (ints, arith, common_steps)

pub loop-c-preserved : goal.loop-c-preserved
loop-c-preserved c = grind (ints, arith, common_steps)

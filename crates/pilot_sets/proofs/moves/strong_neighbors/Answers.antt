use Rattle.pilot_sets.proofs.Common.{arith, common_steps, ints}
use Rattle.pilot_sets.proofs.moves.strong_neighbors.Goals as goal

pub returns-clause-value : goal.returns-clause-value
returns-clause-value c = grind (ints, arith, common_steps)

pub loop-p-preserved : goal.loop-p-preserved
loop-p-preserved c = grind (ints, arith, common_steps)

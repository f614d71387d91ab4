use Rattle.pilot_search.proofs.Common.{arith, ints, common_steps}
use Rattle.pilot_search.proofs.tails.magnitude.Goals as goal

pub returns-clause-value : goal.returns-clause-value
returns-clause-value c = grind (ints, arith, common_steps)

use Rattle.pilot_sets.proofs.Common.{arith, common_steps, ints}
use Rattle.pilot_sets.proofs.few.FewPartialEq.eq.Goals as goal

pub returns : goal.returns
returns c = grind (ints, arith, common_steps)

use Rattle.list_viterbi.proofs.Common.{arith, ints, common_steps}
use Rattle.list_viterbi.proofs.ranked.Ranked.push.Goals as goal

pub returns : goal.returns
returns g c = grind (ints, arith, common_steps)

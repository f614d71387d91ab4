use Rattle.viterbi.proofs.Common.{arith, ints, common_steps}
use Rattle.viterbi.proofs.metrics.greatest.Goals as goal

pub loop-metric-init : goal.loop-metric-init
loop-metric-init c = grind (ints, arith, common_steps)

use Rattle.viterbi.proofs.Common.{arith, ints, common_steps}
use Rattle.viterbi.proofs.decisions.traced.Goals as goal

pub bits_of-requires : goal.bits_of-requires
bits_of-requires c = grind (ints, arith, common_steps)

pub slice_bounds-bits_of-end : goal.slice_bounds-bits_of-end
slice_bounds-bits_of-end c = grind (ints, arith, common_steps)

use Rattle.viterbi.proofs.Common.{◌≡◌, take}
use Rattle.viterbi.proofs.decisions.bits_of.Given as goal

abbrev pub invariant-loop-bit : goal.invariant-loop-bit
invariant-loop-bit l = l.bits ≡ take l.bit-index l.path

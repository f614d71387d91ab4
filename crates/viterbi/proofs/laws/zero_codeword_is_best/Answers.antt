use Rattle.viterbi.proofs.Sent.{zero_codeword_best}
use Rattle.viterbi.proofs.laws.zero_codeword_is_best.Goals as goal

pub returns : goal.returns
returns c = zero_codeword_best

use Rattle.viterbi.proofs.Sent.{sent_codeword_best, sent_codeword_alone}
use Rattle.viterbi.proofs.laws.sent_codeword_is_best.Goals as goal

pub returns-clause-best : goal.returns-clause-best
returns-clause-best c = sent_codeword_best

pub returns-clause-alone : goal.returns-clause-alone
returns-clause-alone c = sent_codeword_alone

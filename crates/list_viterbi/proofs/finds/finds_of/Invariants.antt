use Rattle.list_viterbi.proofs.Common.{◌≡◌, take, finds_from}
use Rattle.list_viterbi.proofs.finds.finds_of.Given as goal

abbrev pub invariant-loop-rank : goal.invariant-loop-rank
invariant-loop-rank l = l.finds ≡ finds_from l.state 0 (take l.rank l.scores)

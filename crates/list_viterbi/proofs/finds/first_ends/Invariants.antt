use Rattle.list_viterbi.proofs.Common.{◌≡◌, first_finds}
use Rattle.list_viterbi.proofs.finds.first_ends.Given as goal

abbrev pub invariant-loop-state : goal.invariant-loop-state
invariant-loop-state l = l.finds ≡ first_finds l.column l.k l.state

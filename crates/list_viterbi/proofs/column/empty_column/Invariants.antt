use Rattle.list_viterbi.proofs.Common.{◌≡◌, vec_len}
use Rattle.list_viterbi.proofs.column.empty_column.Given as goal

abbrev pub invariant-loop-state : goal.invariant-loop-state
invariant-loop-state l = vec_len l.column ≡ l._state

use Rattle.list_viterbi.proofs.Common.{◌≡◌, map, take, entry_at}
use Rattle.list_viterbi.proofs.tracing.all_traced.Given as goal

abbrev pub invariant-loop-i : goal.invariant-loop-i
invariant-loop-i l = l.codewords ≡ map (entry_at l.columns) (take l.i l.finds)

use Rattle.list_viterbi.proofs.Common.{◌≡◌, ◌≤◌, ones_below}
use Rattle.list_viterbi.proofs.tracing.ones_below.Given as goal

abbrev pub invariant-loop-lower : goal.invariant-loop-lower
invariant-loop-lower l = record {
  value : l.ones ≡ ones_below l.choices l.lower;
  most : l.ones ≤ l.lower;
}

use Rattle.viterbi.proofs.Common.{◌<◌, ◌<ℤ◌, ◌≤ℤ◌, ℕ, get_or, pos}
use Rattle.viterbi.proofs.metrics.best_state.Given as goal

abbrev pub invariant-loop-state : goal.invariant-loop-state
invariant-loop-state l = record {
  below : l.best < l.count;
  greatest : (k : ℕ) → k < l.state → get_or l.metrics k (pos 0) ≤ℤ get_or l.metrics l.best (pos 0);
  first : (k : ℕ) → k < l.best → get_or l.metrics k (pos 0) <ℤ get_or l.metrics l.best (pos 0);
}

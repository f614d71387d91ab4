use Rattle.viterbi.proofs.Common.{◌<◌, ◌≤ℤ◌, ℕ, ℤ, length, get_or, pos}
use Rattle.viterbi.proofs.metrics.greatest.Given as goal

abbrev pub invariant-loop-metric : goal.invariant-loop-metric
invariant-loop-metric l = record {
  most : (t : ℕ) → t < l.metric-index → get_or l.metrics t (pos 0) ≤ℤ l.most;
  least : (bound : ℤ) → ((t : ℕ) → t < length l.metrics → get_or l.metrics t (pos 0) ≤ℤ bound) → l.most ≤ℤ bound;
}

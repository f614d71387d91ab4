use Rattle.viterbi.proofs.Common.{◌≡◌, ◌<◌, ℕ, length, get_or, pos}
use Rattle.viterbi.proofs.metrics.clear.Given as goal

abbrev pub invariant-loop-metric : goal.invariant-loop-metric
invariant-loop-metric l = record {
  long : length l.column ≡ length l.initial.column;
  zeros : (t : ℕ) → t < l.metric-index → get_or l.column t (pos 0) ≡ pos 0;
}

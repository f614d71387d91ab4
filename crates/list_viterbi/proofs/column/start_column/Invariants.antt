use Rattle.list_viterbi.proofs.Common.{◌≡◌, ◌<◌, ℕ, [], length, get_or, start_scores}
use Rattle.list_viterbi.proofs.column.start_column.Given as goal

abbrev pub invariant-loop-state : goal.invariant-loop-state
invariant-loop-state l = record {
  whole : length l.column ≡ 256;
  each : (t : ℕ) → t < l.state → get_or l.column t [] ≡ start_scores l.ends t;
}

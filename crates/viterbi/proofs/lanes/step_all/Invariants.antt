use Rattle.viterbi.proofs.Common.{◌≡◌, ◌/◌, ◌%◌, ◌<◌, ◌-ℤ◌, ℕ, length, get_or, map, pos, to_z, w64, took, metric_into, choice_into, number}
use Rattle.viterbi.specs.contracts.lanes.step_all.{FORCED-type}
use Rattle.viterbi.proofs.GreatestLanes.{AreTops}
use Rattle.viterbi.proofs.lanes.step_all.Given as goal

abbrev pub invariant-loop-k : goal.invariant-loop-k
invariant-loop-k g l = record {
  whole : length l.next ≡ 256;
  long : length l.choices ≡ 32;
  metrics : (t : ℕ) → t < 256 → t / 8 % 16 < l.k →
      get_or l.next t (pos 0) ≡ metric_into (FORCED-type (number g.row.FORCED)) l.column l.first l.second t -ℤ l.top;
  chosen : (t : ℕ) → t < 256 → t / 8 % 16 < l.k →
      took l.choices t ≡ choice_into (FORCED-type (number g.row.FORCED)) l.column l.first l.second t;
  tops : AreTops (λ t. metric_into (FORCED-type (number g.row.FORCED)) l.column l.first l.second t -ℤ l.top) l.k
      (map (to_z w64) l.most);
}

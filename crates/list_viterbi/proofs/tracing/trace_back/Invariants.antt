use Rattle.list_viterbi.proofs.Common.{◌≡◌, ◌-◌, ◌<◌, ◌++◌, length, drop, list_path, list_origin}
use Rattle.list_viterbi.proofs.tracing.trace_back.Given as goal

abbrev pub invariant-loop-back : goal.invariant-loop-back
invariant-loop-back l = record {
  long : length l.bits ≡ length l.columns;
  small : l.state < 256;
  rank_small : l.rank < 256;
  start : list_origin l.columns (length l.columns - l.back) l.state l.rank
      ≡ list_origin l.columns (length l.columns) l.end l.place;
  whole : list_path l.columns (length l.columns - l.back) l.state l.rank
      ++ drop (length l.columns - l.back) l.bits ≡ list_path l.columns (length l.columns) l.end l.place;
}

use Rattle.viterbi.proofs.Common.{◌≡◌, ◌-◌, ◌<◌, ◌++◌, length, drop, path, path_origin}
use Rattle.viterbi.proofs.decisions.trace_back.Given as goal

abbrev pub invariant-loop-back : goal.invariant-loop-back
invariant-loop-back l = record {
  long : length l.bits ≡ length l.columns;
  small : l.state < 256;
  start : path_origin l.columns (length l.columns - l.back) l.state ≡ path_origin l.columns (length l.columns) l.end;
  whole : path l.columns (length l.columns - l.back) l.state ++ drop (length l.columns - l.back) l.bits
      ≡ path l.columns (length l.columns) l.end;
}

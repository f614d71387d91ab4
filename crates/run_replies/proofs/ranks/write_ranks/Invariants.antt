use Rattle.run_replies.proofs.Common.{◌≤◌, take, Appends}
use Rattle.run_replies.specs.Ranks.{ranks_text}
use Rattle.run_replies.proofs.ranks.write_ranks.Given as goal

abbrev pub invariant-loop-place : goal.invariant-loop-place
invariant-loop-place g l = record {
  written : Appends (g.K.Sink.written l.fn.sink) (g.K.Sink.written l.sink) (ranks_text (take l.place l.ranks));
  later : g.K.Sink.faults l.fn.sink ≤ g.K.Sink.faults l.sink;
}

use Rattle.cdma_io.proofs.Common.{◌-◌, ◌≤◌, length, take, Appends}
use Rattle.cdma_io.proofs.sink.write_all.Given as goal

abbrev pub invariant-loop-given : goal.invariant-loop-given
invariant-loop-given g l = record {
  given : l.given ≤ length l.bytes;
  written : Appends (g.K.Sink.written l.fn.sink) (g.K.Sink.written l.sink) (take l.given l.bytes);
  later : g.K.Sink.faults l.fn.sink ≤ g.K.Sink.faults l.sink;
}

abbrev pub decreases-loop-given : goal.decreases-loop-given
decreases-loop-given g l = length l.bytes - l.given

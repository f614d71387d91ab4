use Rattle.run_replies.proofs.Common.{◌≡◌, ◌-◌, ◌≤◌, All, None, length, width_of, IsKept}
use Rattle.run_replies.proofs.HeardRest.{Hears}
use Rattle.run_replies.proofs.receiving.hear_rest.Given as goal

abbrev pub invariant-loop-reader : goal.invariant-loop-reader
invariant-loop-reader g l = record {
  hears : Hears g.L.FileListener.hearing (width_of l.initial.reader.header) (l.initial.reader.left - l.reader.left)
      l.fn.listener l.listener (g.T.KeepsTaps.kept l.fn.taps) (g.T.KeepsTaps.kept l.taps)
      (g.S.Source.rest l.fn.source) (g.S.Source.rest l.source) (g.K.Sink.written l.fn.sink) (g.K.Sink.written l.sink);
  kept : All IsKept (g.T.KeepsTaps.kept l.taps);
  taken : g.L.FileListener.has_room l.listener l.reader.left;
  same : l.reader.header ≡ l.initial.reader.header;
  low : l.reader.left ≤ l.initial.reader.left;
  good : l.reader.fault ≡ None;
  room : length l.piece ≡ 4096;
  later : g.S.Source.faults l.fn.source ≤ g.S.Source.faults l.source;
  later_sink : g.K.Sink.faults l.fn.sink ≤ g.K.Sink.faults l.sink;
}

abbrev pub decreases-loop-reader : goal.decreases-loop-reader
decreases-loop-reader g l = l.reader.left

use Rattle.run_replies.proofs.Common.{◌≡◌, ◌≤◌, ◌+◌, ◌++◌, All, List, length, take, Sample, IsKept, KeptTap, run_taps, StandsFor, has_room}
use Rattle.run_replies.proofs.Common.{steps_left, Tuning, Event, HasTold}
use Rattle.run_replies.proofs.handset_events.tell_events.Given as goal

abbrev pub invariant-loop-event : goal.invariant-loop-event
invariant-loop-event g l = record {
  most : l.taken ≤ length l.samples;
  room : has_room l.mobile + l.taken ≡ has_room l.fn.mobile;
  kept : All IsKept (g.T.KeepsTaps.kept l.taps);
  told : (t : Tuning) (first : List KeptTap) (heard : List Sample) (given : List Event) →
      StandsFor t l.fn.mobile heard given → g.T.KeepsTaps.kept l.fn.taps ≡ run_taps first given →
      HasTold t first l.mobile (g.T.KeepsTaps.kept l.taps) given (heard ++ take l.taken l.samples)
      (g.K.Sink.written l.fn.sink) (g.K.Sink.written l.sink);
  later : g.K.Sink.faults l.fn.sink ≤ g.K.Sink.faults l.sink;
}

abbrev pub decreases-loop-event : goal.decreases-loop-event
decreases-loop-event g l = steps_left l.mobile

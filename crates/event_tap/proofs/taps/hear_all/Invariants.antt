use Rattle.event_tap.proofs.Common.{◌-◌, ◌≤◌, length}
use Rattle.event_tap.proofs.TapLists.{IsHearing}
use Rattle.event_tap.proofs.taps.hear_all.Given as goal

abbrev pub invariant-loop-place : goal.invariant-loop-place
invariant-loop-place g l =
    IsHearing g.T.Tap.shape g.T.Tap.left l.event (g.K.Sink.written l.fn.sink)
    (g.K.Sink.written l.sink) l.fn.taps.items l.taps.items l.place
    × (g.K.Sink.faults l.fn.sink ≤ g.K.Sink.faults l.sink)

abbrev pub decreases-loop-place : goal.decreases-loop-place
decreases-loop-place g l = length l.taps.items - l.place

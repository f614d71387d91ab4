use Rattle.event_tap.proofs.Common.{◌-◌, length}
use Rattle.event_tap.proofs.TapLists.{IsLimiting}
use Rattle.event_tap.proofs.taps.limit_all.Given as goal

abbrev pub invariant-loop-place : goal.invariant-loop-place
invariant-loop-place g l = IsLimiting g.T.Tap.shape g.T.Tap.left l.limits l.fn.taps.items l.taps.items l.place

abbrev pub decreases-loop-place : goal.decreases-loop-place
decreases-loop-place g l = length l.taps.items - l.place

use Rattle.mobile_core.proofs.Common.{◌-◌, length, None, Steps}
use Rattle.mobile_core.proofs.mobile.Mobile.step.Given as goal

abbrev pub invariant-loop-event : goal.invariant-loop-event
invariant-loop-event l = Steps l.fn.self l.self l.samples (record { taken = l.taken; event = None })

abbrev pub decreases-loop-event : goal.decreases-loop-event
decreases-loop-event l = length l.samples - l.taken

use Rattle.mobile_core.proofs.Common.{List, None, Sample, Steps, due_parts}
use Rattle.mobile_core.proofs.mobile.Mobile.hear_due.Given as goal

abbrev pub invariant-loop-self : goal.invariant-loop-self
invariant-loop-self l = (samples : List Sample) →
    Steps l.fn.self l.self samples (record { taken = 0; event = None })

abbrev pub decreases-loop-self : goal.decreases-loop-self
decreases-loop-self l = due_parts l.self

use Rattle.mobile_core.proofs.Common.{arith, common_steps, ints}
use Rattle.mobile_core.proofs.soft_handoff.SoftHandoff.open.Goals as goal

pub returns-clause-hears : goal.returns-clause-hears
returns-clause-hears c = λ t heard phase deltas within early.
    rw c.new-sets.ensures.value (c.open-receiver.ensures.hears t heard phase deltas within early)

pub returns-clause-sound : goal.returns-clause-sound
returns-clause-sound c = grind (ints, arith, common_steps)

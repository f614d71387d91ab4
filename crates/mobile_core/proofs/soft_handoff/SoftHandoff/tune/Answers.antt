use Rattle.mobile_core.proofs.Common.{arith, common_steps, ints, rules}
use Rattle.mobile_core.proofs.FramesHeard.{hears_tuned}
use Rattle.mobile_core.proofs.soft_handoff.SoftHandoff.tune.Goals as goal

pub returns-clause-hears : goal.returns-clause-hears
returns-clause-hears c = λ t traffic m heard pages st.
    rw c.tune.ensures.same
    (hears_tuned c.legs-legs.result _ _ st (λ here. c.legs-legs.ensures.value) (λ other. absurd (other (search rules))))

pub returns-clause-same : goal.returns-clause-same
returns-clause-same c = grind (ints, arith, common_steps)

pub returns-clause-sound : goal.returns-clause-sound
returns-clause-sound c = grind (ints, arith, common_steps)

pub returns-then-moment_at-passed-clause-hears : goal.returns-then-moment_at-passed-clause-hears
returns-then-moment_at-passed-clause-hears c = grind (ints, arith, common_steps)

pub returns-clause-waits : goal.returns-clause-waits
returns-clause-waits c = grind (ints, arith, common_steps)

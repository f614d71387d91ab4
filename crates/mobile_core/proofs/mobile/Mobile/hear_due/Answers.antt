use Rattle.mobile_core.proofs.Common.{arith, common_steps, ints, None, Some}
use Rattle.mobile_core.proofs.StepJoins.{told_on}
use Rattle.mobile_core.proofs.mobile.Mobile.hear_due.Goals as goal

pub returns-in-Some-clause-steps : goal.returns-in-Some-clause-steps
returns-in-Some-clause-steps c = λ samples.
    told_on (Some c.in-Some.event) (c.loop-self.invariant samples) c.in-Some.ensures.steps

pub loop-self-preserved : goal.loop-self-preserved
loop-self-preserved c = λ samples.
    told_on None (c.loop-self.invariant samples) (rw c.in_default.is at c.hear_next.ensures.steps)

pub hear_next-requires : goal.hear_next-requires
hear_next-requires c = grind (ints, arith, common_steps)

pub returns-in-Some-clause-none : goal.returns-in-Some-clause-none
returns-in-Some-clause-none c = grind (ints, arith, common_steps)

use Rattle.mobile_core.proofs.Common.{arith, common_steps, ints}
use Rattle.mobile_core.proofs.mobile.Mobile.hear_next.Goals as goal

pub hear_sync-requires-clause-due : goal.hear_sync-requires-clause-due
hear_sync-requires-clause-due c = c.is_due.ensures.0 c.if-is_due.true

pub hear_followed-requires-clause-due : goal.hear_followed-requires-clause-due
hear_followed-requires-clause-due c = grind (ints, arith, common_steps)

pub hear_followed-requires-clause-silent : goal.hear_followed-requires-clause-silent
hear_followed-requires-clause-silent c = grind (ints, arith, common_steps)

use Rattle.heard_events.proofs.Common.{arith, common_steps, ints}
use Rattle.heard_events.proofs.measuring.pilot_strength.Goals as goal

pub returns-clause-close : goal.returns-clause-close
returns-clause-close c = grind (ints, arith, common_steps)

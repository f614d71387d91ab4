use Rattle.pilot_sets.proofs.Common.{arith, common_steps, ints}
use Rattle.pilot_sets.proofs.reports.has_expired.Goals as goal

pub returns-then-is_expired : goal.returns-then-is_expired
returns-then-is_expired c = grind (ints, arith, common_steps)

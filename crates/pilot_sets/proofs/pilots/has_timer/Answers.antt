use Rattle.pilot_sets.proofs.Common.{arith, common_steps, ints}
use Rattle.pilot_sets.proofs.pilots.has_timer.Goals as goal

pub returns-then-has : goal.returns-then-has
returns-then-has c = grind (ints, arith, common_steps)

pub returns-else-has : goal.returns-else-has
returns-else-has c = grind (ints, arith, common_steps)

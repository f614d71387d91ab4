use Rattle.pilot_sets.proofs.Common.{arith, common_steps, ints}
use Rattle.pilot_sets.proofs.few.Few.push_within.Goals as goal

pub returns-then-self-room-clause-value : goal.returns-then-self-room-clause-value
returns-then-self-room-clause-value c = grind (ints, arith, common_steps)

pub returns-then-self-room-clause-within : goal.returns-then-self-room-clause-within
returns-then-self-room-clause-within c = grind (ints, arith, common_steps)

pub returns-else-self-room-clause-value : goal.returns-else-self-room-clause-value
returns-else-self-room-clause-value c = grind (ints, arith, common_steps)

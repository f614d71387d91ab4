use Rattle.command_line.proofs.Common.{arith, common_steps, ints}
use Rattle.command_line.proofs.testing.first_part.Goals as goal

pub returns-clause-value : goal.returns-clause-value
returns-clause-value c = grind (ints, arith, common_steps)

pub returns-in_err-name-clause-value : goal.returns-in_err-name-clause-value
returns-in_err-name-clause-value c = grind (ints, arith, common_steps)

pub returns-in_err-value-clause-value : goal.returns-in_err-value-clause-value
returns-in_err-value-clause-value c = grind (ints, arith, common_steps)

pub returns-in-Some-clause-value : goal.returns-in-Some-clause-value
returns-in-Some-clause-value c = grind (ints, arith, common_steps)

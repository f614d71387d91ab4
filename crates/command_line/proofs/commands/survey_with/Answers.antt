use Rattle.command_line.proofs.Common.{arith, common_steps, ints}
use Rattle.command_line.proofs.commands.survey_with.Goals as goal

pub returns-in_err-width-clause-lawful : goal.returns-in_err-width-clause-lawful
returns-in_err-width-clause-lawful g c = grind (ints, arith, common_steps)

pub overflow_cast-result-2 : goal.overflow_cast-result-2
overflow_cast-result-2 g c = grind (ints, arith, common_steps)

pub returns-in_err-width-clause-value : goal.returns-in_err-width-clause-value
returns-in_err-width-clause-value g c = grind (ints, arith, common_steps)

pub returns-in_err-top-clause-lawful : goal.returns-in_err-top-clause-lawful
returns-in_err-top-clause-lawful g c = grind (ints, arith, common_steps)

pub returns-in_err-base-clause-lawful : goal.returns-in_err-base-clause-lawful
returns-in_err-base-clause-lawful g c = grind (ints, arith, common_steps)

pub returns-in_err-workers-clause-lawful : goal.returns-in_err-workers-clause-lawful
returns-in_err-workers-clause-lawful g c = grind (ints, arith, common_steps)

pub returns-in_err-top-clause-value : goal.returns-in_err-top-clause-value
returns-in_err-top-clause-value g c = grind (ints, arith, common_steps)

pub overflow_cast-result : goal.overflow_cast-result
overflow_cast-result g c = grind (ints, arith, common_steps)

pub returns-in_err-span-clause-lawful : goal.returns-in_err-span-clause-lawful
returns-in_err-span-clause-lawful g c = grind (ints, arith, common_steps)

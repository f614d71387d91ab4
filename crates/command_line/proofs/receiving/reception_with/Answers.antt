use Rattle.command_line.proofs.Common.{arith, common_steps, ints}
use Rattle.command_line.proofs.receiving.reception_with.Goals as goal

pub returns-in_err-fingers-clause-lawful : goal.returns-in_err-fingers-clause-lawful
returns-in_err-fingers-clause-lawful g c = grind (ints, arith, common_steps)

pub returns-in_err-workers-clause-lawful : goal.returns-in_err-workers-clause-lawful
returns-in_err-workers-clause-lawful g c = grind (ints, arith, common_steps)

pub returns-in_err-span-clause-lawful : goal.returns-in_err-span-clause-lawful
returns-in_err-span-clause-lawful g c = grind (ints, arith, common_steps)

use Rattle.command_line.proofs.Common.{arith, common_steps, ints}
use Rattle.command_line.proofs.receiving.channel_with.Goals as goal

pub returns-clause-lawful : goal.returns-clause-lawful
returns-clause-lawful g c = grind (ints, arith, common_steps)

pub overflow_cast-result-3 : goal.overflow_cast-result-3
overflow_cast-result-3 g c = grind (ints, arith, common_steps)

pub returns-in_err-row-clause-lawful : goal.returns-in_err-row-clause-lawful
returns-in_err-row-clause-lawful g c = grind (ints, arith, common_steps)

pub returns-in_err-esn-clause-lawful : goal.returns-in_err-esn-clause-lawful
returns-in_err-esn-clause-lawful g c = grind (ints, arith, common_steps)

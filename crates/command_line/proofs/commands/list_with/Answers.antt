use Rattle.command_line.proofs.Common.{arith, common_steps, ints}
use Rattle.command_line.proofs.commands.list_with.Goals as goal

pub returns-in_err-esn-clause-lawful : goal.returns-in_err-esn-clause-lawful
returns-in_err-esn-clause-lawful g c = grind (ints, arith, common_steps)

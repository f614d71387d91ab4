use Rattle.command_line.proofs.Common.{arith, common_steps, ints}
use Rattle.command_line.proofs.commands.idle_with.Goals as goal

pub returns-in_err-reception-clause-lawful : goal.returns-in_err-reception-clause-lawful
returns-in_err-reception-clause-lawful g c = grind (ints, arith, common_steps)

pub returns-in_err-cycle-clause-lawful : goal.returns-in_err-cycle-clause-lawful
returns-in_err-cycle-clause-lawful g c = grind (ints, arith, common_steps)

pub returns-in_err-key-clause-lawful : goal.returns-in_err-key-clause-lawful
returns-in_err-key-clause-lawful g c = grind (ints, arith, common_steps)

pub returns-in_err-paging-clause-lawful : goal.returns-in_err-paging-clause-lawful
returns-in_err-paging-clause-lawful g c = grind (ints, arith, common_steps)

use Rattle.command_line.proofs.Common.{arith, common_steps, ints}
use Rattle.command_line.proofs.commands.follow_with.Goals as goal

pub returns-clause-lawful : goal.returns-clause-lawful
returns-clause-lawful g c = grind (ints, arith, common_steps)

pub overflow_cast-result : goal.overflow_cast-result
overflow_cast-result g c = grind (ints, arith, common_steps)

pub returns-in_err-traffic-clause-lawful : goal.returns-in_err-traffic-clause-lawful
returns-in_err-traffic-clause-lawful g c = grind (ints, arith, common_steps)

pub returns-in_err-paging-clause-lawful : goal.returns-in_err-paging-clause-lawful
returns-in_err-paging-clause-lawful g c = grind (ints, arith, common_steps)

pub returns-in_err-limits-clause-lawful : goal.returns-in_err-limits-clause-lawful
returns-in_err-limits-clause-lawful g c = grind (ints, arith, common_steps)

pub returns-in_err-reception-clause-lawful : goal.returns-in_err-reception-clause-lawful
returns-in_err-reception-clause-lawful g c = grind (ints, arith, common_steps)

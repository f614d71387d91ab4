use Rattle.command_line.proofs.Common.{arith, common_steps, ints}
use Rattle.command_line.proofs.commands.limits_with.Goals as goal

pub returns-in_err-raw : goal.returns-in_err-raw
returns-in_err-raw g c = grind (ints, arith, common_steps)

pub overflow_cast-result : goal.overflow_cast-result
overflow_cast-result g c = grind (ints, arith, common_steps)

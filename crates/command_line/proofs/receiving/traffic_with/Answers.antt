use Rattle.command_line.proofs.Common.{arith, common_steps, ints}
use Rattle.command_line.proofs.receiving.traffic_with.Goals as goal

pub returns-in_err-channel-clause-lawful : goal.returns-in_err-channel-clause-lawful
returns-in_err-channel-clause-lawful g c = grind (ints, arith, common_steps)

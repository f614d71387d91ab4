use Rattle.cell_script.proofs.Common.{arith, ints, common_steps}
use Rattle.cell_script.proofs.statements.channel_statement_in.Goals as goal

pub returns-in_err-frame_in-clause-row : goal.returns-in_err-frame_in-clause-row
returns-in_err-frame_in-clause-row c = grind (ints, arith, common_steps)

use Rattle.cell_script.proofs.Common.{arith, ints, common_steps}
use Rattle.cell_script.proofs.statements.first_rate.Goals as goal

pub loop-rate-preserved : goal.loop-rate-preserved
loop-rate-preserved c = grind (ints, arith, common_steps)

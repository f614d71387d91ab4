use Rattle.cell_script.proofs.Common.{arith, ints, common_steps}
use Rattle.cell_script.proofs.spelling.append_network.Goals as goal

pub returns-clause-value : goal.returns-clause-value
returns-clause-value c = grind (ints, arith, common_steps)

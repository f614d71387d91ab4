use Rattle.cell_script.proofs.Common.{arith, ints, common_steps}
use Rattle.cell_script.proofs.fields.Fields.at_end.Goals as goal

pub returns : goal.returns
returns c = grind (ints, arith, common_steps)

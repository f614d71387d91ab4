use Rattle.cell_script.proofs.Common.{script_of, arith, ints, common_steps}
use Rattle.cell_script.proofs.writing.script_text.Goals as goal

pub returns : goal.returns
unfolding script_of
returns c = grind (ints, arith, common_steps)

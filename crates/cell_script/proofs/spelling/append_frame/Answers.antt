use Rattle.cell_script.proofs.Common.{written_frame, arith, ints, common_steps}
use Rattle.cell_script.proofs.spelling.append_frame.Goals as goal

pub returns : goal.returns
unfolding written_frame
returns c = grind (ints, arith, common_steps)

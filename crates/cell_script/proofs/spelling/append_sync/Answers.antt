use Rattle.cell_script.proofs.Common.{written_sync, arith, ints, common_steps}
use Rattle.cell_script.proofs.spelling.append_sync.Goals as goal

pub returns : goal.returns
unfolding written_sync
returns c = grind (ints, arith, common_steps)

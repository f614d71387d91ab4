use Rattle.rake_finger.proofs.Common.{arith, common_steps, ints}
use Rattle.rake_finger.proofs.rows.row_signs.Goals as goal

pub loop-k-preserved : goal.loop-k-preserved
loop-k-preserved c = grind (ints, arith, common_steps)

use Rattle.cdma_io.proofs.Common.{arith, common_steps, ints}
use Rattle.cdma_io.proofs.sample_bytes.sample_bytes_into.Goals as goal

pub loop-k-preserved : goal.loop-k-preserved
loop-k-preserved c = grind (ints, arith, common_steps)

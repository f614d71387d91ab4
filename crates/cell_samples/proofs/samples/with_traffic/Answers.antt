use Rattle.cell_samples.proofs.Common.{arith, ints, common_steps}
use Rattle.cell_samples.proofs.samples.with_traffic.Goals as goal

pub loop-channel-preserved : goal.loop-channel-preserved
loop-channel-preserved c = grind (ints, arith, common_steps)

pub returns : goal.returns
returns c = grind (ints, arith, common_steps)

use Rattle.cell_samples.proofs.Common.{arith, ints, common_steps}
use Rattle.cell_samples.proofs.samples.traffic_channel.Goals as goal

pub new-cycle-requires-clause-frames : goal.new-cycle-requires-clause-frames
new-cycle-requires-clause-frames c = grind (ints, arith, common_steps)

use Rattle.cell_samples.proofs.Common.{arith, ints, common_steps}
use Rattle.cell_samples.proofs.channel.CellChannel.level.Goals as goal

pub symbol-requires-clause-frame : goal.symbol-requires-clause-frame
symbol-requires-clause-frame c = grind (ints, arith, common_steps)

pub symbol-requires-clause-place : goal.symbol-requires-clause-place
symbol-requires-clause-place c = grind (ints, arith, common_steps)

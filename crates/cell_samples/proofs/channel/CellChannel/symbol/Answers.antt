use Rattle.cell_samples.proofs.Common.{arith, ints, elements}
use Rattle.cell_samples.proofs.channel.CellChannel.symbol.Goals as goal

pub returns-clause-value : goal.returns-clause-value
returns-clause-value c = grind (ints, arith, elements)

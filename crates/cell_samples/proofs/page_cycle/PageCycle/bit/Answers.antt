use Rattle.cell_samples.proofs.Common.{arith, ints, elements}
use Rattle.cell_samples.proofs.page_cycle.PageCycle.bit.Goals as goal

pub returns : goal.returns
returns c = grind (ints, arith, elements)

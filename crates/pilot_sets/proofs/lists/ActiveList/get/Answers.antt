use Rattle.pilot_sets.proofs.Common.{arith, elements, ints}
use Rattle.pilot_sets.proofs.lists.ActiveList.get.Goals as goal

pub returns : goal.returns
returns c = grind (ints, arith, elements)

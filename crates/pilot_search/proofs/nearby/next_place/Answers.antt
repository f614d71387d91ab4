use Rattle.pilot_search.proofs.Common.{arith, ints, elements}
use Rattle.pilot_search.proofs.nearby.next_place.Goals as goal

pub loop-place-preserved : goal.loop-place-preserved
loop-place-preserved c = grind (ints, arith, elements)

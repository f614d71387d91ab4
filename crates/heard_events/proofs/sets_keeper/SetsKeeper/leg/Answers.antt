use Rattle.heard_events.proofs.Common.{arith, elements, ints}
use Rattle.heard_events.proofs.sets_keeper.SetsKeeper.leg.Goals as goal

pub returns : goal.returns
returns c = grind (ints, arith, elements)

use Rattle.pilot_sets.proofs.Common.{arith, common_steps, elements, ints}
use Rattle.pilot_sets.proofs.each_pilot.EachPilot.get.Goals as goal

pub bounds-all-from : goal.bounds-all-from
bounds-all-from c = grind (ints, arith, common_steps)

pub returns : goal.returns
returns c = grind (ints, arith, elements)

pub offset_bounds-all-from : goal.offset_bounds-all-from
offset_bounds-all-from c = grind (ints, arith, common_steps)

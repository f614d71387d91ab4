use Rattle.event_tap.proofs.Common.{arith, common_steps, ints}
use Rattle.event_tap.proofs.taps.limit_all.Goals as goal

pub loop-place-smaller-then-has_limit : goal.loop-place-smaller-then-has_limit
loop-place-smaller-then-has_limit g c = grind (ints, arith, common_steps)

pub loop-place-preserved-then-has_limit : goal.loop-place-preserved-then-has_limit
loop-place-preserved-then-has_limit g c = grind (ints, arith, common_steps)

pub returns-clause-kept : goal.returns-clause-kept
returns-clause-kept g c = grind (ints, arith, common_steps)

pub loop-place-preserved : goal.loop-place-preserved
loop-place-preserved g c = grind (ints, arith, common_steps)

pub returns-clause-value : goal.returns-clause-value
returns-clause-value g c = grind (ints, arith, common_steps)

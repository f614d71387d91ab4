use Rattle.rake_finger.proofs.Common.{length, arith, common_steps, elements, ints, take_all}
use Rattle.rake_finger.proofs.Adding.{IsSummed-more, softs_are, sum_within}
use Rattle.rake_finger.proofs.combining.combine_into.Goals as goal

pub loop-i-init : goal.loop-i-init
loop-i-init c = grind (ints, arith, common_steps)

pub add_finger-requires-clause-row : goal.add_finger-requires-clause-row
add_finger-requires-clause-row c = grind (ints, arith, elements)

pub add_finger-requires-clause-ring : goal.add_finger-requires-clause-ring
add_finger-requires-clause-ring c = grind (ints, arith, elements)

pub loop-i-preserved : goal.loop-i-preserved
loop-i-preserved c =
    IsSummed-more c.args.ring.now c.args.fingers.now c.args.form c.args.start c.loop-i.i
    c.get-finger.result c.loop-i.out c.add_finger.new.out
    c.loop-i.invariant c.get-finger.ensures c.add_finger.ensures

pub returns-clause-value : goal.returns-clause-value
returns-clause-value c = λ samples held.
    softs_are c.args.ring.now c.args.fingers.now c.args.form c.args.start c.loop-i.i c.loop-i.out
    samples c.loop-i.invariant (omega arith) held (take_all c.loop-i.i c.args.fingers.now (omega arith))

pub returns-clause-bound : goal.returns-clause-bound
returns-clause-bound c =
    sum_within c.args.form c.loop-i.i (length c.args.fingers.now) c.loop-i.out (omega arith)
    (omega arith) c.loop-i.invariant.within

pub add_finger-requires-clause-small : goal.add_finger-requires-clause-small
add_finger-requires-clause-small c = grind (ints, arith, common_steps)

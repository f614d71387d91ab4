use Rattle.viterbi.proofs.Common.{ints, common_steps, arith, w64, to_z-of_z}
use Rattle.viterbi.proofs.BlockSteps.{less_lanes, less_read}
use Rattle.viterbi.proofs.lanes.neighbours.Goals as goal

pub lessened-requires-clause-fit : goal.lessened-requires-clause-fit
lessened-requires-clause-fit c =
    let h = less_lanes c.args.column.now _ c.args.top c.args.at (omega (arith, c.requires.room))
    c.ranges.top c.requires.fit c.requires.less c.parted.ensures.even in
    rw (h.0, to_z-of_z w64 c.args.top c.ranges.top) h.1

pub lessened-requires-2-clause-fit : goal.lessened-requires-2-clause-fit
lessened-requires-2-clause-fit c =
    let h = less_lanes c.args.column.now _ c.args.top _ (omega (arith, c.requires.room))
    c.ranges.top c.requires.fit c.requires.less c.parted.ensures.odd in
    rw (h.0, to_z-of_z w64 c.args.top c.ranges.top) h.1

pub returns-clause-even : goal.returns-clause-even
returns-clause-even c =
    less_read c.args.column.now _ _ c.args.top c.args.at (omega (arith, c.requires.room))
    c.ranges.top c.requires.fit c.requires.less c.parted.ensures.even c.lessened.ensures

pub returns-clause-odd : goal.returns-clause-odd
returns-clause-odd c =
    less_read c.args.column.now _ _ c.args.top _ (omega (arith, c.requires.room))
    c.ranges.top c.requires.fit c.requires.less c.parted.ensures.odd c.lessened-2.ensures

pub lessened-requires-2-clause-long : goal.lessened-requires-2-clause-long
lessened-requires-2-clause-long c = grind (ints, arith, common_steps)

pub lessened-requires-clause-long : goal.lessened-requires-clause-long
lessened-requires-clause-long c = grind (ints, arith, common_steps)

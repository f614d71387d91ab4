use Rattle.heard_events.proofs.Common.{◌≡◌, ◌∙◌, [], ap, arith, length, length-take, take, all_fingers, have_rows}
use Rattle.heard_events.proofs.LegFingers.{all_rows, all_some}
use Rattle.heard_events.proofs.fingers.leg_fingers.Goals as goal

-- There is always a finger: one active pilot or more, heard over one path or more, give at least
-- one, so the definition's list of all fingers isn't empty.
pub unreachable-requires : goal.unreachable-requires
unreachable-requires c =
    let count = c.args.near.now.count in
    let deltas = c.args.near.now.deltas in
    let legs = c.args.legs.now in
    let some = all_some c.args.phase (take count deltas) legs c.requires.some
    (omega (arith, length-take count deltas, c.requires.least)) in
    let none : [] ≡ all_fingers c.args.phase (take count deltas) legs = c.in-None.ensures.value in
    omega (arith, some, ap length none)

pub returns-clause-rows : goal.returns-clause-rows
returns-clause-rows c =
    let paths = take c.args.near.now.count c.args.near.now.deltas in
    ap have_rows c.in-Some.ensures.value
    ∙ all_rows c.args.phase paths c.args.legs.now c.requires.rows

use Rattle.list_viterbi.proofs.Common.{◌≡◌, [], length, get_or, arith, w64, to_z-of_z, with_items_is, HasPicks, picks_into}
use Rattle.list_viterbi.proofs.column.Column.step.Goals as goal

-- Each state has the definition's picks: the column that is swapped in holds what the step gave.
pub returns-clause-each : goal.returns-clause-each
returns-clause-each c t b =
    let f = c.args.first in
    let s = c.args.second in
    let inside = c.self.inside in
    let long : length c.step.new.next ≡ inside.next_states.len =
    omega (arith, c.step.ensures.whole, c.self.invariant) in
    let each : HasPicks (get_or c.step.new.next t []) (get_or c.step.new.choices t 0)
    (picks_into inside.states.items f s inside.k t) =
    rw (to_z-of_z w64 f c.ranges.first, to_z-of_z w64 s c.ranges.second, c.deref.ensures.value)
    at (c.step.ensures.each t b) in
    rw (← c.self.view_is, c.swap.ensures.x_after, with_items_is inside.next_states c.step.new.next long) each

use Rattle.pilot_sets.proofs.Common.{elements, ints, sym, ◌∙◌, arith, is_unknown_row, found_here, found_later}
use Rattle.pilot_sets.proofs.directing.unknown_row.Goals as goal

pub returns-then-is_unknown : goal.returns-then-is_unknown
returns-then-is_unknown c =
    sym (found_here is_unknown_row c.args.rows.now c.loop-i.i c.get-row.result
    (omega (arith, c.loop-i-test.true, c.len-i-end.ensures.value)) c.get-row.ensures
    c.loop-i.invariant (sym c.is_unknown.ensures ∙ c.if-is_unknown.true))

pub loop-i-preserved : goal.loop-i-preserved
loop-i-preserved c =
    found_later is_unknown_row c.args.rows.now c.loop-i.i c.get-row.result
    (omega (arith, c.loop-i-test.true, c.len-i-end.ensures.value)) c.get-row.ensures
    c.loop-i.invariant (sym c.is_unknown.ensures ∙ c.if-is_unknown.false)

pub overflow_cast-result : goal.overflow_cast-result
overflow_cast-result c = grind (ints, arith, elements)

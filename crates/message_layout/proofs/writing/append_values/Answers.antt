use Rattle.message_layout.proofs.Common.{◌<◌, ◌++◌, length, get_or, map, take, ap, ◌∙◌, arith, length-append, length-map, binary, spelled}
use Rattle.message_layout.proofs.Common.{in_widths, fit_value, length-in_widths, width_within, write_room, written_more}
use Rattle.message_layout.proofs.writing.append_values.Goals as goal

pub append_number-requires-clause-width : goal.append_number-requires-clause-width
append_number-requires-clause-width c =
    let rows = c.args.rows.now in
    let ws = map (λ row. row.1) rows in
    rw c.width_in.ensures
    (width_within ws c.loop-i.i c.requires.widths (omega (arith, length-map rows (λ row. row.1), c.loop-i-test.true)))

-- The number that is added fits into its field's bits: it is the value at this place, and all
-- values fit.
pub append_number-requires-clause-fits : goal.append_number-requires-clause-fits
append_number-requires-clause-fits c =
    let rows = c.args.rows.now in
    let ws = map (λ row. row.1) rows in
    let lt : c.loop-i.i < length ws = omega (arith, length-map rows (λ row. row.1), c.loop-i-test.true) in
    rw (c.width_in.ensures, c.get.ensures)
    (fit_value ws c.args.values.now c.loop-i.i c.requires.values.fit lt (omega (arith, c.requires.values.all, lt)))

-- There is room for the next value: the values before it and this one are the first fields of a
-- list that has room as a whole.
pub append_number-requires-clause-room : goal.append_number-requires-clause-room
append_number-requires-clause-room c =
    let rows = c.args.rows.now in
    let ws = map (λ row. row.1) rows in
    let vs = c.args.values.now in
    let i = c.loop-i.i in
    let long = length-map rows (λ row. row.1) in
    let all = c.requires.values.all in
    let fs = in_widths (take i ws) (take i vs) in
    omega (
      arith,
      c.width_in.ensures,
      write_room ws vs i (omega (arith, all)) (omega (arith, long, c.loop-i-test.true)),
      ap length c.loop-i.invariant,
      length-append c.args.body.now (spelled fs),
      length-in_widths ws vs (omega (arith, all)),
      c.requires.room,
    )

-- One value more is added in its field's width, so the body ends with the spelling of all values up
-- to it.
pub loop-i-preserved : goal.loop-i-preserved
loop-i-preserved c =
    let rows = c.args.rows.now in
    let ws = map (λ row. row.1) rows in
    let vs = c.args.values.now in
    let i = c.loop-i.i in
    let v = get_or vs i 0 in
    let lt : c.loop-i.i < length ws = omega (arith, length-map rows (λ row. row.1), c.loop-i-test.true) in
    written_more ws vs i c.loop-i.body c.append_number.new.self c.args.body.now lt
    (omega (arith, c.requires.values.all, lt)) c.loop-i.invariant
    (c.append_number.ensures ∙ ap (λ n. c.loop-i.body ++ binary c.width_in.result n) c.get.ensures
    ∙ ap (λ w. c.loop-i.body ++ binary w v) c.width_in.ensures)

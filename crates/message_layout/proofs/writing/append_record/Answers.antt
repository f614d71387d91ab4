use Rattle.message_layout.proofs.Common.{common_steps, ints, ◌≡◌, ◌≤◌, ◌++◌, length, get_or, map, take, sym, ap, ◌∙◌, arith, length-append}
use Rattle.message_layout.proofs.Common.{length-map, binary, spelled, in_widths, fit_value, width_within, written_more, height, record_at}
use Rattle.message_layout.proofs.Columns.{number_in_record, number_room, sent_all, three_long}
use Rattle.message_layout.proofs.writing.append_record.Goals as goal

-- The next number of a record fits into its width: it is the one that the record has in that
-- column, and all fields of the record fit into theirs.
pub append_number-requires-clause-fits : goal.append_number-requires-clause-fits
append_number-requires-clause-fits c =
    let rows = c.args.fields.now in
    let ws = map (λ row. row.1) rows in
    let columns = c.args.columns.now in
    let vs = record_at c.args.i columns in
    let three = three_long ws (height columns) columns c.requires.columns in
    let wide = length-map columns (λ column. get_or column c.args.i 0) in
    let long = length-map rows (λ row. row.1) in
    let value : get_or vs c.loop-j.j 0 ≡ c.get.result =
    number_in_record columns c.args.i c.loop-j.j c.index-columns-j.result c.get.result
    (omega (arith, three, c.loop-j-test.true, c.requires.few)) c.get.ensures in
    rw (c.width_in.ensures, c.from.ensures, ← value)
    (fit_value ws vs c.loop-j.j c.requires.fit (omega (arith, long, c.loop-j-test.true))
    (omega (arith, wide, three, c.loop-j-test.true, c.requires.few)))

-- There is room for the next number of a record: the numbers before it and this one are the first
-- fields of a record that has room as a whole.
pub append_number-requires-clause-room : goal.append_number-requires-clause-room
append_number-requires-clause-room c =
    let rows = c.args.fields.now in
    let ws = map (λ row. row.1) rows in
    let columns = c.args.columns.now in
    let vs = record_at c.args.i columns in
    let j = c.loop-j.j in
    let three = three_long ws (height columns) columns c.requires.columns in
    let wide = length-map columns (λ column. get_or column c.args.i 0) in
    let long = length-map rows (λ row. row.1) in
    omega (
      arith,
      c.width_in.ensures,
      number_room ws vs j (omega (arith, wide, three, long, c.requires.few))
          (omega (arith, long, c.loop-j-test.true)),
      ap length c.loop-j.invariant,
      length-append c.args.body.now (spelled (in_widths (take j ws) (take j vs))),
      c.requires.room,
    )

-- One number more of a record is written: it is the one in column j, in the width of row j, so the
-- body ends with the first j + 1 fields of the record.
pub loop-j-preserved : goal.loop-j-preserved
loop-j-preserved c =
    let rows = c.args.fields.now in
    let ws = map (λ row. row.1) rows in
    let columns = c.args.columns.now in
    let vs = record_at c.args.i columns in
    let j = c.loop-j.j in
    let three = three_long ws (height columns) columns c.requires.columns in
    let wide = length-map columns (λ column. get_or column c.args.i 0) in
    let long = length-map rows (λ row. row.1) in
    let value : get_or vs j 0 ≡ c.get.result =
    number_in_record columns c.args.i j c.index-columns-j.result c.get.result
    (omega (arith, three, c.loop-j-test.true, c.requires.few)) c.get.ensures in
    let sent : c.from.result ≡ get_or vs j 0 = c.from.ensures ∙ sym value in
    written_more ws vs j c.loop-j.body c.append_number.new.self c.args.body.now
    (omega (arith, long, c.loop-j-test.true))
    (omega (arith, wide, three, c.loop-j-test.true, c.requires.few)) c.loop-j.invariant
    (c.append_number.ensures ∙ ap (λ n. c.loop-j.body ++ binary c.width_in.result n) sent
    ∙ ap (λ w. c.loop-j.body ++ binary w (get_or vs j 0)) c.width_in.ensures)

-- After all fields of the table the whole record is added: it has one number for each field and no
-- more.
pub returns : goal.returns
returns c =
    let rows = c.args.fields.now in
    let ws = map (λ row. row.1) rows in
    let vs = record_at c.args.i c.args.columns.now in
    let all : length ws ≤ c.loop-j.j = omega (arith, length-map rows (λ row. row.1), c.loop-j-test.false) in
    c.loop-j.invariant ∙ ap (λ fs. c.args.body.now ++ spelled fs) (sent_all ws vs c.loop-j.j all)

pub get-requires : goal.get-requires
get-requires c = grind (ints, arith, common_steps)

pub append_number-requires-clause-width : goal.append_number-requires-clause-width
append_number-requires-clause-width c =
    let rows = c.args.fields.now in
    rw c.width_in.ensures
    (width_within (map (λ row. row.1) rows) c.loop-j.j c.requires.widths
    (omega (arith, length-map rows (λ row. row.1), c.loop-j-test.true)))

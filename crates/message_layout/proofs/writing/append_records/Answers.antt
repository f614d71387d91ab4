use Rattle.message_layout.proofs.Common.{length, map, ap, arith, length-append, length-map, spelled, height, record_fields}
use Rattle.message_layout.proofs.Columns.{height_at, record_fit, record_room, record_written, three_long}
use Rattle.message_layout.proofs.writing.append_records.Goals as goal

-- The numbers of this record fit their fields: it is one of the records that the columns hold, as
-- the first column has one number for each, and all of these fit.
pub append_record-requires-clause-fit : goal.append_record-requires-clause-fit
append_record-requires-clause-fit c =
    let ws = map (λ row. row.1) c.args.fields.now in
    let columns = c.args.columns.now in
    let three = three_long ws (height columns) columns c.requires.columns in
    let tall = height_at columns c.index-columns-0.result (omega (arith, three)) in
    record_fit ws (height columns) c.loop-i.i columns
    (omega (arith, c.loop-i-test.true, c.len-i-end.ensures.value, tall)) c.requires.fit

-- There is room for this record: the body has grown by the records before it, and there was room
-- for all of them.
pub append_record-requires-clause-room : goal.append_record-requires-clause-room
append_record-requires-clause-room c =
    let rows = c.args.fields.now in
    let ws = map (λ row. row.1) rows in
    let columns = c.args.columns.now in
    let three = three_long ws (height columns) columns c.requires.columns in
    let tall = height_at columns c.index-columns-0.result (omega (arith, three)) in
    omega (
      arith,
      record_room ws (height columns) c.loop-i.i columns
          (omega (arith, three, length-map rows (λ row. row.1), c.requires.few))
          (omega (arith, c.loop-i-test.true, c.len-i-end.ensures.value, tall)),
      ap length c.loop-i.invariant,
      length-append c.args.body.now (spelled (record_fields ws c.loop-i.i columns)),
      c.requires.room,
    )

pub loop-i-preserved : goal.loop-i-preserved
loop-i-preserved c =
    record_written (map (λ row. row.1) c.args.fields.now) c.loop-i.i c.args.columns.now
    c.args.body.now c.loop-i.body c.append_record.new.body c.loop-i.invariant
    c.append_record.ensures

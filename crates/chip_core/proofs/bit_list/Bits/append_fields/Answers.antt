use Rattle.chip_core.proofs.Common.{take, append_assoc, length-append, arith, field}
use Rattle.chip_core.proofs.FieldLists.{spelled_more, spelled_room, fit_at, width_at}
use Rattle.chip_core.proofs.bit_list.Bits.append_fields.Goals as goal

pub append_number-requires-clause-width : goal.append_number-requires-clause-width
append_number-requires-clause-width c =
    width_at c.args.fields.now c.loop-field.field-index (field 0 0) c.requires.widths
    c.loop-field-test.true

pub append_number-requires-clause-fits : goal.append_number-requires-clause-fits
append_number-requires-clause-fits c =
    fit_at c.args.fields.now c.loop-field.field-index (field 0 0) c.requires.fit
    c.loop-field-test.true

pub append_number-requires-clause-room : goal.append_number-requires-clause-room
append_number-requires-clause-room c =
    let next =
    spelled_room c.args.fields.now c.loop-field.field-index (field 0 0) c.loop-field-test.true
    in
    let before = take c.loop-field.field-index c.args.fields.now in
    rw (c.loop-field.invariant, length-append) (omega (arith, next, c.requires.room))

pub loop-field-preserved : goal.loop-field-preserved
loop-field-preserved c =
    let more =
    spelled_more c.args.fields.now c.loop-field.field-index (field 0 0) c.loop-field-test.true
    in
    rw (c.append_number.ensures, c.loop-field.invariant, append_assoc, more)

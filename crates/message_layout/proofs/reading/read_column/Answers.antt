use Rattle.message_layout.proofs.Common.{common_steps, ints, ◌<◌, length, arith}
use Rattle.message_layout.proofs.Loops.{column_read, widths_taken}
use Rattle.message_layout.proofs.reading.read_column.Goals as goal

pub size_of-requires-clause-widths : goal.size_of-requires-clause-widths
size_of-requires-clause-widths c = widths_taken (λ row. row.1) c.args.fields.now c.args.j c.requires.widths

pub returns : goal.returns
returns c =
    let rows = c.args.fields.now in
    let within : c.args.j < length rows = omega arith in
    column_read (λ row. row.1) rows c.args.j c.args.from c.size_of-2.result c.size_of.result
    c.width_in.result c.args.count c.args.bits.now c.read_places.result within
    c.size_of-2.ensures.value c.size_of.ensures.value c.width_in.ensures c.read_places.ensures

pub read_places-requires-clause-within : goal.read_places-requires-clause-within
read_places-requires-clause-within c = grind (ints, arith, common_steps)

pub returns-then-j-fields : goal.returns-then-j-fields
returns-then-j-fields c = grind (ints, arith, common_steps)

pub read_places-requires-clause-width : goal.read_places-requires-clause-width
read_places-requires-clause-width c = grind (ints, arith, common_steps)

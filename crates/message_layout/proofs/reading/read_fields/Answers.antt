use Rattle.message_layout.proofs.Common.{◌≡◌, ◌<◌, ◌≤◌, drop, length, map, arith, None, length-map, width_within}
use Rattle.message_layout.proofs.Loops.{fields_end, fields_few, fields_more, fields_stop, number_short, number_taken}
use Rattle.message_layout.proofs.reading.read_fields.Goals as goal

pub read_number-requires-clause-width : goal.read_number-requires-clause-width
read_number-requires-clause-width c =
    let rows = c.args.rows.now in
    let ws = map (λ row. row.1) rows in
    rw c.width_in.ensures
    (width_within ws c.loop-i.i c.requires.widths (omega (arith, length-map rows (λ row. row.1), c.loop-i-test.true))).1

-- Where a field's number can't be read the table's fields can't either: the bits that are left
-- after the fields before it are fewer than its width.
pub returns-in_err-value-clause-values : goal.returns-in_err-value-clause-values
returns-in_err-value-clause-values c =
    let rows = c.args.rows.now in
    let ws = map (λ row. row.1) rows in
    let lt : c.loop-i.i < length ws = omega (arith, length-map rows (λ row. row.1), c.loop-i-test.true) in
    let left = drop c.loop-i.place c.args.bits.now in
    let none : c.from_residual.result ≡ None = cc in
    rw none
    (fields_stop ws c.loop-i.i (drop c.args.from c.args.bits.now) left c.loop-i.values
    c.width_in.result lt c.loop-i.invariant.fields c.width_in.ensures
    (number_short c.width_in.result left c.in_err-value.ensures.value))

pub append-requires : goal.append-requires
append-requires c =
    let rows = c.args.rows.now in
    let ws = map (λ row. row.1) rows in
    let long = length-map rows (λ row. row.1) in
    omega (
      arith,
      fields_few ws c.loop-i.i (drop c.args.from c.args.bits.now) (drop c.loop-i.place c.args.bits.now) c.loop-i.values
          (omega (arith, long, c.loop-i-test.true)) c.loop-i.invariant.fields,
      c.loop-i-test.true,
      c.requires.room,
    )

-- One field more is read: its number stands at the front of the bits that were left, and what is
-- left now is what comes after it.
pub loop-i-preserved : goal.loop-i-preserved
loop-i-preserved c =
    let rows = c.args.rows.now in
    let ws = map (λ row. row.1) rows in
    let bits = c.args.bits.now in
    let lt : c.loop-i.i < length ws = omega (arith, length-map rows (λ row. row.1), c.loop-i-test.true) in
    let left = drop c.loop-i.place bits in
    let next = drop c.in_ok-value.next bits in
    let taken = number_taken c.width_in.result c.in_ok-value.value left next
    c.in_ok-value.ensures.value in
    record {
      fields = fields_more ws c.loop-i.i (drop c.args.from bits) left next c.loop-i.values
          c.append.new.self c.width_in.result c.in_ok-value.value lt c.loop-i.invariant.fields
          c.width_in.ensures taken.0 taken.1 taken.2 c.append.ensures;
      within = c.in_ok-value.ensures.within;
    }

pub returns-clause-values : goal.returns-clause-values
returns-clause-values c =
    let rows = c.args.rows.now in
    let ws = map (λ row. row.1) rows in
    let all : length ws ≤ c.loop-i.i = omega (arith, length-map rows (λ row. row.1), c.loop-i-test.false) in
    fields_end ws c.loop-i.i (drop c.args.from c.args.bits.now)
    (drop c.loop-i.place c.args.bits.now) c.loop-i.values all c.loop-i.invariant.fields

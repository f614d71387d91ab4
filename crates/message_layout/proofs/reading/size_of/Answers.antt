use Rattle.message_layout.proofs.Common.{◌<◌, ◌+◌, length, map, ap, arith, length-map}
use Rattle.message_layout.proofs.Loops.{summed_more}
use Rattle.message_layout.proofs.reading.size_of.Goals as goal

pub loop-i-preserved : goal.loop-i-preserved
loop-i-preserved c =
    let rows = c.args.fields.now in
    let ws = map (λ row. row.1) rows in
    let lt : c.loop-i.i < length ws = omega (arith, length-map rows (λ row. row.1), c.loop-i-test.true) in
    summed_more ws c.loop-i.i c.loop-i.size c.width_in.result
    (c.loop-i.size + c.from-size.result) c.requires.widths lt c.loop-i.invariant c.width_in.ensures
    (ap (λ k. c.loop-i.size + k) c.from-size.ensures)

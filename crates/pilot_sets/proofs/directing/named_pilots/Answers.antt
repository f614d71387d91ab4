use Rattle.pilot_sets.proofs.Common.{elements, ints, ◌<◌, length, arith}
use Rattle.pilot_sets.proofs.NamedPilots.{named_more, length_more}
use Rattle.pilot_sets.proofs.directing.named_pilots.Goals as goal

pub loop-i-preserved : goal.loop-i-preserved
loop-i-preserved c =
    let below : c.loop-i.i < length c.args.pns.now = omega (arith, c.loop-i-test.true, c.len-i-end.ensures.value) in
    rw c.push.ensures (
      named_more c.args.pns.now c.args.combs.now c.args.rows.now c.loop-i.named c.loop-i.i
          c.get.result c.get-in-loop-i-2.result c.get-in-loop-i.result below
          (omega (arith, below, c.requires.combs_long)) (omega (arith, below, c.requires.rows_long))
          c.get.ensures c.get-in-loop-i-2.ensures c.get-in-loop-i.ensures c.loop-i.invariant.0,
      length_more c.loop-i.named _ c.loop-i.i c.loop-i.invariant.1,
    )

pub overflow_cast-get : goal.overflow_cast-get
overflow_cast-get c = grind (ints, arith, elements)

pub overflow_cast-get-in-loop-i : goal.overflow_cast-get-in-loop-i
overflow_cast-get-in-loop-i c = grind (ints, arith, elements)

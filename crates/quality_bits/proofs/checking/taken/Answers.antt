use Rattle.quality_bits.proofs.Common.{take, taken_more}
use Rattle.quality_bits.proofs.checking.taken.Goals as goal

pub loop-i-preserved : goal.loop-i-preserved
loop-i-preserved c =
    let read = taken_more c.args.bits.now c.loop-i.i c.get.result c.get.ensures in
    rw read (c.push.ensures c.args.kind (take c.loop-i.i c.args.bits.now) c.loop-i.invariant)

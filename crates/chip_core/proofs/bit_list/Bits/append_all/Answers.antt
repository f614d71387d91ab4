use Rattle.chip_core.proofs.Common.{append_assoc}
use Rattle.chip_core.proofs.BitLists.{taken_more}
use Rattle.chip_core.proofs.bit_list.Bits.append_all.Goals as goal

pub loop-i-preserved : goal.loop-i-preserved
loop-i-preserved c =
    let more = taken_more c.args.more.now c.loop-i.i c.get.result c.get.ensures in
    rw (c.append.ensures, c.loop-i.invariant, append_assoc, more)

use Rattle.quality_bits.proofs.Common.{◌≡◌, ◌+◌, ◌*◌, arith}
use Rattle.quality_bits.proofs.checking.octets_taken.Goals as goal

pub loop-k-preserved : goal.loop-k-preserved
loop-k-preserved c =
    let next : 8 * (c.loop-k.k + 1) ≡ 8 * c.loop-k.k + 8 = omega arith in
    rw next (c.take_octet.ensures c.args.kind c.loop-k.invariant)

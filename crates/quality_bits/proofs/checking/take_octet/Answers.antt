use Rattle.quality_bits.proofs.Common.{◌≡◌, ◌+◌, take, arith, taken_more}
use Rattle.quality_bits.proofs.checking.take_octet.Goals as goal

-- One bit more keeps the invariant, since `push` makes a register that took some bits one that took
-- the next bit as well, and the bits before the next place are those before this one and its bit.
pub loop-j-preserved : goal.loop-j-preserved
loop-j-preserved c kind stands =
    let xs = c.args.bits.now in
    let place = c.args.from + c.loop-j.j in
    let read = taken_more xs place c.get.result c.get.ensures in
    let next : c.args.from + (c.loop-j.j + 1) ≡ place + 1 = omega arith in
    rw (next, read) (c.push.ensures kind (take place xs) (c.loop-j.invariant kind stands))

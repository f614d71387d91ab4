use Rattle.chip_core.proofs.Common.{append_assoc, arith, common_steps}
use Rattle.chip_core.proofs.Numerals.{binary_more}
use Rattle.chip_core.proofs.bit_list.Bits.append_number.Goals as goal

pub loop-k-preserved : goal.loop-k-preserved
loop-k-preserved c =
    let pushed = c.append.ensures in
    let step = binary_more c.args.width c.loop-k.k c.args.value c.loop-k-test.true in
    record {
      bits = rw (pushed, c.loop-k.invariant.bits, append_assoc, step);
      count = rw pushed (grind (arith, common_steps));
    }

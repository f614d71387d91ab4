use Rattle.message_layout.proofs.Common.{◌≡◌, ◌+◌, Some, slice_get, bool_byte-digit, digit_below, read_more}
use Rattle.message_layout.proofs.reading.number_from.Goals as goal

pub loop-k-preserved : goal.loop-k-preserved
loop-k-preserved c =
    let xs = c.args.bits.now in
    let read : slice_get xs (c.args.from + c.loop-k.k) ≡ Some c.get-bit.result =
    rw c.from.ensures at c.get-bit.ensures in
    record {
      value = read_more xs c.args.from c.loop-k.k c.loop-k.number _ _ c.loop-k.invariant.value read
          c.from-in-loop-k.ensures;
      small = rw (c.from-in-loop-k.ensures, bool_byte-digit)
          (digit_below c.loop-k.number c.loop-k.k c.get-bit.result c.loop-k.invariant.small);
    }

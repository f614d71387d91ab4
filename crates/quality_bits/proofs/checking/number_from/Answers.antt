use Rattle.quality_bits.proofs.Common.{◌≡◌, ◌+◌, ◌-◌, ◌*◌, ◌<◌, ◌^◌, Some, sym, ap, ◌∙◌, arith, slice_get, digit}
use Rattle.chip_core.proofs.Numerals.{read_more, digit_below, bool_byte-digit}
use Rattle.quality_bits.proofs.checking.number_from.Goals as goal

-- One bit more is read: twice the number of the k bits so far, and the bit, is the number of k + 1
-- bits, and it is below 2^(k + 1).
pub loop-i-preserved : goal.loop-i-preserved
loop-i-preserved c =
    let from = c.args.from in
    let k = c.loop-i.i - from in
    let bit = c.get.result in
    let at : c.loop-i.i ≡ from + k = omega arith in
    let more : c.loop-i.i + 1 - from ≡ k + 1 = omega arith in
    let read : slice_get c.args.bits.now (from + k) ≡ Some bit =
    ap (slice_get c.args.bits.now) (sym at) ∙ c.get.ensures in
    let small : 2 * c.loop-i.number + digit bit < 2 ^ (k + 1) =
    digit_below c.loop-i.number k bit c.loop-i.invariant.small in
    record {
      read = rw more
          (read_more c.args.bits.now from k c.loop-i.number c.from.result bit
          c.loop-i.invariant.read read c.from.ensures);
      small = rw (more, c.from.ensures, bool_byte-digit bit) small;
    }

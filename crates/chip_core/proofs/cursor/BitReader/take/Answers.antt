use Rattle.chip_core.proofs.Common.{◌≡◌, ◌≤◌, ◌+◌, ◌++◌, ap, sym, ◌∙◌, Some, rules, arith, take, drop, length, length-drop, drop-drop}
use Rattle.chip_core.proofs.Common.{number, binary, slice_get}
use Rattle.chip_core.proofs.Numerals.{read_spelled, read_more, digit_below, bool_byte-digit}
use Rattle.chip_core.proofs.cursor.BitReader.take.Goals as goal

pub loop-k-preserved : goal.loop-k-preserved
loop-k-preserved c =
    let xs = c.self.inside.bits.now in
    let read : slice_get xs (c.self.inside.place + c.loop-k.k) ≡ Some c.get-bit.result =
    rw c.from-in-loop-k.ensures at c.get-bit.ensures in
    record {
      value = read_more xs c.self.inside.place c.loop-k.k c.loop-k.value _ _
          c.loop-k.invariant.value read c.from-in-loop-k-2.ensures;
      small = rw (c.from-in-loop-k-2.ensures, bool_byte-digit)
          (digit_below c.loop-k.value c.loop-k.k c.get-bit.result c.loop-k.invariant.small);
    }

-- What is left to read is the number that was taken, spelled in `width` bits, and then what is left
-- now: the number is that of the next bits, and the reader stands right after them.
pub returns-clause-spelled : goal.returns-clause-spelled
returns-clause-spelled c =
    let at = c.self.inside.place in
    let bits = c.self.inside.bits.now in
    let width = c.args.width in
    let ended : c.loop-k.k ≡ width = omega arith in
    let value : c.loop-k.value ≡ number (take width (drop at bits)) = rw ended at c.loop-k.invariant.value in
    let room : width ≤ length (drop at bits) = search (rules, length-drop at bits) in
    let rest : drop width (drop at bits) ≡ drop (at + c.from-2.result) bits =
    drop-drop width at bits ∙ ap (λ n. drop (at + n) bits) (sym c.from-2.ensures) in
    sym c.self.view_is ∙ read_spelled (drop at bits) width c.loop-k.value room value ∙
    ap (λ r. binary width c.loop-k.value ++ r) rest

use Rattle.line_text.proofs.Common.{sym, ◌∙◌, arith, length-set}
use Rattle.line_text.proofs.StatedTexts.{digit_missing, digit_read, digits_read, not_sixteen, sixteen}
use Rattle.line_text.proofs.values.power_bits_in.Goals as goal

pub returns-then-text-ne16 : goal.returns-then-text-ne16
returns-then-text-ne16 c = sym (not_sixteen c.args.text.now c.if-text-ne16.true)

pub returns-in_err-power_bits : goal.returns-in_err-power_bits
returns-in_err-power_bits c =
    c.from_residual.ensures
    ∙ sym (sixteen c.args.text.now c.if-text-ne16.false
    ∙ digit_missing c.args.text.now c.loop-k.power_bits c.loop-k.k c.loop-k-test.true
    (sym c.binary_digit.ensures ∙ c.in_err-power_bits.was) c.loop-k.invariant.bits)

pub loop-k-preserved : goal.loop-k-preserved
loop-k-preserved c = record {
  bits = digit_read c.args.text.now c.loop-k.power_bits c.loop-k.k _ c.loop-k-test.true
      (omega (arith, c.loop-k-test.true, c.loop-k.invariant.long, c.if-text-ne16.false))
      (sym c.binary_digit.ensures ∙ c.in_ok-power_bits.was) c.loop-k.invariant.bits;
  long = length-set c.loop-k.power_bits c.loop-k.k c.in_ok-power_bits.field-0
      ∙ c.loop-k.invariant.long;
}

pub returns : goal.returns
returns c =
    sym (sixteen c.args.text.now c.if-text-ne16.false
    ∙ digits_read c.args.text.now c.loop-k.power_bits c.loop-k.k (omega (arith, c.loop-k-test.false))
    (omega (arith, c.loop-k-test.false, c.loop-k.invariant.long, c.if-text-ne16.false))
    c.loop-k.invariant.bits)

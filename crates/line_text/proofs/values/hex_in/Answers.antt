use Rattle.line_text.proofs.Common.{sym, ◌∙◌, arith}
use Rattle.line_text.proofs.StatedTexts.{hex_missing, hex_digit_more, hex_read, hex_read_all, few_hex_digits}
use Rattle.line_text.proofs.values.hex_in.Goals as goal

pub returns-in_err-hex_digit-clause-value : goal.returns-in_err-hex_digit-clause-value
returns-in_err-hex_digit-clause-value c =
    c.from_residual.ensures
    ∙ hex_missing c.args.text.now c.loop-digit.number c.loop-digit.digit-index
    c.loop-digit-test.true (sym c.hex_digit.ensures.value ∙ c.in_err-hex_digit.was) c.loop-digit.invariant.left

pub with_hex_digit-number-requires-clause-number : goal.with_hex_digit-number-requires-clause-number
with_hex_digit-number-requires-clause-number c =
    few_hex_digits c.loop-digit.number c.loop-digit.digit-index c.loop-digit.invariant.below
    (omega (arith, c.loop-digit-test.true, c.requires))

pub loop-digit-preserved : goal.loop-digit-preserved
loop-digit-preserved c = record {
  left =
      hex_read c.args.text.now c.loop-digit.number c.loop-digit.digit-index _
      c.with_hex_digit-number.result c.loop-digit-test.true
      (sym c.hex_digit.ensures.value
      ∙ c.in_ok-hex_digit.was) c.loop-digit.invariant.left c.with_hex_digit-number.ensures.value;
  below = hex_digit_more c.loop-digit.number c.with_hex_digit-number.result c.loop-digit.digit-index
      c.loop-digit.invariant.below c.with_hex_digit-number.ensures.most;
  passed = omega (arith, c.loop-digit-test.true);
}

pub returns-clause-value : goal.returns-clause-value
returns-clause-value c =
    hex_read_all c.args.text.now c.loop-digit.number c.loop-digit.digit-index
    (omega (arith, c.loop-digit-test.false)) c.loop-digit.invariant.left

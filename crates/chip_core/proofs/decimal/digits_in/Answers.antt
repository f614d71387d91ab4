use Rattle.chip_core.proofs.Common.{refl, sym, ◌∙◌, arith}
use Rattle.chip_core.proofs.DecimalTexts.{digit_missing, digit_more, digit_read, digits_read, few_digits}
use Rattle.chip_core.proofs.decimal.digits_in.Goals as goal

pub loop-digit-init : goal.loop-digit-init
loop-digit-init c = record { left = refl; below = omega arith }

pub returns-then-not-is_ascii_digit : goal.returns-then-not-is_ascii_digit
returns-then-not-is_ascii_digit c =
    digit_missing c.args.text.now 0 c.loop-digit.number c.loop-digit.digit-index c.loop-digit-test.true
    (sym c.is_ascii_digit.ensures.value ∙ c.if-not-is_ascii_digit.true) c.loop-digit.invariant.left

pub with_digit-number-requires-clause-number : goal.with_digit-number-requires-clause-number
with_digit-number-requires-clause-number c =
    few_digits c.loop-digit.number c.loop-digit.digit-index c.loop-digit.invariant.below
    (omega (arith, c.loop-digit-test.true, c.requires))

pub loop-digit-preserved : goal.loop-digit-preserved
loop-digit-preserved c = record {
  left =
      digit_read c.args.text.now 0 c.loop-digit.number c.loop-digit.digit-index
      c.with_digit-number.result c.loop-digit-test.true
      (sym c.is_ascii_digit.ensures.value ∙ c.if-not-is_ascii_digit.false) c.loop-digit.invariant.left
      c.with_digit-number.ensures.value;
  below =
      digit_more c.loop-digit.number c.with_digit-number.result c.loop-digit.digit-index
      c.loop-digit.invariant.below c.with_digit-number.ensures.most;
}

pub returns : goal.returns
returns c =
    digits_read c.args.text.now 0 c.loop-digit.number c.loop-digit.digit-index
    (omega (arith, c.loop-digit-test.false)) c.loop-digit.invariant.left

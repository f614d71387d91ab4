use Rattle.line_text.proofs.Common.{arith}
use Rattle.line_text.proofs.BinaryDigits.{digit_more, no_digits}
use Rattle.line_text.proofs.text.Text.append_digits.Goals as goal

pub loop-i-init : goal.loop-i-init
loop-i-init c = record { value = no_digits c.args.self.now c.args.power_bits.now; long = omega arith }

pub append_digit-requires : goal.append_digit-requires
append_digit-requires c = omega (arith, c.loop-i.invariant.long, c.loop-i-test.true, c.requires.room)

pub loop-i-preserved : goal.loop-i-preserved
loop-i-preserved c = record {
  value =
      digit_more c.args.self.now c.loop-i.self c.append_digit.new.self c.args.power_bits.now c.loop-i.i
      (omega (arith, c.loop-i-test.true)) c.loop-i.invariant.value c.append_digit.ensures.value;
  long = omega (arith, c.append_digit.ensures.len, c.loop-i.invariant.long);
}

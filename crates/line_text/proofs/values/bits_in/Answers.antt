use Rattle.line_text.proofs.Common.{arith, ints, common_steps}
use Rattle.line_text.specs.StatedValues.{bits_in_text}
use Rattle.line_text.proofs.values.bits_in.Goals as goal

pub returns : goal.returns
unfolding bits_in_text
returns c = grind (ints, arith, common_steps)

pub returns-in_err-digits : goal.returns-in_err-digits
unfolding bits_in_text
returns-in_err-digits c = grind (ints, arith, common_steps)

pub returns-in_err-hex_bits : goal.returns-in_err-hex_bits
unfolding bits_in_text
returns-in_err-hex_bits c = grind (ints, arith, common_steps)

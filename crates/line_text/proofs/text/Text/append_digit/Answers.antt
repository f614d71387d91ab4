use Rattle.line_text.proofs.Common.{arith, common_steps, ints}
use Rattle.line_text.proofs.text.Text.append_digit.Goals as goal

pub append_str-requires-clause-ascii : goal.append_str-requires-clause-ascii
append_str-requires-clause-ascii c = grind (ints, arith, common_steps)

use Rattle.line_text.proofs.Common.{arith, common_steps, ints}
use Rattle.line_text.proofs.text.Text.append_name.Goals as goal

pub returns-clause-len : goal.returns-clause-len
returns-clause-len c = grind (ints, arith, common_steps)

pub returns-clause-value : goal.returns-clause-value
returns-clause-value c = grind (ints, arith, common_steps)

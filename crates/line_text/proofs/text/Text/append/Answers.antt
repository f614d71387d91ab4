use Rattle.line_text.proofs.Common.{arith, common_steps, ints}
use Rattle.line_text.proofs.text.Text.append.Goals as goal

pub invariant_of-self : goal.invariant_of-self
invariant_of-self c = grind (ints, arith, common_steps)

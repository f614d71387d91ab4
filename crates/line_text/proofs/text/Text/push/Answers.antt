use Rattle.line_text.proofs.Common.{arith, common_steps, ints}
use Rattle.line_text.proofs.text.Text.push.Goals as goal

pub append-requires-clause-ascii : goal.append-requires-clause-ascii
append-requires-clause-ascii c = grind (ints, arith, common_steps)

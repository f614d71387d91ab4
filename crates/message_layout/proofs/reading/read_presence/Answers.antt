use Rattle.message_layout.proofs.Common.{common_steps, ints, arith, presence_at}
use Rattle.message_layout.proofs.reading.read_presence.Goals as goal

pub returns-in-UnlessLeft-clause-presence : goal.returns-in-UnlessLeft-clause-presence
unfolding presence_at
returns-in-UnlessLeft-clause-presence c = grind (ints, arith, common_steps)

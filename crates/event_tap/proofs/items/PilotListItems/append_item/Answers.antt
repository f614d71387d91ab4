use Rattle.event_tap.proofs.Common.{arith}
use Rattle.event_tap.proofs.items.PilotListItems.append_item.Goals as goal

pub returns-clause-len : goal.returns-clause-len
returns-clause-len c = omega (arith, c.append_short.ensures.len 5 (omega arith) (omega (arith, c.from.ensures)))

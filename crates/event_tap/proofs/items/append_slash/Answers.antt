use Rattle.event_tap.proofs.Common.{arith, elements, ints}
use Rattle.event_tap.proofs.items.append_slash.Goals as goal

pub returns-then-i-len-clause-value : goal.returns-then-i-len-clause-value
returns-then-i-len-clause-value c = grind (ints, arith, elements)

use Rattle.long_code.proofs.After.{after-after}
use Rattle.long_code.proofs.laws.later_twice.Goals as goal

pub returns : goal.returns
returns c = after-after

use Rattle.rate_set_two.proofs.NothingHeard.{nothing_good}
use Rattle.rate_set_two.proofs.laws.nothing_heard_is_not_good.Goals as goal

pub returns : goal.returns
returns c = nothing_good

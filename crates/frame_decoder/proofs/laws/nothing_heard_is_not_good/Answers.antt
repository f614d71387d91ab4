use Rattle.frame_decoder.proofs.NothingHeard.{nothing_good}
use Rattle.frame_decoder.proofs.laws.nothing_heard_is_not_good.Goals as goal

pub returns : goal.returns
returns c = nothing_good

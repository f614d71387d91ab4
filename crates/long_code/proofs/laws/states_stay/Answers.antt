use Rattle.long_code.proofs.Period.{IsState-after}
use Rattle.long_code.proofs.laws.states_stay.Goals as goal

pub returns : goal.returns
returns c = IsState-after

use Rattle.long_code.proofs.Period.{after-period}
use Rattle.long_code.proofs.laws.states_return.Goals as goal

pub returns : goal.returns
returns c = λ state h. after-period state h.1

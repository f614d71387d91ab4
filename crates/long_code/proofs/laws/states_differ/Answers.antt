use Rattle.long_code.proofs.Period.{after-injective}
use Rattle.long_code.proofs.laws.states_differ.Goals as goal

pub returns : goal.returns
returns c = λ s t chips p q. after-injective s t chips p.1 q.1

use Rattle.long_code.proofs.Before.{after-before}
use Rattle.long_code.proofs.Period.{IsState-before}
use Rattle.long_code.proofs.laws.division_goes_back.Goals as goal

pub returns : goal.returns
returns c = record { state = IsState-before; back = λ state chips h. after-before state chips h.1 }

use Rattle.rate_set_two.proofs.Agreement.{keeps_agreement}
use Rattle.rate_set_two.proofs.laws.gathering_keeps_agreement.Goals as goal

pub returns : goal.returns
returns c = keeps_agreement

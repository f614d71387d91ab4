use Rattle.symbol_path.proofs.Agreement.{agreement-gathered}
use Rattle.symbol_path.proofs.laws.gathering_keeps_agreement.Goals as goal

pub returns : goal.returns
returns c = agreement-gathered

use Rattle.clean_link.proofs.sendings.Heard.{sendings_back}
use Rattle.clean_link.proofs.laws.whole_sendings_come_back.Goals as goal

pub returns : goal.returns
returns c = sendings_back

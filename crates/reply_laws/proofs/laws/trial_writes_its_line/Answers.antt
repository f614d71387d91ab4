use Rattle.reply_laws.proofs.Required.{trial_writes}
use Rattle.reply_laws.proofs.laws.trial_writes_its_line.Goals as goal

pub returns : goal.returns
returns c = trial_writes

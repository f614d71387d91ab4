use Rattle.reply_laws.proofs.Required.{find_writes}
use Rattle.reply_laws.proofs.laws.find_writes_the_pilots_line.Goals as goal

pub returns : goal.returns
returns c = find_writes

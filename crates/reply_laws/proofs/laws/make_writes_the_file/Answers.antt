use Rattle.reply_laws.proofs.Required.{make_writes}
use Rattle.reply_laws.proofs.laws.make_writes_the_file.Goals as goal

pub returns : goal.returns
returns c = make_writes

use Rattle.reply_laws.proofs.Required.{list_writes}
use Rattle.reply_laws.proofs.laws.list_writes_the_frames.Goals as goal

pub returns : goal.returns
returns c = list_writes

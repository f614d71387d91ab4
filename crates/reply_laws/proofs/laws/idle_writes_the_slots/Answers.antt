use Rattle.reply_laws.proofs.Required.{idle_writes}
use Rattle.reply_laws.proofs.laws.idle_writes_the_slots.Goals as goal

pub returns : goal.returns
returns c = idle_writes

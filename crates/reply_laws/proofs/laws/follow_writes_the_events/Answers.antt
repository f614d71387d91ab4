use Rattle.reply_laws.proofs.Required.{follow_writes}
use Rattle.reply_laws.proofs.laws.follow_writes_the_events.Goals as goal

pub returns : goal.returns
returns c = follow_writes

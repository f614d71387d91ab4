use Rattle.reply_laws.proofs.Required.{workers_change_nothing}
use Rattle.reply_laws.proofs.laws.workers_change_no_reply.Goals as goal

pub returns : goal.returns
returns c = workers_change_nothing

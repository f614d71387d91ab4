use Rattle.reply_laws.proofs.Required.{each_required}
use Rattle.reply_laws.proofs.laws.each_input_has_a_reply.Goals as goal

pub returns : goal.returns
returns c = each_required

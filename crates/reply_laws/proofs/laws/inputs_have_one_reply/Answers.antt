use Rattle.reply_laws.proofs.Common.{one_reply}
use Rattle.reply_laws.proofs.laws.inputs_have_one_reply.Goals as goal

pub returns : goal.returns
returns c = one_reply

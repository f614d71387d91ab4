use Rattle.reply_laws.proofs.NoisyReplies.{list_replies, rate2_replies, idle_replies}
use Rattle.reply_laws.proofs.laws.replies_come_back.Goals as goal

pub returns : goal.returns
returns c = record { rate2 = rate2_replies; list = list_replies; idle = idle_replies }

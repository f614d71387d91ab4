use Rattle.reply_laws.proofs.SleepLaw.{sleep_changes_no_reply}
use Rattle.reply_laws.proofs.laws.what_is_slept_through_changes_no_reply.Goals as goal

pub returns : goal.returns
returns c = sleep_changes_no_reply

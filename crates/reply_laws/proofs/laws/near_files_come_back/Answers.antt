use Rattle.reply_laws.proofs.NoisyReplies.{comes_back}
use Rattle.reply_laws.proofs.laws.near_files_come_back.Goals as goal

pub returns : goal.returns
returns c = comes_back

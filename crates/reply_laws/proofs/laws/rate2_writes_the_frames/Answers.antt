use Rattle.reply_laws.proofs.Required.{rate2_writes}
use Rattle.reply_laws.proofs.laws.rate2_writes_the_frames.Goals as goal

pub returns : goal.returns
returns c = rate2_writes

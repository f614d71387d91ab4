use Rattle.rate_set_two.proofs.SentFrames.{sent_frame}
use Rattle.rate_set_two.proofs.laws.sent_frame_is_decoded.Goals as goal

pub returns : goal.returns
returns c = sent_frame

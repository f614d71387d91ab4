use Rattle.frame_decoder.proofs.SentFrames.{sent_frame}
use Rattle.frame_decoder.proofs.laws.sent_frame_is_decoded.Goals as goal

pub returns : goal.returns
returns c = sent_frame

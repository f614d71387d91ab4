use Rattle.listed_frame.proofs.SentFrames.{sent_frame_listed}
use Rattle.listed_frame.proofs.laws.sent_frame_is_listed.Goals as goal

pub returns : goal.returns
returns c = sent_frame_listed

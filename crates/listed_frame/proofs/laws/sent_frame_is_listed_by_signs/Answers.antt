use Rattle.listed_frame.proofs.SentFrames.{signs_frame_listed}
use Rattle.listed_frame.proofs.laws.sent_frame_is_listed_by_signs.Goals as goal

pub returns : goal.returns
returns c = signs_frame_listed

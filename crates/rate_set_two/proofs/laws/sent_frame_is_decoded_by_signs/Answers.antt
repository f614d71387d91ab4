use Rattle.rate_set_two.proofs.SentFrames.{signs_frame}
use Rattle.rate_set_two.proofs.laws.sent_frame_is_decoded_by_signs.Goals as goal

pub returns : goal.returns
returns c = signs_frame

use Rattle.frame_decoder.proofs.OneFrame.{one_frame}
use Rattle.frame_decoder.proofs.laws.one_frame.Goals as goal

pub returns : goal.returns
returns c = one_frame

use Rattle.heard_events.proofs.ChannelFrames.{frame_same}
use Rattle.heard_events.proofs.laws.a_frame_hangs_on_its_samples.Goals as goal

pub returns : goal.returns
returns c = frame_same

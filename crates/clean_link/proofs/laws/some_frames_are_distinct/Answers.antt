use Rattle.clean_link.proofs.traffic.HiddenCodewords.{full_rate_distinct, full_rate_frame_distinct, zeros_shared}
use Rattle.clean_link.proofs.laws.some_frames_are_distinct.Goals as goal

pub returns : goal.returns
returns c = record { full_rate = full_rate_distinct; worked = full_rate_frame_distinct; zeros = zeros_shared }

use Rattle.heard_events.proofs.Common.{frames_within}
use Rattle.heard_events.proofs.ChannelFrames.{frames_sooner}
use Rattle.heard_events.proofs.GoesOn.{of_first}
use Rattle.heard_events.proofs.laws.later_samples_change_no_frame.Goals as goal

pub returns : goal.returns
returns c t channel m = of_first (frames_within t channel m) (frames_sooner t channel m)

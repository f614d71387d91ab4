use Rattle.clean_link.proofs.frames.ChannelFrames.{clean_signs, near_channels, near_syncs}
use Rattle.clean_link.proofs.laws.noise_keeps_the_sent_signs.Goals as goal

pub returns : goal.returns
returns c = record { channel = near_channels; sync = near_syncs; clean = clean_signs }

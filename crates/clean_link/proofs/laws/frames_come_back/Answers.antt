use Rattle.clean_link.proofs.frames.ChannelFrames.{channel_frames, frames_back, frames_zero, paging_frames_back, silent_paging_back}
use Rattle.clean_link.proofs.laws.frames_come_back.Goals as goal

pub returns : goal.returns
returns c = record {
  channel = channel_frames;
  sent = frames_back;
  none = frames_zero;
  paging = paging_frames_back;
  silent_paging = silent_paging_back;
}

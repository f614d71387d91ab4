use Rattle.clean_link.proofs.frames.ChannelFrames.{paging_signs, sent_signs, silent_paging_zero, zero_without_sync}
use Rattle.clean_link.proofs.laws.soft_values_have_the_sent_signs.Goals as goal

pub returns : goal.returns
returns c = record {
  sent = sent_signs;
  none = zero_without_sync;
  paging = paging_signs;
  silent_paging = silent_paging_zero;
}

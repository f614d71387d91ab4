use Rattle.clean_link.proofs.frames.ChannelFrames.{codewords_alone, paging_codewords_alone}
use Rattle.clean_link.proofs.laws.sent_codewords_are_the_only_best.Goals as goal

pub returns : goal.returns
returns c = record { sent = codewords_alone; paging = paging_codewords_alone }

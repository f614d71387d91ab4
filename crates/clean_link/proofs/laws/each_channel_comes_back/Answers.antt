use Rattle.clean_link.proofs.messages.EachChannel.{each_channel}
use Rattle.clean_link.proofs.laws.each_channel_comes_back.Goals as goal

pub returns : goal.returns
returns c = each_channel

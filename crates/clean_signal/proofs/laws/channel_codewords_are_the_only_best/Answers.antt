use Rattle.clean_signal.proofs.frames.ChannelSigns.{channel_codewords}
use Rattle.clean_signal.proofs.laws.channel_codewords_are_the_only_best.Goals as goal

pub returns : goal.returns
returns c = record { channel = channel_codewords }

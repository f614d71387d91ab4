use Rattle.clean_signal.proofs.frames.ChannelSigns.{channel_signs, early_frames, silent_rows, stream_symbols, strength_some}
use Rattle.clean_signal.proofs.laws.channels_have_the_sent_signs.Goals as goal

pub returns : goal.returns
returns c = record {
  channel = channel_signs;
  silent = silent_rows;
  early = early_frames;
  descrambled = stream_symbols;
  positive = strength_some;
}

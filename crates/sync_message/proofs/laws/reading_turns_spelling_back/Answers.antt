use Rattle.quality_bits.proofs.Decoded.{turned_back}
use Rattle.sync_message.proofs.Readings.{are_read}
use Rattle.sync_message.proofs.laws.reading_turns_spelling_back.Goals as goal

pub returns : goal.returns
returns c form capsule m = turned_back (are_read form) capsule m

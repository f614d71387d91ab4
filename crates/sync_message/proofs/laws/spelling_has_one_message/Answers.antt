use Rattle.quality_bits.proofs.Decoded.{one_message}
use Rattle.sync_message.proofs.Readings.{are_read}
use Rattle.sync_message.proofs.laws.spelling_has_one_message.Goals as goal

pub returns : goal.returns
returns c form m n p q same = one_message (are_read form) m n p q same

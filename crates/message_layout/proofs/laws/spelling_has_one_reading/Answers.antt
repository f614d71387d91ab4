use Rattle.message_layout.proofs.Round.{one_reading}
use Rattle.message_layout.proofs.laws.spelling_has_one_reading.Goals as goal

pub returns : goal.returns
returns c s first second h p q same = one_reading s first second h p q same

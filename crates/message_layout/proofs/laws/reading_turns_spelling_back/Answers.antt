use Rattle.message_layout.proofs.Common.{ap, ◌∙◌, reading}
use Rattle.message_layout.proofs.Round.{reading_again, reading_there}
use Rattle.message_layout.proofs.laws.reading_turns_spelling_back.Goals as goal

pub returns : goal.returns
returns c s bits contents h = (
  λ read. reading_there s bits contents h read,
  λ is. ap (reading s) is.1 ∙ reading_again s contents h is.0,
)

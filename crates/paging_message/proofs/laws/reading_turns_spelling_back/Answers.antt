use Rattle.paging_message.proofs.Common.{ap, ◌∙◌, body_reading, turned_back}
use Rattle.paging_message.proofs.Readings.{are_read, body_is_read, reads_body}
use Rattle.paging_message.proofs.laws.reading_turns_spelling_back.Goals as goal

pub returns-clause-capsule : goal.returns-clause-capsule
returns-clause-capsule c form capsule m = turned_back (are_read form) capsule m

pub returns-clause-body : goal.returns-clause-body
returns-clause-body c body m = (
  λ read. body_is_read body m read,
  λ is. ap body_reading is.1 ∙ reads_body m is.0,
)

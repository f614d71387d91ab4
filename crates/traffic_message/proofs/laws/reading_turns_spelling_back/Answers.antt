use Rattle.traffic_message.proofs.Common.{ap, ◌∙◌, traffic_body_reading, turned_back}
use Rattle.traffic_message.proofs.Bodies.{message_again, message_there}
use Rattle.traffic_message.proofs.Readings.{are_read}
use Rattle.traffic_message.proofs.laws.reading_turns_spelling_back.Goals as goal

pub returns-clause-capsule : goal.returns-clause-capsule
returns-clause-capsule c form capsule m = turned_back (are_read form) capsule m

pub returns-clause-body : goal.returns-clause-body
returns-clause-body c body m = (
  λ read. message_there body m read,
  λ is. ap traffic_body_reading is.1 ∙ message_again m is.0,
)

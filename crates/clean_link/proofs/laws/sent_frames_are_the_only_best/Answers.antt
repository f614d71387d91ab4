use Rattle.clean_link.proofs.traffic.Received.{heard_only_best, received_only_best, set_two_only_best}
use Rattle.clean_link.proofs.laws.sent_frames_are_the_only_best.Goals as goal

pub returns : goal.returns
returns c = record { heard = heard_only_best; received = received_only_best; set_two = set_two_only_best }

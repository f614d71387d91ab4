use Rattle.slot_mode.proofs.SlotFrames.{heard_as_ever}
use Rattle.slot_mode.proofs.laws.spans_lie_in_the_slot.Goals as goal

pub returns-clause-middle : goal.returns-clause-middle
returns-clause-middle c = heard_as_ever

use Rattle.slot_link.proofs.File.{slot_texts_back, slots_back}
use Rattle.slot_link.proofs.laws.slots_come_back.Goals as goal

pub returns : goal.returns
returns c = record { slots = slots_back; text = slot_texts_back }

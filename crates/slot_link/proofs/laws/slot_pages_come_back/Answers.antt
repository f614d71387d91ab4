use Rattle.slot_link.proofs.File.{slot_pages_back}
use Rattle.slot_link.proofs.laws.slot_pages_come_back.Goals as goal

pub returns : goal.returns
returns c = slot_pages_back

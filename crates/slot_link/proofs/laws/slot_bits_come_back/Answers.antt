use Rattle.slot_link.proofs.File.{signed_slot_bits_back, signed_spans_back}
use Rattle.slot_link.proofs.laws.slot_bits_come_back.Goals as goal

pub returns : goal.returns
returns c = record { signs = signed_spans_back; slot_signs = signed_slot_bits_back }

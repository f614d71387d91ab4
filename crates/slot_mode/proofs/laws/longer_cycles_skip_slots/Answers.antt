use Rattle.slot_mode.proofs.Cycles.{among_shorter}
use Rattle.slot_mode.proofs.laws.longer_cycles_skip_slots.Goals as goal

pub returns : goal.returns
returns c = among_shorter

use Rattle.chip_core.proofs.WordBits.{length_is}
use Rattle.chip_core.proofs.bit_list.Bits.len.Goals as goal

pub returns-clause-value : goal.returns-clause-value
returns-clause-value c = length_is _ _ _ c.self.view_is

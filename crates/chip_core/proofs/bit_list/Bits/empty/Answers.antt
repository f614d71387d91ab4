use Rattle.chip_core.proofs.WordBits.{unpacked-none}
use Rattle.chip_core.proofs.bit_list.Bits.empty.Goals as goal

pub returns : goal.returns
returns c = unpacked-none _

use Rattle.chip_core.proofs.Common.{rules}
use Rattle.chip_core.proofs.WordBits.{same_words}
use Rattle.chip_core.proofs.bit_list.BitsPartialEq.eq.Goals as goal

pub returns : goal.returns
returns c = search (rules, same_words)

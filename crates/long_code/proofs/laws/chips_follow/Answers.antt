use Rattle.long_code.proofs.Chips.{long_chip-after}
use Rattle.long_code.proofs.laws.chips_follow.Goals as goal

pub returns : goal.returns
returns c = long_chip-after

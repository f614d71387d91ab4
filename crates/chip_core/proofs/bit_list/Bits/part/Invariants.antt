use Rattle.chip_core.proofs.Common.{◌≡◌, take, drop}
use Rattle.chip_core.proofs.bit_list.Bits.part.Given as goal

abbrev pub invariant-loop-i : goal.invariant-loop-i
invariant-loop-i l = l.part ≡ take l.i (drop l.from l.self)

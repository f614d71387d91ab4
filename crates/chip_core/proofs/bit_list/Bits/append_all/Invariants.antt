use Rattle.chip_core.proofs.Common.{◌≡◌, ◌++◌, take}
use Rattle.chip_core.proofs.bit_list.Bits.append_all.Given as goal

abbrev pub invariant-loop-i : goal.invariant-loop-i
invariant-loop-i l = l.self ≡ l.fn.self ++ take l.i l.more

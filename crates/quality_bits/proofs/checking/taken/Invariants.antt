use Rattle.quality_bits.proofs.Common.{take, Checks}
use Rattle.quality_bits.proofs.checking.taken.Given as goal

abbrev pub invariant-loop-i : goal.invariant-loop-i
invariant-loop-i l = Checks l.register l.fn.kind (take l.i l.bits)

use Rattle.quality_bits.proofs.Common.{◌+◌, take, Checks, Kind}
use Rattle.quality_bits.proofs.checking.take_octet.Given as goal

abbrev pub invariant-loop-j : goal.invariant-loop-j
invariant-loop-j l =
    (kind : Kind) → Checks l.fn.register kind (take l.from l.bits) →
    Checks l.register kind (take (l.from + l.j) l.bits)

use Rattle.quality_bits.proofs.Common.{◌*◌, take, Checks}
use Rattle.quality_bits.proofs.checking.octets_taken.Given as goal

abbrev pub invariant-loop-k : goal.invariant-loop-k
invariant-loop-k l = Checks l.register l.fn.kind (take (8 * l.k) l.bits)

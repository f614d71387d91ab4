use Rattle.quality_bits.proofs.Common.{arith, []}
use Rattle.quality_bits.proofs.Opened.{awaits_few}
use Rattle.quality_bits.proofs.open_capsule.OpenCapsule.new.Goals as goal

pub invariant_of-result : goal.invariant_of-result
invariant_of-result c = rw c.empty.ensures (awaits_few [] (omega arith))

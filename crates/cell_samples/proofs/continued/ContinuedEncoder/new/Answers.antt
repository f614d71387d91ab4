use Rattle.cell_samples.proofs.Common.{frame_bits_of, before-first}
use Rattle.cell_samples.proofs.continued.ContinuedEncoder.new.Goals as goal

pub invariant_of-result : goal.invariant_of-result
invariant_of-result c = before-first (frame_bits_of c.args.source)

use Rattle.quality_bits.proofs.Common.{sym, ◌∙◌}
use Rattle.quality_bits.proofs.Streams.{under_way-none}
use Rattle.quality_bits.proofs.framer.CapsuleFramer.new.Goals as goal

pub returns : goal.returns
returns c = c.closed.ensures ∙ sym under_way-none

use Rattle.paging_message.proofs.Common.{arith}
use Rattle.paging_message.proofs.Layings.{none_laid}
use Rattle.paging_message.proofs.layout.Layout.new.Goals as goal

pub returns-clause-laid : goal.returns-clause-laid
returns-clause-laid c = none_laid c.body_bits.result (omega (arith, c.body_bits.ensures.least))

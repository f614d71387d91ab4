use Rattle.cdma_io.proofs.Common.{rules, arith}
use Rattle.cdma_io.proofs.ByteNumbers.{AreBytes}
use Rattle.cdma_io.proofs.Spelling.{spelled_wide}
use Rattle.cdma_io.proofs.samples.parse_wide.Goals as goal

pub returns-clause-spelled : goal.returns-clause-spelled
returns-clause-spelled c =
    let bytes = c.args.bytes.now in
    let small : AreBytes bytes = λ k. let fits = c.type_inv.bytes k in omega arith in
    spelled_wide bytes _ _ c.requires small (search rules) (search rules)

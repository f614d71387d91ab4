use Rattle.cdma_io.proofs.Common.{get_or, rules, arith}
use Rattle.cdma_io.proofs.ByteNumbers.{AreBytes}
use Rattle.cdma_io.proofs.Spelling.{spelled_narrow, widened}
use Rattle.cdma_io.proofs.samples.parse_narrow.Goals as goal

-- Two bytes spell the sample that is made of them: each part is its own byte read as a signed
-- number, and keeping that in 16 bits changes no value.
pub returns-clause-spelled : goal.returns-clause-spelled
returns-clause-spelled c =
    let bytes = c.args.bytes.now in
    let small : AreBytes bytes = λ k. let fits = c.type_inv.bytes k in omega arith in
    spelled_narrow bytes _ _ c.requires small
    (widened (get_or bytes 0 0) _ _ (small 0) c.cast_signed.ensures c.from.ensures (search rules))
    (widened (get_or bytes 1 0) _ _ (small 1) c.cast_signed-2.ensures c.from-2.ensures (search rules))

use Rattle.cdma_io.proofs.Common.{◌<◌, ap, ◌∙◌, arith, rules, w8, w16, cast_unsigned, to_z-of_z}
use mir.Val.{SFits}
use Rattle.cdma_io.proofs.Spelling.{spelled_by_bytes}
use Rattle.cdma_io.proofs.sample_bytes.narrow_bytes.Goals as goal

-- The result spells the sample, since each of its bytes is the one that `part_byte` promises, and a
-- part that fits into 16 bits reaches it unchanged.
pub returns : goal.returns
returns c =
    let i_fits : SFits w16 c.args.sample.i = search rules in
    let q_fits : SFits w16 c.args.sample.q = search rules in
    let first : c.part_byte.result < 256 = omega (arith, c.part_byte.type_inv) in
    let second : c.part_byte-2.result < 256 = omega (arith, c.part_byte-2.type_inv) in
    spelled_by_bytes c.args.sample _ _ first second
    (c.part_byte.ensures ∙ ap (cast_unsigned w8) (to_z-of_z w16 c.args.sample.i i_fits))
    (c.part_byte-2.ensures ∙ ap (cast_unsigned w8) (to_z-of_z w16 c.args.sample.q q_fits))

use Rattle.cdma_io.proofs.Common.{refl, rules, w16, to_z-of_z, sample_spelling}
use mir.Val.{SFits}
use Rattle.cdma_io.proofs.sample_bytes.wide_bytes.Goals as goal

pub returns : goal.returns
unfolding sample_spelling
returns c =
    let i_fits : SFits w16 c.args.sample.i = search rules in
    let q_fits : SFits w16 c.args.sample.q = search rules in
    rw (
      c.write_i16-2.ensures,
      c.write_i16.ensures,
      to_z-of_z w16 c.args.sample.i i_fits,
      to_z-of_z w16 c.args.sample.q q_fits,
    ) refl

use Rattle.cell_script.proofs.Common.{arith, ints, common_steps, ap, codes, decimal, refl, rules, signed_decimal, w64, written_link, ℤ, ◌∙◌}
use Rattle.cell_script.proofs.Common.{◌++◌, to_z-of_z}
use mir.Val.{SFits}
use Rattle.cell_script.proofs.ScriptKeys.{ascii_key}
use Rattle.cell_script.proofs.SpelledFields.{four_fields_added}
use Rattle.cell_script.proofs.spelling.append_link.Goals as goal

pub append_signed_field-requires-clause-ascii : goal.append_signed_field-requires-clause-ascii
append_signed_field-requires-clause-ascii c = ascii_key (codes "link re=") refl

pub append_signed_field-requires-2-clause-ascii : goal.append_signed_field-requires-2-clause-ascii
append_signed_field-requires-2-clause-ascii c = ascii_key (codes " im=") refl

pub append_field-requires-clause-ascii : goal.append_field-requires-clause-ascii
append_field-requires-clause-ascii c = ascii_key (codes " start=") refl

pub append_field-requires-2-clause-ascii : goal.append_field-requires-2-clause-ascii
append_field-requires-2-clause-ascii c = ascii_key (codes " samples=") refl

-- The link's line: the two parts of its factor with their signs, then its first sample and their count.
pub returns : goal.returns
unfolding written_link
returns c =
    let link = c.args.link.now in
    let in_phase : SFits w64 link.factor.i = search rules in
    let quadrature : SFits w64 link.factor.q = search rules in
    four_fields_added _ _ _ _ _ (codes "link re=") (signed_decimal link.factor.i) (codes " im=")
    (signed_decimal link.factor.q) (codes " start=") (decimal link.start) (codes " samples=") (decimal link.samples)
    c.requires
    (c.append_signed_field.ensures.value
    ∙ ap (λ (z : ℤ). c.args.text.now ++ (codes "link re=" ++ signed_decimal z)) (to_z-of_z w64 _ in_phase))
    (c.append_signed_field-2.ensures.value
    ∙ ap (λ (z : ℤ). c.append_signed_field.new.text ++ (codes " im=" ++ signed_decimal z)) (to_z-of_z w64 _ quadrature))
    c.append_field.ensures.value c.append_field-2.ensures.value

pub append_field-requires-2-clause-room : goal.append_field-requires-2-clause-room
append_field-requires-2-clause-room c = grind (ints, arith, common_steps)

pub append_signed_field-requires-clause-room : goal.append_signed_field-requires-clause-room
append_signed_field-requires-clause-room c = grind (ints, arith, common_steps)

pub append_field-requires-clause-room : goal.append_field-requires-clause-room
append_field-requires-clause-room c = grind (ints, arith, common_steps)

pub append_signed_field-requires-2-clause-room : goal.append_signed_field-requires-2-clause-room
append_signed_field-requires-2-clause-room c = grind (ints, arith, common_steps)

use Rattle.sync_message.proofs.Common.{subst, ◌∙◌, arith, in_widths, FieldsFit, sync_widths}
use Rattle.sync_message.proofs.Bodies.{admitted, tail_of}
use Rattle.sync_message.proofs.message.has_spelling.Goals as goal

pub returns-then-fit : goal.returns-then-fit
returns-then-fit c =
    let m = c.args.fields.now in
    let fit = subst (λ vs. FieldsFit (in_widths sync_widths vs)) (c.of.ensures ∙ c.values_of.ensures)
    (c.fit.ensures.0 c.if-fit.true) in (
      λ told. admitted m (omega arith, fit) (c.has_tail.ensures.0 told),
      λ is. c.has_tail.ensures.1 (tail_of m is),
    )

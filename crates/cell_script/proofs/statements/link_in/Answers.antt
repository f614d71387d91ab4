use Rattle.cell_script.proofs.Common.{arith, ints, common_steps, refl, sym, ap, ◌∙◌, link_in, link_statement}
use Rattle.cell_script.proofs.ScriptTables.{left_over, link_held, link_read, link_told, unlawful, whole_line}
use Rattle.cell_script.proofs.statements.link_in.Goals as goal

-- The four fields of a link's line were read one after another, each from what the one before it left.
pub returns-then-not-is_link-clause-value : goal.returns-then-not-is_link-clause-value
returns-then-not-is_link-clause-value c =
    sym (link_read c.new-fields.result _ _ _ _ _ _ _ _
    (sym c.in_ok-re.ensures.value) c.in_ok-re.ensures.rest (sym c.in_ok-im.ensures.value) c.in_ok-im.ensures.rest
    (sym c.in_ok-start.ensures.value) c.in_ok-start.ensures.rest (sym c.in_ok-samples.ensures.value) c.in_ok-samples.ensures.rest
    ∙ unlawful link_statement (c.in_ok-re.re, (c.in_ok-im.im, (c.in_ok-start.start, (c.in_ok-samples.samples, tt)))) _
    (link_told c.in_ok-re.re c.in_ok-im.im c.in_ok-samples.samples _ c.in_ok-re.ensures.range c.in_ok-im.ensures.range
    c.if-not-is_link.ensures))
    ∙ ap link_in c.new-fields.ensures

pub returns-then-not-at_end-clause-value : goal.returns-then-not-at_end-clause-value
returns-then-not-at_end-clause-value c =
    sym (link_read c.new-fields.result _ _ _ _ _ _ _ _
    (sym c.in_ok-re.ensures.value) c.in_ok-re.ensures.rest (sym c.in_ok-im.ensures.value) c.in_ok-im.ensures.rest
    (sym c.in_ok-start.ensures.value) c.in_ok-start.ensures.rest (sym c.in_ok-samples.ensures.value) c.in_ok-samples.ensures.rest
    ∙ left_over link_statement (c.in_ok-re.re, (c.in_ok-im.im, (c.in_ok-start.start, (c.in_ok-samples.samples, tt)))) _
    c.if-not-at_end.ensures.1)
    ∙ ap link_in c.new-fields.ensures

pub returns-clause-value : goal.returns-clause-value
returns-clause-value c =
    link_held c.in_ok-re.re c.in_ok-im.im c.in_ok-start.start c.in_ok-samples.samples c.in_ok-re.ensures.range c.in_ok-im.ensures.range
    ∙ sym (link_read c.new-fields.result _ _ _ _ _ _ _ _
    (sym c.in_ok-re.ensures.value) c.in_ok-re.ensures.rest (sym c.in_ok-im.ensures.value) c.in_ok-im.ensures.rest
    (sym c.in_ok-start.ensures.value) c.in_ok-start.ensures.rest (sym c.in_ok-samples.ensures.value) c.in_ok-samples.ensures.rest
    ∙ whole_line link_statement (c.in_ok-re.re, (c.in_ok-im.im, (c.in_ok-start.start, (c.in_ok-samples.samples, tt)))) _
    (link_told c.in_ok-re.re c.in_ok-im.im c.in_ok-samples.samples _ c.in_ok-re.ensures.range c.in_ok-im.ensures.range
    c.if-not-is_link.ensures) (c.if-not-at_end.ensures.0 refl))
    ∙ ap link_in c.new-fields.ensures

pub returns-in_err-im-clause-lawful : goal.returns-in_err-im-clause-lawful
returns-in_err-im-clause-lawful c = grind (ints, arith, common_steps)

pub returns-in_err-samples-clause-lawful : goal.returns-in_err-samples-clause-lawful
returns-in_err-samples-clause-lawful c = grind (ints, arith, common_steps)

pub returns-clause-lawful : goal.returns-clause-lawful
returns-clause-lawful c = grind (ints, arith, common_steps)

pub is_link-requires-clause-in_phase : goal.is_link-requires-clause-in_phase
is_link-requires-clause-in_phase c = grind (ints, arith, common_steps)

pub returns-in_err-start-clause-lawful : goal.returns-in_err-start-clause-lawful
returns-in_err-start-clause-lawful c = grind (ints, arith, common_steps)

use Rattle.cell_script.proofs.Common.{Some, sym, ap, ◌∙◌}
use Rattle.cell_script.proofs.ScriptMessages.{is_message, no_message}
use Rattle.cell_script.proofs.statements.message_with.Goals as goal

pub returns-in_err-new-clause-value : goal.returns-in_err-new-clause-value
returns-in_err-new-clause-value c =
    c.from_residual.ensures
    ∙ sym (no_message c.args.fields c.requires.fixed c.requires.freq c.in_err-new.ensures)

pub returns-clause-value : goal.returns-clause-value
returns-clause-value c =
    sym (is_message c.args.fields c.in_ok-new.ensures.0
    ∙ ap Some (sym (c.fields.ensures.value ∙ c.in_ok-new.ensures.1)))

use Rattle.cell_script.proofs.Common.{ap, option_map, sym, ◌∙◌}
use Rattle.cell_script.proofs.UnsignedLines.{cell_by_table, cell_made, cell_of}
use Rattle.cell_script.proofs.statements.cell_in.Goals as goal

pub returns-clause-value : goal.returns-clause-value
returns-clause-value c =
    cell_made c.in_ok-pn.field-0 _ _ c.check_form.ensures c.check_form-2.ensures
    ∙ sym (cell_by_table c.args.text.now
    ∙ ap (option_map cell_of) (sym c.unsigned_line.ensures.value ∙ c.in_ok-pn.was))

use Rattle.cell_script.proofs.Common.{arith, ints, common_steps, ap, option_map, sym, ◌∙◌}
use Rattle.cell_script.proofs.UnsignedLines.{traffic_by_table, traffic_of}
use Rattle.cell_script.proofs.statements.traffic_in.Goals as goal

pub returns-clause-value : goal.returns-clause-value
returns-clause-value c =
    sym (traffic_by_table c.args.text.now
    ∙ ap (option_map traffic_of) (sym c.unsigned_line.ensures.value ∙ c.in_ok-row.was))

pub returns-clause-row : goal.returns-clause-row
returns-clause-row c = grind (ints, arith, common_steps)

pub overflow_cast-result : goal.overflow_cast-result
overflow_cast-result c = grind (ints, arith, common_steps)

pub overflow_cast-result-4 : goal.overflow_cast-result-4
overflow_cast-result-4 c = grind (ints, arith, common_steps)

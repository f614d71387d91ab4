use Rattle.cell_script.proofs.Common.{rules, bits_left, fill}
use Rattle.cell_script.proofs.stage.bits_left.Goals as goal

pub returns-clause-left : goal.returns-clause-left
unfolding bits_left
returns-clause-left c = search rules

pub returns-clause-fill : goal.returns-clause-fill
unfolding fill
returns-clause-fill c = search rules

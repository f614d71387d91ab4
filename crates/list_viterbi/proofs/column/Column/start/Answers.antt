use Rattle.list_viterbi.proofs.Common.{arith, ints, common_steps}
use Rattle.list_viterbi.proofs.column.Column.start.Goals as goal

pub returns-clause-scores : goal.returns-clause-scores
returns-clause-scores c = grind (ints, arith, common_steps)

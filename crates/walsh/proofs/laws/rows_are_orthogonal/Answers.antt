use Rattle.walsh.proofs.RowTable.{orthogonal}
use Rattle.walsh.proofs.laws.rows_are_orthogonal.Goals as goal

pub returns : goal.returns
returns c = orthogonal

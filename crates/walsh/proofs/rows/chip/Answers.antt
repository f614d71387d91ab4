use Rattle.walsh.proofs.RowTable.{walsh-ones}
use Rattle.walsh.proofs.rows.chip.Goals as goal

pub returns : goal.returns
returns c = walsh-ones c.args.row c.args.k c.requires.row

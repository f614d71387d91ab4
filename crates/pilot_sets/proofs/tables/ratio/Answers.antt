use Rattle.pilot_sets.proofs.Ratios.{no_ratio, small_ratio}
use Rattle.pilot_sets.proofs.tables.ratio.Goals as goal

pub returns-then-k-lt64-clause-most : goal.returns-then-k-lt64-clause-most
returns-then-k-lt64-clause-most c = rw c.from.ensures (small_ratio c.args.k c.if-k-lt64.true)

pub returns-else-k-lt64-clause-value : goal.returns-else-k-lt64-clause-value
returns-else-k-lt64-clause-value c = no_ratio c.args.k c.if-k-lt64.false

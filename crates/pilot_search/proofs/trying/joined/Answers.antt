use Rattle.pilot_search.proofs.Common.{arith}
use Rattle.pilot_search.proofs.KeptSums.{plus_kept}
use Rattle.pilot_search.proofs.trying.joined.Goals as goal

pub returns-clause-value : goal.returns-clause-value
returns-clause-value c = plus_kept c.args.one c.args.other (omega (arith, c.requires.i)) (omega (arith, c.requires.q))

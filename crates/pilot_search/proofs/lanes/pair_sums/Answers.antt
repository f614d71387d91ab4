use Rattle.pilot_search.proofs.Common.{eight}
use Rattle.pilot_search.proofs.LaneLemmas.{lane}
use Rattle.pilot_search.proofs.lanes.pair_sums.Goals as goal

pub returns : goal.returns
returns c = λ x g first short units is js.
    rw (is, js) (λ i. eight (λ t. lane (x t) (g t) (short t).0 (short t).1 (units t) i) first)

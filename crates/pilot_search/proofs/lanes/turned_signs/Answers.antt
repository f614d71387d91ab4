use Rattle.pilot_search.proofs.Common.{across}
use Rattle.pilot_search.proofs.LaneLemmas.{parts_alike, same_sign, turned_sign}
use Rattle.pilot_search.proofs.lanes.turned_signs.Goals as goal

pub returns : goal.returns
returns c = λ g first units is.
    rw is
    (parts_alike _ (λ t. across (g t)) first
    (λ t i. (turned_sign (g t).1 (units t).q i, same_sign (g t).0 (units t).i i)))

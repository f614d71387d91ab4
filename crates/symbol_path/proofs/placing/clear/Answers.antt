use Rattle.symbol_path.proofs.Common.{pos, arith, ⊎_elim, cases_lt, get_or_past}
use Rattle.symbol_path.proofs.Gathering.{sizes_none}
use Rattle.symbol_path.proofs.placing.clear.Goals as goal

pub returns-clause-size : goal.returns-clause-size
returns-clause-size c =
    sizes_none c.loop-value.values
    (λ i. ⊎_elim (c.loop-value.invariant i) (λ past. get_or_past c.loop-value.values i (pos 0) (omega (arith, past)))
    (cases_lt i c.loop-value.value-index))

use Rattle.pilot_search.proofs.Common.{arith, sym, ap, ◌∙◌, Knowledge}
use Rattle.pilot_search.proofs.SharedKeeps.{begins}
use Rattle.pilot_search.proofs.shared.Shared.begin.Goals as goal

pub load-requires : goal.load-requires
load-requires g c =
    let view = c.seat.view_is in (
      ap (λ (k : Knowledge). k.word) view ∙ c.requires.word ∙ sym c.self.view_is,
      omega (arith, c.self.invariant),
      begins _ _ _ g.C.Ceiling.ceiling (ap (λ (k : Knowledge). k.fresh) view ∙ c.requires.fresh),
    )

use Rattle.pilot_search.proofs.Common.{arith, sym, ap, ◌∙◌, Knowledge}
use Rattle.pilot_search.proofs.SharedKeeps.{splits}
use Rattle.pilot_search.proofs.shared.Shared.split_seat.Goals as goal

pub split_seat-requires : goal.split_seat-requires
split_seat-requires c =
    let view = c.seat.view_is in (
      ap (λ (k : Knowledge). k.word) view ∙ c.requires.0 ∙ sym c.self.view_is,
      omega (arith, c.self.invariant),
      splits _ _ (ap (λ (k : Knowledge). k.spent) view ∙ c.requires.1),
    )

use Rattle.pilot_search.proofs.Common.{arith, sym, ap, ◌∙◌, Knowledge}
use Rattle.pilot_search.proofs.SharedKeeps.{joins}
use Rattle.pilot_search.proofs.shared.Shared.join_seat.Goals as goal

pub join_seat-requires : goal.join_seat-requires
join_seat-requires c =
    let view = c.seat.view_is in
    let theirs = c.other.view_is in (
      ap (λ (k : Knowledge). k.word) view ∙ c.requires.seat.0 ∙ sym c.self.view_is,
      ap (λ (k : Knowledge). k.word) theirs ∙ c.requires.other.0 ∙ sym c.self.view_is,
      c.other.invariant,
      omega (arith, c.self.invariant),
      joins _ _ _ _ (ap (λ (k : Knowledge). k.spent) view ∙ c.requires.seat.1)
          (ap (λ (k : Knowledge). k.spent) theirs ∙ c.requires.other.1),
    )

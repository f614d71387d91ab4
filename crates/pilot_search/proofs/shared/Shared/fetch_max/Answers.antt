use Rattle.pilot_search.proofs.Common.{arith, max, sym, ap, ◌∙◌, Knowledge}
use Rattle.pilot_search.proofs.SharedKeeps.{moves}
use Rattle.pilot_search.proofs.shared.Shared.fetch_max.Goals as goal

pub fetch_max-requires : goal.fetch_max-requires
fetch_max-requires c =
    let view = c.seat.view_is in
    let top = ap (λ (k : Knowledge). k.ceiling) view in (
      ap (λ (k : Knowledge). k.word) view ∙ c.requires.seat.0 ∙ sym c.self.view_is,
      omega (arith, c.self.invariant),
      moves _ _ _ (λ n. max n c.args.energy) (ap (λ (k : Knowledge). k.spent) view ∙
          c.requires.seat.1) (λ n. omega arith) (λ n h. omega arith),
    )

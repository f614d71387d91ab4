use Rattle.pilot_search.proofs.Common.{arith, sym, ap, ◌∙◌, Knowledge}
use Rattle.pilot_search.proofs.SharedKeeps.{moves}
use Rattle.pilot_search.proofs.shared.Shared.load.Goals as goal

pub load-requires : goal.load-requires
load-requires c =
    let view = c.seat.view_is in (
      ap (λ (k : Knowledge). k.word) view ∙ c.requires.0 ∙ sym c.self.view_is,
      omega (arith, c.self.invariant),
      moves _ _ _ (λ n. n) (ap (λ (k : Knowledge). k.spent) view ∙ c.requires.1) (λ n. omega arith)
          (λ n h. h),
    )

use Rattle.pilot_sets.proofs.Common.{arith, common_steps, ints, ◌≡◌, ◌<◌, subst, sym, rules, All, pilots}
use Rattle.pilot_sets.proofs.Orders.{pilots_offsets}
use Rattle.pilot_sets.proofs.sets.Sets.pilots.Goals as goal

pub returns-clause-offsets : goal.returns-clause-offsets
returns-clause-offsets c =
    let is : c.add-3.new.self ≡ pilots c.self.inside.sets = search rules in
    subst (All (λ p. p < 512)) (sym is) (pilots_offsets c.self.inside.sets c.self.invariant.sets)

pub add-requires-3 : goal.add-requires-3
add-requires-3 c = grind (ints, arith, common_steps)

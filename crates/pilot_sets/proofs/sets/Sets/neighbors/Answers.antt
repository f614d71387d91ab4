use Rattle.pilot_sets.proofs.Common.{subst, sym, IsOrderly}
use Rattle.pilot_sets.proofs.Orders.{neighbors_orderly}
use Rattle.pilot_sets.proofs.sets.Sets.neighbors.Goals as goal

pub invariant_of-self : goal.invariant_of-self
invariant_of-self c = record {
  sets = subst IsOrderly (sym c.hear_neighbors.ensures) (
      neighbors_orderly c.args.pilots.now c.self.inside.sets c.requires c.self.invariant.sets
      );
  long = c.self.invariant.long;
}

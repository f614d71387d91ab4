use Rattle.pilot_sets.proofs.Common.{subst, sym, IsOrderly, IsActiveSetIfAny}
use Rattle.pilot_sets.proofs.Orders.{handed_off_orderly}
use Rattle.pilot_sets.proofs.sets.Sets.due.Goals as goal

pub invariant_of-self : goal.invariant_of-self
invariant_of-self c = record {
  sets = subst IsOrderly (sym c.hand_off.ensures) (
      handed_off_orderly c.args.time c.in-Some.direction c.self.inside.sets c.self.invariant.sets
      (subst IsActiveSetIfAny c.in-Some.is c.self.invariant.sets.waiting)
      );
  long = c.self.invariant.long;
}

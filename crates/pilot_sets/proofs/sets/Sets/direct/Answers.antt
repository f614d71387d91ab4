use Rattle.pilot_sets.proofs.Common.{subst, sym, ◌∙◌, IsActiveSet, Accepted}
use Rattle.pilot_sets.proofs.Orders.{waiting_orderly, accepted_active_set}
use Rattle.pilot_sets.proofs.sets.Sets.direct.Goals as goal

pub invariant_of-self : goal.invariant_of-self
invariant_of-self c = record {
  sets =
      waiting_orderly c.accept.result c.self.inside.sets (
      subst (λ (a : Accepted). IsActiveSet a.named) (sym c.accept.ensures) (
      accepted_active_set c.args.first c.fields-fields.result (record {
        some = c.fields-fields.ensures.some;
        combs_long = c.fields-fields.ensures.combs;
        rows_long = c.fields-fields.ensures.rows;
        action = c.fields-fields.ensures.action;
        pilots = c.fields-fields.ensures.pilots;
        rows = c.fields-fields.ensures.channels;
      }) (sym c.direction_fault.ensures ∙ c.in_default.is)
      )
      ) c.self.invariant.sets;
  long = c.self.invariant.long;
}

use Rattle.pilot_sets.proofs.Common.{◌≡◌, refl, ℕ, List, None, ap, ◌∙◌, subst, sym, energy_in, measured, deltas_with, IsOrderly, Standing}
use Rattle.pilot_sets.proofs.Common.{PilotSets, Bool, began_in, is_reported, change_at, is_changed, stepped}
use Rattle.std.specs.Prelude.{ℤ}
use Rattle.pilot_sets.specs.declared.change.SetChange.{SetChange}
use Rattle.pilot_sets.specs.declared.standing.Began.{Began}
use Rattle.pilot_sets.specs.declared.strengths.Strength.{Strength}
use Rattle.pilot_sets.proofs.Orders.{measured_orderly}
use Rattle.pilot_sets.proofs.sets.Sets.step.Goals as goal

abbrev standing_with : PilotSets → List ℤ → Standing
standing_with sets deltas = record { sets = sets; began = None; deltas = deltas }

abbrev shown_change : Bool → Bool → SetChange
shown_change changed report = record { changed = changed; report = report }

-- the change that is shown, where each part of it is what its call says
change_shown : (s : Standing) (power time : ℕ) (began : Began) (ns : List ℕ) (xs ys : List Strength)
    (new : PilotSets) (changed report : Bool) → began ≡ began_in s → ns ≡ began.neighbors → xs ≡ ys →
    new ≡ measured (energy_in xs) power time ns s.sets → changed ≡ is_changed began new →
    report ≡ is_reported (energy_in xs) power time ns s.sets → shown_change changed report ≡ change_at ys power time s
change_shown s power time began ns xs ys new changed report began_is ns_is xs_is new_is changed_is
    report_is = rw (changed_is, report_is, new_is, ns_is, xs_is, began_is) refl

pub keep_deltas-requires : goal.keep_deltas-requires
keep_deltas-requires c = rw c.all.ensures c.requires.pilots

pub invariant_of-self : goal.invariant_of-self
invariant_of-self c = record {
  sets = subst IsOrderly (sym c.measure-report.ensures.sets) (
      measured_orderly (energy_in c.all-3.result.now) c.args.power c.args.time c.all-2.result.now
      c.self.inside.sets c.self.invariant.sets
      );
  long = c.keep_deltas.array_long;
}

-- What the calls leave, one after the other, is what a step makes of the standing.
pub returns-clause-sets : goal.returns-clause-sets
returns-clause-sets c =
    let began = c.self.inside.sets in
    let strengths = c.args.strengths.now in
    let neighbors = c.all-2.ensures.value ∙ ap (λ (b : Began). b.neighbors) c.began_in-began.ensures in
    let sets =
    c.measure-report.ensures.sets
    ∙ ap (λ (xs : List Strength). measured (energy_in xs) c.args.power c.args.time
    c.all-2.result.now began) c.all-3.ensures
    ∙ ap (λ (ns : List ℕ). measured (energy_in strengths) c.args.power c.args.time ns began)
    neighbors in
    let deltas = c.keep_deltas.ensures
    ∙ ap (λ (xs : List Strength). deltas_with xs c.self.inside.deltas) c.all.ensures in
    subst (λ (s : Standing). standing_with c.measure-report.new.sets c.keep_deltas.new.deltas
    ≡ stepped strengths c.args.power c.args.time s) c.self.view_is
    (ap (λ (x : PilotSets). standing_with x c.keep_deltas.new.deltas) sets
    ∙ ap (standing_with _) deltas)

pub returns-clause-change : goal.returns-clause-change
returns-clause-change c =
    let is = c.self.inside in
    let old : Standing = record { sets = is.sets; began = is.began; deltas = is.deltas } in
    subst (λ (s : Standing). shown_change c.is_changed-changed.result c.measure-report.result
    ≡ change_at c.args.strengths.now c.args.power c.args.time s) c.self.view_is
    (change_shown old c.args.power c.args.time c.began_in-began.result c.all-2.result.now
    c.all-3.result.now c.args.strengths.now c.measure-report.new.sets _ _ c.began_in-began.ensures
    c.all-2.ensures.value c.all-3.ensures c.measure-report.ensures.sets c.is_changed-changed.ensures
    c.measure-report.ensures.report)

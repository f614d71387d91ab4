use Rattle.std.proofs.Common.{◌≡◌, ◌∙◌, ap, sym, refl, Ok, rules}
use Rattle.cell_script.specs.Script.{plan_named}
use Rattle.chip_core.specs.declared.width.Width.TheVariants.{Sixteen}
use Rattle.trial_link.proofs.TrialPlans.{trial_named}
use Rattle.trial_link.specs.Trial.{trial_plan}
use Rattle.base_modulator.proofs.trial.trial_cell.Goals as goal

-- The plan that the number's script names is the trial's, and the cell has this plan.
pub returns-in-Ok : goal.returns-in-Ok
returns-in-Ok c =
    let cell = c.in-Ok.cell in
    let number = c.args.number in
    let planned : plan_named Sixteen c.in_ok-script.script.items ≡ Ok cell.plan = search rules in
    let named : Ok cell.plan ≡ Ok (trial_plan number) =
    sym planned ∙ ap (plan_named Sixteen) c.in_ok-script.ensures ∙ trial_named number in
    let plan : cell.plan ≡ trial_plan number = cc in
    rw (← c.in-Ok.ensures.fresh.0, ← plan, ← c.in-Ok.ensures.fresh.1) refl

use Rattle.cell_script.proofs.Common.{sym, subst, CellPlan}
use Rattle.cell_script.proofs.ScriptReading.{all_made, none_made, one_made, HasMade}
use Rattle.cell_script.proofs.reading.plan_in.Goals as goal

pub loop-statement-init : goal.loop-statement-init
loop-statement-init c =
    subst (λ (p : CellPlan). HasMade c.args.script.now p c.args.script.now)
    (sym c.empty_plan-plan.ensures) (none_made c.args.script.now)

pub loop-statement-preserved : goal.loop-statement-preserved
loop-statement-preserved c =
    one_made c.args.script.now c.loop-statement.rest.now c.loop-statement.plan
    c.add_statement.new.plan c.in-Some.bytes c.in-Some.statement c.requires c.in-Some.ensures.0
    c.in-Some.ensures.1 c.in_ok-add_statement.ensures c.loop-statement.invariant

pub returns : goal.returns
returns c =
    all_made c.args.script.now c.loop-statement.rest.now c.loop-statement.plan c.requires
    c.in_default.ensures c.loop-statement.invariant

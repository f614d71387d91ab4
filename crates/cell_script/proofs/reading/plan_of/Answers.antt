use Rattle.cell_script.proofs.Common.{sym}
use Rattle.cell_script.proofs.ScriptAnswers.{fault_named, line_named, link_stated, names_lawful, names_plan, names_some, too_big}
use Rattle.cell_script.proofs.reading.plan_of.Goals as goal

pub returns-then-script-gt-MOST_BYTES-clause-fault :
    goal.returns-then-script-gt-MOST_BYTES-clause-fault
returns-then-script-gt-MOST_BYTES-clause-fault c other =
    too_big c.args.width c.args.script.now c.if-script-gt-MOST_BYTES.true

pub returns-in-Err-clause-fault : goal.returns-in-Err-clause-fault
returns-in-Err-clause-fault c other =
    line_named c.args.width c.args.script.now c.in-Err.n c.if-script-gt-MOST_BYTES.false
    c.in-Err.ensures.fault

pub fault-requires-clause-link : goal.fault-requires-clause-link
fault-requires-clause-link c = link_stated c.args.script.now _ c.in-Ok.ensures.judged

pub returns-in-Some-clause-fault : goal.returns-in-Some-clause-fault
returns-in-Some-clause-fault c other =
    fault_named c.args.width c.args.script.now _ _ c.if-script-gt-MOST_BYTES.false
    c.in-Ok.ensures.judged (sym c.in-Some.ensures.value)

pub returns-in-Ok-plan_in-clause-value : goal.returns-in-Ok-plan_in-clause-value
returns-in-Ok-plan_in-clause-value c =
    names_plan c.args.width c.args.script.now _ _ c.if-script-gt-MOST_BYTES.false
    c.in-Ok.ensures.judged (sym c.in_default.ensures.value) c.in-Ok-plan_in.ensures

pub returns-in-Ok-plan_in-clause-lawful : goal.returns-in-Ok-plan_in-clause-lawful
returns-in-Ok-plan_in-clause-lawful c =
    names_lawful c.args.width c.args.script.now _ _ c.if-script-gt-MOST_BYTES.false
    c.in-Ok.ensures.judged (sym c.in_default.ensures.value) c.in-Ok-plan_in.ensures

pub returns-in-Err-plan_in-clause-memory : goal.returns-in-Err-plan_in-clause-memory
returns-in-Err-plan_in-clause-memory c same =
    names_some c.args.width c.args.script.now _ c.if-script-gt-MOST_BYTES.false
    c.in-Ok.ensures.judged (sym c.in_default.ensures.value)

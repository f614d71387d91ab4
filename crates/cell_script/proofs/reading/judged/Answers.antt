use Rattle.cell_script.proofs.Common.{sym, ◌∙◌}
use Rattle.cell_script.proofs.ScriptReading.{all_read, faulty_line, missing_line, none_read, one_read, refused_line}
use Rattle.cell_script.proofs.ScriptSplits.{is_left, none_left}
use Rattle.cell_script.proofs.reading.judged.Goals as goal

pub loop-rest-init : goal.loop-rest-init
loop-rest-init c =
    none_read c.args.script.now c.new-judge.result c.new-judge.ensures.judged
    c.new-judge.ensures.gains

pub returns-in_default-clause-fault : goal.returns-in_default-clause-fault
returns-in_default-clause-fault c =
    faulty_line c.args.script.now c.loop-rest.rest.now c.loop-rest.stage c.loop-rest.judge
    c.loop-rest.n c.in_default.ensures (is_left _ _ c.is_empty.ensures c.loop-rest-test.true) c.loop-rest.invariant

pub returns-in_default-after-clause-fault : goal.returns-in_default-after-clause-fault
returns-in_default-after-clause-fault c =
    refused_line c.args.script.now c.loop-rest.rest.now c.loop-rest.stage c.loop-rest.judge
    c.loop-rest.n c.in-Some.statement c.in-Some.ensures.0 (sym c.in_default-after.ensures) c.loop-rest.invariant

pub loop-rest-preserved : goal.loop-rest-preserved
loop-rest-preserved c =
    one_read c.args.script.now c.loop-rest.rest.now c.loop-rest.stage c.in-Some-after.next
    c.loop-rest.judge c.with-judge.result c.loop-rest.n c.in-Some.bytes c.in-Some.statement
    c.in-Some.ensures.0 c.in-Some.ensures.1
    (sym c.in-Some-after.ensures) c.with-judge.ensures.judged c.with-judge.ensures.gains
    c.loop-rest.invariant

pub returns-then-is_complete-clause-judged : goal.returns-then-is_complete-clause-judged
returns-then-is_complete-clause-judged c =
    all_read c.args.script.now c.loop-rest.rest.now c.loop-rest.stage c.loop-rest.judge
    c.loop-rest.n (none_left _ _ c.is_empty.ensures c.loop-rest-test.false)
    (sym c.is_complete.ensures ∙ c.if-is_complete.true) c.requires c.loop-rest.invariant

pub returns-else-is_complete-clause-fault : goal.returns-else-is_complete-clause-fault
returns-else-is_complete-clause-fault c =
    missing_line c.args.script.now c.loop-rest.rest.now c.loop-rest.stage c.loop-rest.judge
    c.loop-rest.n (none_left _ _ c.is_empty.ensures c.loop-rest-test.false)
    (sym c.is_complete.ensures ∙ c.if-is_complete.false) c.loop-rest.invariant

use Rattle.run_replies.proofs.Common.{◌∙◌}
use Rattle.run_replies.proofs.Runs.{line_told}
use Rattle.run_replies.proofs.process.report.Goals as goal

pub returns : goal.returns
returns g c =
    line_told c.is_done.result c.write_all-told.result c.bytes.result.now c.if-is_done.false
    c.is_done.ensures (c.bytes.ensures.value ∙ c.line-line.ensures) c.write_all-told.ensures.ok
    c.write_all-told.ensures.err c.write_all-told.ensures.cause

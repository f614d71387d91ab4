use Rattle.cell_script.proofs.Common.{◌∙◌}
use Rattle.cell_script.proofs.ScriptPages.{body_found}
use Rattle.cell_script.proofs.statements.is_body.Goals as goal

pub returns : goal.returns
returns c =
    c.is_some.ensures
    ∙ body_found c.args.body.now c.from_body.result c.from_body.ensures.found
    c.from_body.ensures.only

use Rattle.cell_script.proofs.Common.{◌≡◌, ◌++◌, take, lines_of, map}
use Rattle.cell_script.specs.declared.statements.Statement.TheVariants as statements
use Rattle.cell_script.proofs.writing.add_pages.Given as goal

abbrev pub invariant-loop-page : goal.invariant-loop-page
invariant-loop-page l = l.script.items ≡ l.fn.script.items ++ lines_of (map statements.Page (take l.page-index l.pages))

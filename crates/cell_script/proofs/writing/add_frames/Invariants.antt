use Rattle.cell_script.proofs.Common.{◌≡◌, ◌++◌, take, lines_of, map}
use Rattle.cell_script.specs.declared.statements.Statement.TheVariants as statements
use Rattle.cell_script.proofs.writing.add_frames.Given as goal

abbrev pub invariant-loop-frame : goal.invariant-loop-frame
invariant-loop-frame l =
    l.script.items ≡ l.fn.script.items ++ lines_of (map statements.Frame (take l.frame-index l.frames))

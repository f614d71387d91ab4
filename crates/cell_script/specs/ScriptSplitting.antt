-- The first line of a script and the lines after it.
use Rattle.cell_script.specs.Common.{Statement}
use Rattle.std.specs.Prelude.{ℕ, nat_lt, if◌then◌else◌, List, length, take, Option, None}
use Rattle.cell_script.specs.ScriptLines.{statement_in}
use Rattle.line_text.specs.StatedValues.{length_before}

-- what the first line of a text states; None if it has no LF
unfoldable pub first_stated : List ℕ → Option Statement
first_stated text =
    if nat_lt (length_before 10 text) (length text)
    then statement_in (take (length_before 10 text) text) else None

use Rattle.line_text.proofs.Common.{◌≡◌, drop}
use Rattle.line_text.specs.StatedValues.{all_clear}
use Rattle.line_text.proofs.values.is_clear_from.Given as goal

abbrev pub invariant-loop-place : goal.invariant-loop-place
invariant-loop-place l = all_clear (drop l.from l.bits) ≡ all_clear (drop l.place l.bits)

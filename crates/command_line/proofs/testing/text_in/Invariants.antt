use Rattle.command_line.proofs.Common.{◌≡◌, drop, map, string_bytes, text_in}
use Rattle.command_line.proofs.testing.text_in.Given as goal

abbrev pub invariant-loop-place : goal.invariant-loop-place
invariant-loop-place l =
    text_in l.fn.name (map string_bytes l.args) ≡
    text_in l.fn.name (drop l.place (map string_bytes l.args))

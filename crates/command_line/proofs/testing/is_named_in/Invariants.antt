use Rattle.command_line.proofs.Common.{◌≡◌, drop, map, string_bytes, is_named_in}
use Rattle.command_line.proofs.testing.is_named_in.Given as goal

abbrev pub invariant-loop-arg : goal.invariant-loop-arg
invariant-loop-arg l =
    is_named_in l.fn.name (map string_bytes l.args) ≡
    is_named_in l.fn.name (drop l.arg-index (map string_bytes l.args))

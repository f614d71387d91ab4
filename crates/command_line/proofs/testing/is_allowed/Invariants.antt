use Rattle.command_line.proofs.Common.{◌≡◌, drop, map, is_allowed, entry_of}
use Rattle.command_line.proofs.testing.is_allowed.Given as goal

abbrev pub invariant-loop-rule : goal.invariant-loop-rule
invariant-loop-rule l =
    is_allowed (map entry_of l.rules) l.fn.name l.fn.value ≡
    is_allowed (drop l.rule-index (map entry_of l.rules)) l.fn.name l.fn.value

use Rattle.command_line.proofs.Common.{◌≡◌, drop, map, app_of, app_from, bare_app, entry_of}
use Rattle.command_line.proofs.matching.command_by.Given as goal

abbrev pub invariant-loop-rule : goal.invariant-loop-rule
invariant-loop-rule l =
    app_from (bare_app l.fn.name) (map entry_of l.rules) ≡
    app_from (app_of l.command) (drop l.rule-index (map entry_of l.rules))

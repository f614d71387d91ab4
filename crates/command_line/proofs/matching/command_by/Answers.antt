use Rattle.command_line.proofs.Common.{◌≡◌, ◌+◌, ◌∙◌, drop, get_or, map, sym, ap, rules, arith, drop_all, length-map, App, app_of, rule_of}
use Rattle.command_line.proofs.Common.{with_rule, app_from, entry_of, rule_by}
use Rattle.command_line.proofs.ArgTests.{item_first, no_rule}
use Rattle.command_line.proofs.ArgApps.{app-more, app-none}
use Rattle.command_line.proofs.matching.command_by.Goals as goal

-- The command with one rule's option more leads to the same command of all rules: the option that
-- was added is the rule's own, and the rules that are left are those after it.
pub loop-rule-preserved : goal.loop-rule-preserved
loop-rule-preserved c =
    let entry = entry_of (get_or c.args.rules.now c.loop-rule.rule-index no_rule) in
    let rest = drop (c.loop-rule.rule-index + 1) (map entry_of c.args.rules.now) in
    let rule : rule_of c.action-option.result ≡ rule_by entry = search rules in
    let app : app_of c.in_ok-command.command ≡ with_rule (app_of c.loop-rule.command)
    (rule_by entry) =
    c.in_ok-command.ensures.shape (search rules)
    ∙ ap (with_rule (app_of c.loop-rule.command)) rule in
    c.loop-rule.invariant
    ∙ item_first (app_from (app_of c.loop-rule.command)) entry_of c.args.rules.now
    c.loop-rule.rule-index no_rule c.loop-rule-test.true
    ∙ app-more (app_of c.loop-rule.command) entry rest
    ∙ ap (λ (a : App). app_from a rest) (sym app)

pub returns : goal.returns
returns c =
    sym (c.loop-rule.invariant
    ∙ ap (app_from (app_of c.loop-rule.command)) (drop_all c.loop-rule.rule-index (map entry_of c.args.rules.now)
    (rw (length-map c.args.rules.now entry_of) (omega (arith, c.loop-rule-test.false))))
    ∙ app-none (app_of c.loop-rule.command))

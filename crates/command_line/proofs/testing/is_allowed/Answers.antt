use Rattle.command_line.proofs.Common.{arith, common_steps, ints, ◌+◌, ◌∙◌, List, ap, drop, is_some, map, sym, OptionEntry, is_allowed}
use Rattle.command_line.proofs.Common.{entry_of}
use Rattle.command_line.proofs.ArgTests.{item_first, no_rule, rule_elsewhere, rule_here}
use Rattle.command_line.proofs.testing.is_allowed.Goals as goal

pub returns-then-eq : goal.returns-then-eq
returns-then-eq c =
    c.is_some.ensures ∙ ap is_some c.value_in.ensures.value ∙ sym (c.loop-rule.invariant
    ∙ item_first (λ (entries : List OptionEntry). is_allowed entries c.args.name.now c.args.value.now)
    entry_of
    c.args.rules.now c.loop-rule.rule-index no_rule c.loop-rule-test.true
    ∙ rule_here _ (drop (c.loop-rule.rule-index + 1) (map entry_of c.args.rules.now))
    c.args.name.now c.args.value.now (sym c.eq.ensures ∙ c.if-eq.true))

pub loop-rule-preserved : goal.loop-rule-preserved
loop-rule-preserved c =
    c.loop-rule.invariant
    ∙ item_first (λ (entries : List OptionEntry). is_allowed entries c.args.name.now c.args.value.now)
    entry_of
    c.args.rules.now c.loop-rule.rule-index no_rule c.loop-rule-test.true
    ∙ rule_elsewhere _ (drop (c.loop-rule.rule-index + 1) (map entry_of c.args.rules.now))
    c.args.name.now c.args.value.now (sym c.eq.ensures ∙ c.if-eq.false)

pub returns : goal.returns
returns c = grind (ints, arith, common_steps)

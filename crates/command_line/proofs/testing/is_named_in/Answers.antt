use Rattle.command_line.proofs.Common.{◌+◌, ◌∙◌, ◌||◌, Bool, String, Global, drop, map, string_bytes, sym, ap, is_named_in, names}
use Rattle.command_line.proofs.ArgTests.{item_first}
use Rattle.command_line.proofs.testing.is_named_in.Goals as goal

-- The answer `true` is right where an argument names the option: by the loop's invariant the
-- arguments from this one on decide for all of them, and the first of these is enough.
pub returns-then-names : goal.returns-then-names
returns-then-names c =
    let name = c.args.name.now in
    let rest = drop (c.loop-arg.arg-index + 1) (map string_bytes c.args.args.now) in
    sym (c.loop-arg.invariant
    ∙ item_first (is_named_in name) string_bytes c.args.args.now c.loop-arg.arg-index
    c.arg-item.result c.loop-arg-test.true
    ∙ ap (λ (b : Bool). b || is_named_in name rest)
    (ap (λ (w : String Global). names name (string_bytes w)) (sym c.arg-item.is)
    ∙ ap (names name) (sym c.as_str.ensures.value) ∙ sym c.names.ensures ∙ c.if-names.true))

pub loop-arg-preserved : goal.loop-arg-preserved
loop-arg-preserved c =
    let name = c.args.name.now in
    let rest = drop (c.loop-arg.arg-index + 1) (map string_bytes c.args.args.now) in
    c.loop-arg.invariant
    ∙ item_first (is_named_in name) string_bytes c.args.args.now c.loop-arg.arg-index
    c.arg-item.result c.loop-arg-test.true
    ∙ ap (λ (b : Bool). b || is_named_in name rest)
    (ap (λ (w : String Global). names name (string_bytes w)) (sym c.arg-item.is)
    ∙ ap (names name) (sym c.as_str.ensures.value) ∙ sym c.names.ensures ∙ c.if-names.false)

use Rattle.command_line.proofs.Common.{◌≡◌, ◌∙◌, ◌<◌, ◌≤◌, List, ap, arith, length, map, option_map, string_bytes, sym, true, false, Text}
use Rattle.command_line.proofs.Common.{drop_all, length-map, names, part_of, text_in}
use Rattle.command_line.proofs.ArgTests.{text_here, text_there, texts_after}
use Rattle.command_line.proofs.testing.text_in.Goals as goal

-- Where the argument at this place names the option, the text is the one that the arguments from
-- here on begin with: no argument before it named the option, so the definition's search has come
-- just as far.
pub returns-then-names : goal.returns-then-names
returns-then-names c =
    let name = c.args.name.now in
    let args = c.args.args.now in
    let place = c.loop-place.place in
    let inside : place < length args = omega arith in
    let within : place ≤ length args = omega (arith, inside) in
    let named : names name (string_bytes c.index-args-place.result) ≡ true =
    ap (names name) (sym c.as_str.ensures.value) ∙ sym c.names.ensures ∙ c.if-names.true in
    c.first_text.ensures
    ∙ ap (λ (ws : List Text). option_map (λ p. p.1) (part_of ws)) (texts_after args place within)
    ∙ sym (c.loop-place.invariant
    ∙ text_here name args place c.index-args-place.result inside c.index-args-place.is named)

-- An argument that doesn't name the option is passed by: the definition, too, finds in the
-- arguments from it on what it finds in those after it.
pub loop-place-preserved : goal.loop-place-preserved
loop-place-preserved c =
    let name = c.args.name.now in
    let args = c.args.args.now in
    let place = c.loop-place.place in
    let inside : place < length args = omega arith in
    let unnamed : names name (string_bytes c.index-args-place.result) ≡ false =
    ap (names name) (sym c.as_str.ensures.value) ∙ sym c.names.ensures ∙ c.if-names.false in
    c.loop-place.invariant
    ∙ text_there name args place c.index-args-place.result inside c.index-args-place.is unnamed

-- There is no text where no argument names the option: all of them were passed by, so what the
-- definition finds is what it finds in no arguments.
pub returns : goal.returns
returns c =
    let name = c.args.name.now in
    let args = c.args.args.now in
    let place = c.loop-place.place in
    let past : length (map string_bytes args) ≤ place = rw (length-map args string_bytes) (omega arith) in
    sym (c.loop-place.invariant ∙ ap (text_in name) (drop_all place (map string_bytes args) past))

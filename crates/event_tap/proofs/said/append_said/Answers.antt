use Rattle.event_tap.proofs.Common.{arith, common_steps, ints, ◌++◌, ap, ◌∙◌, codes, named_values, rest_text, list_text, said_text}
use Rattle.event_tap.proofs.SaidTexts.{in_front}
use Rattle.message_layout.specs.Shapes.{line_names, shape}
use Rattle.event_tap.proofs.said.append_said.Goals as goal

-- The text is the message's as the definition has it: a space and its name, the named values, the
-- list and the rest are each added to what the one before it left, and only the brackets differ.
pub returns-clause-value : goal.returns-clause-value
unfolding said_text
returns-clause-value c =
    let layout = c.args.layout.now in
    let contents = c.args.contents.now in
    let names = line_names layout in
    let named = named_values names.fixed contents.fixed in
    let list = list_text names.list (shape layout).records contents.columns in
    let rest = rest_text contents.rest in
    c.append_end.ensures.value
    ∙ ap (λ xs. xs ++ rest) (c.append_list.ensures.value
    ∙ ap (λ xs. xs ++ list) (c.append_values.ensures.value
    ∙ ap (λ vs. c.append_str-2.new.self ++ named_values names.fixed vs) c.as_slice.ensures
    ∙ ap (λ xs. xs ++ named) (c.append_str-2.ensures.value
    ∙ ap (λ xs. xs ++ names.word) c.append_str.ensures.value)))
    ∙ in_front c.args.text.now (codes " ") names.word named list rest

pub append_list-requires-clause-ascii : goal.append_list-requires-clause-ascii
append_list-requires-clause-ascii c = grind (ints, arith, common_steps)

pub append_values-requires-clause-all : goal.append_values-requires-clause-all
append_values-requires-clause-all c = grind (ints, arith, common_steps)

pub append_str-requires-2-clause-ascii : goal.append_str-requires-2-clause-ascii
append_str-requires-2-clause-ascii c = grind (ints, arith, common_steps)

pub append_values-requires-clause-fit : goal.append_values-requires-clause-fit
append_values-requires-clause-fit c = grind (ints, arith, common_steps)

pub append_str-requires-clause-ascii : goal.append_str-requires-clause-ascii
append_str-requires-clause-ascii c = grind (ints, arith, common_steps)

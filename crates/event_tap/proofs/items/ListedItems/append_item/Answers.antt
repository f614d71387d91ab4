use Rattle.event_tap.proofs.Common.{common_steps, ints, ◌++◌, [], length, map, get_or, decimal, sym, ap, ◌∙◌, append_assoc, arith, height}
use Rattle.event_tap.proofs.Common.{length-append, get_or_default, get_or-map-places, three_long, columns_text, columns_texts, slash_text}
use Rattle.event_tap.proofs.SaidTexts.{column_number, record_short}
use Rattle.event_tap.proofs.items.ListedItems.append_item.Goals as goal

-- The text of a record is its number in the first column, and then those of the second and the
-- third after a slash: the three are added one after another, and a column that the records don't
-- have adds nothing, as in the definition.
pub returns-clause-value : goal.returns-clause-value
returns-clause-value c =
    let widths = map (λ row. row.1) c.args.self.now.fields.now in
    let columns = c.args.self.now.columns.now in
    let i = c.args.i in
    let text = c.args.text.now in
    let three = three_long widths (height columns) columns c.requires.fit.even in
    let number = column_number columns 0 i c.index-self-0.result c.get.result (omega (arith, three)) c.get.ensures in
    let first = decimal (get_or (get_or columns 0 []) i 0) in
    let second = slash_text i (get_or columns 1 []) in
    let third = slash_text i (get_or columns 2 []) in
    c.append_slash-2.ensures.value
    ∙ ap (λ column. c.append_slash.new.text ++ slash_text i column)
    (get_or_default columns 2 c.index-self-2.result [] (omega (arith, three)))
    ∙ ap (λ xs. xs ++ third) (c.append_slash.ensures.value
    ∙ ap (λ column. c.append_number.new.self ++ slash_text i column)
    (get_or_default columns 1 c.index-self-1.result [] (omega (arith, three)))
    ∙ ap (λ xs. xs ++ second) (c.append_number.ensures.value
    ∙ ap (λ n. text ++ decimal n) (sym number))
    ∙ append_assoc text first second)
    ∙ append_assoc text (first ++ second) third
    ∙ ap (λ xs. text ++ xs) (sym (get_or-map-places (columns_text columns) (height columns) i [] c.requires.within))

pub returns-clause-len : goal.returns-clause-len
returns-clause-len c =
    let widths = map (λ row. row.1) c.args.self.now.fields.now in
    let columns = c.args.self.now.columns.now in
    omega (
      arith,
      ap length (returns-clause-value c),
      length-append c.args.text.now (get_or (columns_texts columns) c.args.i []),
      ap length (get_or-map-places (columns_text columns) (height columns) c.args.i [] c.requires.within),
      record_short widths columns c.args.i c.requires.fit c.requires.within,
    )

pub listed : goal.listed
listed c = grind (ints, arith, common_steps)

pub get-requires : goal.get-requires
get-requires c = grind (ints, arith, common_steps)

pub listed-2 : goal.listed-2
listed-2 c = grind (ints, arith, common_steps)

pub listed-3 : goal.listed-3
listed-3 c = grind (ints, arith, common_steps)

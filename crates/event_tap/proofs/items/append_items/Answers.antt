use Rattle.event_tap.proofs.Common.{common_steps, ints, ◌<◌, ◌++◌, length, get_or, take, [], sym, ap, ◌∙◌, arith, length-take-le, take_more}
use Rattle.event_tap.proofs.Common.{commas}
use Rattle.event_tap.proofs.PartTexts.{comma_item, no_items}
use Rattle.event_tap.proofs.items.append_items.Goals as goal

pub loop-i-init : goal.loop-i-init
loop-i-init g c = record { most = omega arith; value = no_items c.args.text.now; long = omega arith }

-- A round keeps the invariant: item `i`, after a comma unless it is the first, turns the text of
-- `i` items into that of `i + 1`, and the two add no more than the width of an item.
pub loop-i-preserved : goal.loop-i-preserved
loop-i-preserved g c =
    let texts = g.L.Items.texts c.args.items.now in
    let i = c.loop-i.i in
    let within : i < length texts =
    omega (arith, c.loop-i-test.true, c.count-i-end.ensures.value, c.count-i-end.ensures.all) in
    record {
      most = omega (arith, c.loop-i-test.true, c.count-i-end.ensures.value);
      value =
          comma_item c.args.text.now c.loop-i.text c.append_comma.new.text c.append_item.new.text
          (take i texts) i (get_or texts i []) (length-take-le i texts (omega (arith, within)))
          c.loop-i.invariant.value c.append_comma.ensures.value c.append_item.ensures.value
          ∙ ap (λ items. c.args.text.now ++ commas items) (sym (take_more texts i [] within));
      long =
          omega (arith, c.append_item.ensures.len, c.append_comma.ensures.len, c.loop-i.invariant.long);
    }

pub returns-clause-value : goal.returns-clause-value
returns-clause-value g c = grind (ints, arith, common_steps)

use Rattle.line_text.proofs.Common.{false, ◌∙◌, arith}
use Rattle.std.proofs.lemmas.Option.{get_or_from_slice_get}
use Rattle.line_text.proofs.StatedTexts.{clear_bit, set_bit}
use Rattle.line_text.proofs.values.is_clear_from.Goals as goal

pub returns-then-get : goal.returns-then-get
returns-then-get c =
    let place = c.loop-place.place in
    set_bit c.args.bits.now c.args.from place (omega (arith, c.loop-place-test.true, c.len-place-end.ensures.value))
    (get_or_from_slice_get c.args.bits.now place _ false c.get.ensures
    ∙ c.if-get.true) c.loop-place.invariant

pub loop-place-preserved : goal.loop-place-preserved
loop-place-preserved c =
    let place = c.loop-place.place in
    clear_bit c.args.bits.now c.args.from place (omega (arith, c.loop-place-test.true, c.len-place-end.ensures.value))
    (get_or_from_slice_get c.args.bits.now place _ false c.get.ensures
    ∙ c.if-get.false) c.loop-place.invariant

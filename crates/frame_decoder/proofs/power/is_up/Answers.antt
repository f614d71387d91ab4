use Rattle.frame_decoder.proofs.Common.{◌<◌, ◌∙◌, ap, sym, Bool, List, ℤ, [], length, get_or, pos, ◌&&◌, int_lt, list_all_more}
use Rattle.frame_decoder.proofs.power.is_up.Goals as goal

-- One base station more is asked: power is to go up only where all base stations so far and this
-- one have a sum above 0 for the group.
pub loop-sums-preserved : goal.loop-sums-preserved
loop-sums-preserved c =
    let heard = c.args.heard.now in
    let i = c.loop-sums.sums-index in
    let g = c.args.group in
    let within : i < length heard = c.loop-sums-test.true in
    let above : List ℤ → Bool = λ sum. int_lt (pos 0) (get_or sum g (pos 0)) in
    ap (λ (b : Bool). c.loop-sums.up && b) c.is_above_zero-up.ensures
    ∙ ap (λ (b : Bool). b && above (get_or heard i [])) c.loop-sums.invariant
    ∙ sym (list_all_more above heard i [] within)

use Rattle.frame_decoder.proofs.Common.{◌≡◌, sym, ap, pos, arith, length, set, rules, set_past}
use Rattle.frame_decoder.proofs.replaced.clear_at.Goals as goal

pub returns-then-at-lt384 : goal.returns-then-at-lt384
returns-then-at-lt384 c =
    let e = c.from-at.ensures in
    ap (λ n. set c.args.values.now n (pos 0)) e

-- Nothing is cleared at a place past the frame: it has 384 soft values, and a list stays as it is
-- where it is set at a place that it doesn't have.
pub returns-else-at-lt384 : goal.returns-else-at-lt384
returns-else-at-lt384 c =
    let e = c.from-at.ensures in
    let past = c.if-at-lt384.false in
    let long : length c.args.values.now ≡ 384 = search rules in
    sym (set_past c.args.values.now c.args.place (pos 0) (omega arith))

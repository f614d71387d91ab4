use Rattle.viterbi.proofs.Common.{◌+◌, ◌*◌, ℕ, get_or, pos, arith, ap, ◌∙◌, w64, SFits}
use Rattle.viterbi.proofs.BlockSteps.{pattern_small, gains_read}
use Rattle.viterbi.proofs.lanes.gains_of.Goals as goal

pub returns-clause-lanes : goal.returns-clause-lanes
returns-clause-lanes c l b =
    let few = pattern_small c.args.block c.requires.block in
    let is = c.pattern_of-pattern.ensures.value in
    let fits : SFits w64 (get_or c.args.gains.now (8 * c.pattern_of-pattern.result + l) (pos 0)) =
    c.requires.fit _ (omega (arith, few, is, b)) in
    gains_read 8 c.args.gains.now (8 * c.pattern_of-pattern.result) l c.told-gains (omega (arith, few, is))
    b fits
    ∙ ap (λ (k : ℕ). get_or c.args.gains.now (8 * k + l) (pos 0)) is

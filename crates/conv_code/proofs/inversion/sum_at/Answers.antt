use Rattle.conv_code.proofs.Common.{◌∙◌, ℕ, false, get_or, parity_done}
use Rattle.conv_code.proofs.Loops.{sum_more}
use Rattle.conv_code.proofs.inversion.sum_at.Goals as goal

pub loop-place-preserved : goal.loop-place-preserved
loop-place-preserved c =
    sum_more c.args.symbols.now c.loop-place.sum c.get-sum.result c.args.places.now
    c.loop-place.place-index c.loop-place-test.true c.get-sum.ensures
    ∙ c.loop-place.invariant

pub returns : goal.returns
returns c =
    parity_done (λ (place : ℕ). get_or c.args.symbols.now place false) c.loop-place.sum _
    c.args.places.now c.loop-place.place-index c.loop-place-test.false c.loop-place.invariant

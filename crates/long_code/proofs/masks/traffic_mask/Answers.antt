use Rattle.long_code.proofs.Common.{◌≡◌, ℕ, refl, ap, ◌∙◌, arith, number, binary}
use Rattle.long_code.proofs.Fields.{place_below, first_bits, first_bits_lt, first_bits-more, traffic_mask_is}
use Rattle.long_code.proofs.masks.traffic_mask.Goals as goal

pub loop-place-init : goal.loop-place-init
unfolding binary
loop-place-init c = refl

pub overflow_shr-esn : goal.overflow_shr-esn
overflow_shr-esn c = place_below c.loop-place.place-index c.loop-place-test.true

pub loop-place-preserved : goal.loop-place-preserved
loop-place-preserved c =
    first_bits-more c.args.esn c.loop-place.mask c.from.result c.loop-place.place-index
    c.loop-place-test.true c.loop-place.invariant c.from.ensures

pub returns-clause-value : goal.returns-clause-value
returns-clause-value c =
    let all : c.loop-place.place-index ≡ 32 = omega arith in
    c.loop-place.invariant ∙ ap (λ (i : ℕ). number (first_bits c.args.esn i)) all ∙
    traffic_mask_is c.args.esn

pub returns-clause-below : goal.returns-clause-below
returns-clause-below c =
    let most = first_bits_lt c.args.esn c.loop-place.place-index (omega arith) in
    let is = c.loop-place.invariant in
    rw is most

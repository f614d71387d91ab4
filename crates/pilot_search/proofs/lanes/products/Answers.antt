use Rattle.pilot_search.proofs.Common.{ap, sample_at, signs_at, across, refl, AreUnits}
use Rattle.pilot_search.proofs.LaneLemmas.{all_units, are_products, keep, kept16, kept_short, kept_units, units_across}
use Rattle.pilot_search.proofs.lanes.products.Goals as goal

-- The lanes hold the group's products: the parts of samples and the signs are kept in 16 bits
-- without loss, and pair by pair they are summed up with the signs for the real parts, and with the
-- signs turned across for the imaginary ones.
pub returns : goal.returns
returns c =
    let first = c.args.at in
    let x = sample_at c.args.samples.now in
    let g = signs_at c.args.signs.now in
    let units : AreUnits g = all_units c.args.signs.now c.requires.units in
    let numbers = ap kept16 c.parts_of-numbers.ensures.value in
    let straight =
    kept_units g g first c.wide_signs-straight.result units (λ t. refl)
    c.wide_signs-straight.ensures in
    let turned =
    kept_units (λ t. across (g t)) (λ t. across (g t)) first c.turned_signs.result
    (units_across g units) (λ t. refl) (c.turned_signs.ensures g first units straight) in
    are_products c.args.samples.now c.args.signs.now first c.pair_sums.result
    c.pair_sums-2.result c.parts_of-numbers.ensures.short units
    (c.pair_sums.ensures (λ t. keep (x t)) g first (kept_short x) units numbers straight)
    (c.pair_sums-2.ensures (λ t. keep (x t)) (λ t. across (g t)) first (kept_short x)
    (units_across g units) numbers turned)

use Rattle.pilot_search.proofs.Common.{map, ap, sample_at, signs_at, across, both, AreUnits}
use Rattle.pilot_search.proofs.LaneLemmas.{all_units, are_products, keep, kept16, kept_short, kept_units, point_signs, turned_signs}
use Rattle.pilot_search.proofs.LaneLemmas.{units_across}
use Rattle.pilot_search.proofs.blocks.products_by.Goals as goal

-- The sums are those of the products: the samples' parts are kept as numbers of 16 bits, the signs
-- are 1 or -1, and pair by pair these and the turned signs give the real parts and the imaginary
-- ones.
pub returns : goal.returns
returns c =
    let first = c.args.at in
    let signs = map both c.args.points.now in
    let x = sample_at c.args.samples.now in
    let g = signs_at signs in
    let units : AreUnits g = all_units signs c.requires.units in
    let numbers = ap kept16 c.parts_of-numbers.ensures.value in
    let straight =
    kept_units (sample_at c.args.points.now) g first c.parts_of.result units
    (point_signs c.args.points.now) c.parts_of.ensures.value in
    let turned =
    kept_units (sample_at c.args.turned.now) (λ t. across (g t)) first c.parts_of-2.result (units_across g units)
    (λ t. turned_signs c.args.turned.now signs t c.requires.across) c.parts_of-2.ensures.value in
    are_products c.args.samples.now signs first c.pair_sums.result c.pair_sums-2.result
    c.parts_of-numbers.ensures.short units
    (c.pair_sums.ensures (λ t. keep (x t)) g first (kept_short x) units numbers straight)
    (c.pair_sums-2.ensures (λ t. keep (x t)) (λ t. across (g t)) first (kept_short x)
    (units_across g units) numbers turned)

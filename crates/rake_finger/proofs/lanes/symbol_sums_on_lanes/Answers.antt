use Rattle.rake_finger.proofs.Common.{ints, common_steps, ◌≤◌, ◌+◌, ◌*◌, ◌/◌, arith, length, kept, covered_signs}
use Rattle.pilot_search.proofs.LaneSums.{kept_near, products_kept, products_near, sums_kept, sums_whole}
use Rattle.rake_finger.proofs.SignedLanes.{group_products, length-covered}
use Rattle.rake_finger.proofs.lanes.symbol_sums_on_lanes.Goals as goal

pub covered_products-requires-clause-real : goal.covered_products-requires-clause-real
covered_products-requires-clause-real c =
    (kept_near c.args.samples.now c.args.signs.now (8 * c.loop-k.k) c.products.result.0
    c.products.result.1 c.products.ensures).real_bound

pub covered_products-requires-clause-imaginary : goal.covered_products-requires-clause-imaginary
covered_products-requires-clause-imaginary c =
    (kept_near c.args.samples.now c.args.signs.now (8 * c.loop-k.k) c.products.result.0
    c.products.result.1 c.products.ensures).imaginary_bound

pub with_products-requires-clause-more : goal.with_products-requires-clause-more
with_products-requires-clause-more c =
    kept_near c.args.samples.now c.args.signs.now (8 * c.loop-k.k) c.products.result.0
    c.products.result.1 c.products.ensures

-- The turned products that are added are small enough for their lanes: they are the products of the
-- samples with the signs covered by the row, and a row's sign changes no size.
pub with_products-requires-in-loop-k-clause-more : goal.with_products-requires-in-loop-k-clause-more
with_products-requires-in-loop-k-clause-more c =
    let gs = c.args.signs.now in
    let k = c.loop-k.k in
    let made = c.covered_products in
    products_near c.args.samples.now (covered_signs c.args.row.now 0 gs) (8 * k)
    (kept made.result.0) (kept made.result.1)
    (group_products c.args.samples.now gs c.args.row.now k c.products.result.0 c.products.result.1
    made.result.0 made.result.1 (omega (arith, c.loop-k-test.true, c.requires.room))
    c.requires.row_units c.products.ensures made.ensures.real made.ensures.imaginary)

-- Eight chips more are added on the lanes, as they are and with the row's signs: the signs of a
-- group are those of the row at its place in the symbol, and up to 4,096 groups no lane overflows.
pub loop-k-preserved : goal.loop-k-preserved
loop-k-preserved c =
    let xs = c.args.samples.now in
    let gs = c.args.signs.now in
    let row = c.args.row.now in
    let k = c.loop-k.k in
    let inv = c.loop-k.invariant in
    let one = c.with_products in
    let two = c.with_products-in-loop-k in
    let made = c.covered_products in
    let le : 8 * k + 8 ≤ length xs = omega (arith, c.loop-k-test.true) in
    let ge : 8 * k + 8 ≤ length gs = omega (arith, le, c.requires.room) in
    let ge' : 8 * k + 8 ≤ length (covered_signs row 0 gs) = omega (arith, ge, length-covered row 0 gs) in
    let few : k + 1 ≤ 4096 = omega (arith, le, c.requires.few) in
    record {
      plain = sums_kept xs gs (k + 1) one.result.0 one.result.1 few
          (one.ensures xs gs le ge inv.plain
          (products_kept xs gs (8 * k) c.products.result.0 c.products.result.1
          c.products.ensures));
      covered = sums_kept xs (covered_signs row 0 gs) (k + 1) two.result.0 two.result.1 few
          (two.ensures xs (covered_signs row 0 gs) le ge' inv.covered
          (group_products xs gs row k c.products.result.0 c.products.result.1 made.result.0
          made.result.1 ge c.requires.row_units c.products.ensures made.ensures.real
          made.ensures.imaginary));
    }

pub returns-clause-plain : goal.returns-clause-plain
returns-clause-plain c =
    sums_whole c.args.samples.now c.args.signs.now c.loop-k.k (length c.args.samples.now / 8) _ _
    c.sum_of_lanes.result (omega (arith, c.loop-k.auto.k-end, c.loop-k-test.false))
    (omega (arith, c.requires.whole)) c.loop-k.invariant.plain c.sum_of_lanes.ensures.value

pub returns-clause-covered : goal.returns-clause-covered
returns-clause-covered c =
    sums_whole c.args.samples.now (covered_signs c.args.row.now 0 c.args.signs.now) c.loop-k.k
    (length c.args.samples.now / 8) _ _ c.sum_of_lanes-2.result
    (omega (arith, c.loop-k.auto.k-end, c.loop-k-test.false)) (omega (arith, c.requires.whole))
    c.loop-k.invariant.covered c.sum_of_lanes-2.ensures.value

pub with_products-requires-clause-few : goal.with_products-requires-clause-few
with_products-requires-clause-few c = grind (ints, arith, common_steps)

pub loop-k-init : goal.loop-k-init
loop-k-init c = grind (ints, arith, common_steps)

pub with_products-requires-in-loop-k-clause-few : goal.with_products-requires-in-loop-k-clause-few
with_products-requires-in-loop-k-clause-few c = grind (ints, arith, common_steps)

pub covered_products-requires-clause-units : goal.covered_products-requires-clause-units
covered_products-requires-clause-units c = grind (ints, arith, common_steps)

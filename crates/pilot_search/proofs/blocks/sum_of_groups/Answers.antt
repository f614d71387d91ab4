use Rattle.pilot_search.proofs.Common.{ints, common_steps, ◌≡◌, ◌≤◌, ◌+◌, ◌*◌, ◌/◌, arith, length, length-map, map, to_z, w32, both}
use Rattle.pilot_search.proofs.LaneSums.{kept_near, products_kept, sums_kept, sums_whole}
use Rattle.pilot_search.proofs.blocks.sum_of_groups.Goals as goal

pub with_products-requires-clause-more : goal.with_products-requires-clause-more
with_products-requires-clause-more c =
    kept_near c.args.samples.now (map both c.args.points.now) (8 * c.loop-k.k)
    c.products_by.result.0 c.products_by.result.1 c.products_by.ensures

-- The lanes hold one group of eight samples more: the group lies within the samples and within the
-- points of the code, its products are those of the definition, and there are too few groups for a
-- lane to wrap.
pub loop-k-preserved : goal.loop-k-preserved
loop-k-preserved c =
    let xs = c.args.samples.now in
    let signs = map both c.args.points.now in
    let le : 8 * c.loop-k.k + 8 ≤ length xs = omega (arith, c.loop-k-test.true) in
    let long : length signs ≡ length c.args.points.now = length-map c.args.points.now both in
    let made = c.with_products.result in
    record {
      sums = sums_kept xs signs (c.loop-k.k + 1) made.0 made.1 (omega (arith, le, c.requires.few))
          (c.with_products.ensures xs signs le (omega (arith, le, long, c.requires.points))
          c.loop-k.invariant.sums
          (products_kept xs signs (8 * c.loop-k.k) c.products_by.result.0 c.products_by.result.1
          c.products_by.ensures));
    }

pub returns-clause-value : goal.returns-clause-value
returns-clause-value c =
    sums_whole c.args.samples.now (map both c.args.points.now) c.loop-k.k
    (length c.args.samples.now / 8) (map (to_z w32) c.loop-k.real)
    (map (to_z w32) c.loop-k.imaginary) c.sum_of_lanes.result
    (omega (arith, c.loop-k.auto.k-end, c.loop-k-test.false)) (omega (arith, c.requires.whole))
    c.loop-k.invariant.sums c.sum_of_lanes.ensures.value

pub with_products-requires-clause-few : goal.with_products-requires-clause-few
with_products-requires-clause-few c = grind (ints, arith, common_steps)

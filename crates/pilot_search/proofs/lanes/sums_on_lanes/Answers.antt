use Rattle.pilot_search.proofs.Common.{ints, common_steps, ◌≤◌, ◌+◌, ◌*◌, arith, length}
use Rattle.pilot_search.proofs.LaneSums.{kept_near, products_kept, sums_kept}
use Rattle.pilot_search.proofs.lanes.sums_on_lanes.Goals as goal

pub with_products-requires-clause-more : goal.with_products-requires-clause-more
with_products-requires-clause-more c =
    kept_near c.args.samples.now c.args.signs.now (8 * c.loop-k.k) c.products.result.0
    c.products.result.1 c.products.ensures

-- The lanes hold one group more: its eight samples and signs are there, its products are those of
-- the definition, and there are too few groups for a lane to wrap.
pub loop-k-preserved : goal.loop-k-preserved
loop-k-preserved c =
    let xs = c.args.samples.now in
    let gs = c.args.signs.now in
    let k = c.loop-k.k in
    let made = c.products.result in
    let le : 8 * k + 8 ≤ length xs = omega (arith, c.loop-k-test.true) in
    record {
      sums = sums_kept xs gs (k + 1) c.with_products.result.0 c.with_products.result.1
          (omega (arith, le, c.requires.few))
          (c.with_products.ensures xs gs le (omega (arith, le, c.requires.room))
          c.loop-k.invariant.sums
          (products_kept xs gs (8 * k) made.0 made.1 c.products.ensures));
    }

pub with_products-requires-clause-few : goal.with_products-requires-clause-few
with_products-requires-clause-few c = grind (ints, arith, common_steps)

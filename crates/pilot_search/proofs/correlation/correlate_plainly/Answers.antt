use Rattle.pilot_search.proofs.Common.{rules, ◌<◌, ◌≤◌, ◌+◌, ◌*◌, ◌^◌, arith, length, ◌∙◌, sym, unsigned_abs}
use Rattle.pilot_search.proofs.CorrelationSums.{correlation_with-more, correlation_with-all}
use Rattle.pilot_search.proofs.KeptSums.{kept_sum_back, kept_sum_fits, kept_sum_within}
use Rattle.pilot_search.proofs.correlation.correlate_plainly.Goals as goal

-- One sample more is in the sum: its product with its signs takes the place of the first one that
-- was left, and neither part of the sum grows by more than 65,536, so both fit into 64 bits.
pub loop-t-preserved : goal.loop-t-preserved
loop-t-preserved c =
    let inv = c.loop-t.invariant in
    let sum = c.loop-t.sum in
    let product = c.despread-product.result in
    let most = 65536 * (c.loop-t.t + 1) in
    let fits : most ≤ 2 ^ 31 = omega (arith, c.loop-t-test.true, c.requires.few) in
    let near_i : unsigned_abs sum.i + unsigned_abs product.i ≤ most =
    omega (arith, inv.i_bound, c.despread-product.ensures.i_bound) in
    let near_q : unsigned_abs sum.q + unsigned_abs product.q ≤ most =
    omega (arith, inv.q_bound, c.despread-product.ensures.q_bound) in
    let within : c.loop-t.t < length c.args.signs.now = omega (arith, c.requires.room) in
    record {
      whole = correlation_with-more c.args.samples.now c.args.signs.now c.loop-t.t sum product _ _
          c.loop-t-test.true within c.despread-product.ensures.value
          (kept_sum_back sum.i product.i (omega (arith, near_i, fits)))
          (kept_sum_back sum.q product.q (omega (arith, near_q, fits))) ∙ inv.whole;
      i_bound = kept_sum_within sum.i product.i most near_i (omega (arith, fits));
      q_bound = kept_sum_within sum.q product.q most near_q (omega (arith, fits));
    }

pub returns : goal.returns
returns c = record {
  value = sym (correlation_with-all c.args.samples.now c.args.signs.now c.loop-t.t c.loop-t.sum
      c.loop-t-test.false) ∙ c.loop-t.invariant.whole;
  i_bound = search rules;
  q_bound = search rules;
}

pub overflow_add-sum : goal.overflow_add-sum
overflow_add-sum c =
    kept_sum_fits c.loop-t.sum.i c.despread-product.result.i
    (omega (arith, c.loop-t.invariant.i_bound, c.despread-product.ensures.i_bound, c.loop-t-test.true, c.requires.few))

pub overflow_add-sum-in-loop-t : goal.overflow_add-sum-in-loop-t
overflow_add-sum-in-loop-t c =
    kept_sum_fits c.loop-t.sum.q c.despread-product.result.q
    (omega (arith, c.loop-t.invariant.q_bound, c.despread-product.ensures.q_bound, c.loop-t-test.true, c.requires.few))

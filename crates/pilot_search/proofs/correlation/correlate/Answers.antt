use Rattle.pilot_search.proofs.Common.{◌∙◌, ◌+◌, ◌*◌, ◌≤◌, arith, ap, length, List, ℤ, plus, unsigned_abs, Sample, correlation_with}
use Rattle.pilot_search.proofs.KeptSums.{kept_sum_fits, kept_sum_within, plus_kept}
use Rattle.pilot_search.proofs.correlation.correlate.Goals as goal

-- The groups' sum and that of the samples after them are the correlation, and both fit 64 bits.
pub returns : goal.returns
returns c =
    let groups = c.sums_on_lanes-groups.result in
    let others = c.correlate_plainly-others.result in
    let most = 65536 * length c.args.samples.now in
    let near_i : unsigned_abs groups.i + unsigned_abs others.i ≤ most = omega arith in
    let near_q : unsigned_abs groups.q + unsigned_abs others.q ≤ most = omega arith in
    record {
      value = plus_kept groups others (omega (arith, near_i, c.requires.few)) (omega (arith, near_q, c.requires.few))
          ∙ ap (plus groups) (c.correlate_plainly-others.ensures.value
          ∙ ap (λ (x : List Sample × List (ℤ × ℤ)). correlation_with x.0 x.1)
          (λ i. (c.split_at.ensures.back i, c.split_at-2.ensures.back i)))
          ∙ c.sums_on_lanes-groups.ensures.whole;
      i_bound = kept_sum_within groups.i others.i most near_i (omega (arith, c.requires.few));
      q_bound = kept_sum_within groups.q others.q most near_q (omega (arith, c.requires.few));
    }

pub overflow_add-result : goal.overflow_add-result
overflow_add-result c =
    let groups = c.sums_on_lanes-groups in
    let others = c.correlate_plainly-others in
    kept_sum_fits groups.result.i others.result.i (omega (arith, groups.ensures.i_bound, others.ensures.i_bound))

pub overflow_add-result-2 : goal.overflow_add-result-2
overflow_add-result-2 c =
    let groups = c.sums_on_lanes-groups in
    let others = c.correlate_plainly-others in
    kept_sum_fits groups.result.q others.result.q (omega (arith, groups.ensures.q_bound, others.ensures.q_bound))

use Rattle.pilot_search.proofs.Common.{ints, common_steps, ◌≡◌, ◌≤◌, ◌+◌, ◌*◌, ◌-◌, ◌%◌, ◌∙◌, ℕ, List, arith, ap, refl, take, drop, length}
use Rattle.pilot_search.proofs.Common.{unsigned_abs, length-drop, length-take-le, drop-drop, Sample, phase_correlation}
use Rattle.pilot_search.proofs.BoundLemmas.{none_added, sum_more}
use Rattle.pilot_search.proofs.KeptSums.{kept_sum_back, kept_sum_fits}
use Rattle.pilot_search.proofs.trying.sum_unless_below.Goals as goal

pub loop-j-init : goal.loop-j-init
loop-j-init c = record {
  within = omega arith;
  sum = none_added c.args.samples.now c.args.phase;
  rest = refl;
  left = omega arith;
}

-- Some chunks more are in the sum: they are the next samples that were left, correlated with the
-- code from their own phase on, and the sum stays within what the samples so far can give.
pub loop-j-preserved : goal.loop-j-preserved
loop-j-preserved c =
    let inv = c.loop-j.invariant in
    let xs = c.args.samples.now in
    let j = c.loop-j.j in
    let rest = c.loop-j.rest.now in
    let chunks = c.before_the_end-chunks.result in
    let some : chunks ≤ c.args.last - j = omega (arith, c.before_the_end-chunks.ensures.most, c.stride.ensures.most) in
    let room : 64 * chunks ≤ length rest = omega (arith, some, inv.left, inv.within, c.requires.last) in
    let from : c.from.result ≡ chunks = omega arith in
    let front : c.split_at.result.0.now ≡ take (64 * chunks) rest =
    c.split_at.ensures.front ∙ ap (λ (n : ℕ). take (64 * n) rest) from in
    let back : c.split_at.result.1.now ≡ drop (64 * chunks) rest =
    c.split_at.ensures.back ∙ ap (λ (n : ℕ). drop (64 * n) rest) from in
    let size : length c.split_at.result.0.now ≡ 64 * chunks =
    ap (λ (ys : List Sample). length ys) front ∙ length-take-le (64 * chunks) rest room in
    let part : c.correlation_by-part.result ≡
    phase_correlation (take (64 * chunks) rest) ((c.args.phase + 64 * j) % 32768) =
    c.correlation_by-part.ensures.value
    ∙ ap (λ (ys : List Sample). phase_correlation ys c.later-first.result) front
    ∙ ap (phase_correlation (take (64 * chunks) rest)) c.later-first.ensures in
    let place : 64 * j + 64 * chunks ≡ 64 * (j + chunks) = omega arith in
    let after : length c.split_at.result.1.now ≡ length rest - 64 * chunks =
    ap (λ (ys : List Sample). length ys) back ∙ length-drop (64 * chunks) rest in
    let near_i : unsigned_abs c.correlation_by-part.result.i ≤ 65536 * (64 * chunks) =
    omega (arith, c.correlation_by-part.ensures.i_bound, size) in
    let near_q : unsigned_abs c.correlation_by-part.result.q ≤ 65536 * (64 * chunks) =
    omega (arith, c.correlation_by-part.ensures.q_bound, size) in
    let few : 64 * (j + chunks) ≤ 32768 =
    omega (arith, some, c.loop-j-test.true, c.requires.last, c.requires.samples) in
    record {
      within = omega (arith, some, c.loop-j-test.true);
      sum = sum_more xs rest c.args.phase j chunks c.loop-j.sum c.correlation_by-part.result _ _
          (omega (arith, inv.left)) inv.rest inv.sum part near_i near_q
          (kept_sum_back c.loop-j.sum.i c.correlation_by-part.result.i (omega (arith, inv.sum.i_bound, near_i, few)))
          (kept_sum_back c.loop-j.sum.q c.correlation_by-part.result.q
          (omega (arith, inv.sum.q_bound, near_q, few)));
      rest = back ∙ ap (drop (64 * chunks)) inv.rest ∙ drop-drop (64 * chunks) (64 * j) xs
          ∙ ap (λ (n : ℕ). drop n xs) place;
      left = omega (arith, after, room, inv.left);
    }

pub returns-then-bound_of-limit : goal.returns-then-bound_of-limit
returns-then-bound_of-limit c = grind (ints, arith, common_steps)

pub overflow_add-sum : goal.overflow_add-sum
overflow_add-sum c =
    let few : length c.split_at.result.0.now ≤ 32768 = omega arith in
    kept_sum_fits c.loop-j.sum.i c.correlation_by-part.result.i
    (omega (arith, c.loop-j.invariant.sum.i_bound, c.correlation_by-part.ensures.i_bound, few))

pub overflow_add-sum-in-loop-j : goal.overflow_add-sum-in-loop-j
overflow_add-sum-in-loop-j c =
    let few : length c.split_at.result.0.now ≤ 32768 = omega arith in
    kept_sum_fits c.loop-j.sum.q c.correlation_by-part.result.q
    (omega (arith, c.loop-j.invariant.sum.q_bound, c.correlation_by-part.ensures.q_bound, few))

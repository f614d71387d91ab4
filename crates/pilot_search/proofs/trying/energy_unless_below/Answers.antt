use Rattle.pilot_search.proofs.Common.{◌≡◌, ◌<◌, ◌+◌, ◌*◌, ◌-◌, ◌/◌, ◌%◌, ◌∙◌, ℕ, List, arith, rules, ap, drop, length, common_steps, bound}
use Rattle.pilot_search.proofs.Common.{Sample, phase_correlation, magnitudes}
use Rattle.pilot_search.proofs.BoundLemmas.{bound_is, none_left, none_below, sum_whole}
use Rattle.pilot_search.proofs.trying.energy_unless_below.Goals as goal

pub returns-then-is_empty : goal.returns-then-is_empty
returns-then-is_empty c =
    let none : length c.args.samples.now ≡ 0 = (first_of (search rules, grind (arith, common_steps))) in
    none_left c.args.samples.now c.args.phase c.args.limit none

-- The energy that is answered is the phase's, and no bound is below the limit: the sum before the
-- last chunk and that chunk's correlation make the whole, and since bounds never rise, the one
-- before the last chunk bounds all.
pub returns : goal.returns
returns c =
    let xs = c.args.samples.now in
    let last : ℕ = (length xs - 1) / 64 in
    let some : 0 < length xs = (first_of (search rules, grind (arith, common_steps))) in
    let sum = c.in_ok-sum.sum in
    let tail : c.get.result ≡ magnitudes (drop (64 * last) xs) =
    c.get.ensures.value ∙ c.requires.tails last (omega (arith, some, c.requires.samples)) in
    let here : c.bound_of.result ≡ bound xs c.args.phase (64 * last) =
    bound_is xs c.args.phase (64 * last) c.get.result c.bound_of.result sum
    c.in_ok-sum.ensures.value tail c.bound_of.ensures in
    let from : c.from.result ≡ last = omega arith in
    let back : c.split_at.result.1.now ≡ drop (64 * last) xs =
    c.split_at.ensures.back ∙ ap (λ (n : ℕ). drop (64 * n) xs) from in
    let part : c.correlation_by-part.result ≡
    phase_correlation (drop (64 * last) xs) ((c.args.phase + 64 * last) % 32768) =
    c.correlation_by-part.ensures.value
    ∙ ap (λ (ys : List Sample). phase_correlation ys c.later.result) back
    ∙ ap (phase_correlation (drop (64 * last) xs)) c.later.ensures in (
      c.norm_of.ensures.value ∙
          sum_whole xs c.args.phase (64 * last) sum c.correlation_by-part.result c.joined.result
          c.in_ok-sum.ensures part c.joined.ensures.value,
      none_below xs c.args.phase c.args.limit last (omega arith)
          (omega (arith, here, c.if-bound_of-limit.false)),
    )

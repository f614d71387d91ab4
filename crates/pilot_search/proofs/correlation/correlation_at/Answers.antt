use Rattle.pilot_search.proofs.Common.{◌≡◌, ◌*◌, ◌≤◌, ◌∙◌, arith, rules, ap, take, drop, length, All-drop, plus, Pair, pilot_signs, IsUnit}
use Rattle.pilot_search.proofs.Common.{correlation_with, List, ℕ, ℤ, Sample}
use Rattle.pilot_search.proofs.CorrelationSums.{all_before, parted, units}
use Rattle.pilot_search.proofs.KeptSums.{kept_sum_fits, kept_sum_within, plus_kept}
use Rattle.pilot_search.proofs.correlation.correlation_at.Goals as goal

pub correlate-first-requires-clause-units : goal.correlate-first-requires-clause-units
correlate-first-requires-clause-units c =
    rw (c.split_at.ensures.back, c.table.ensures.value) (All-drop IsUnit c.from.result pilot_signs units)

pub correlate-rest-requires-clause-units : goal.correlate-rest-requires-clause-units
correlate-rest-requires-clause-units c = rw c.table-2.ensures.value units

-- the part before the code begins again
first_part : (samples before : List Sample) (ahead table : List (ℤ × ℤ)) (phase from n : ℕ)
    (sum : Pair) → sum ≡ correlation_with before ahead → before ≡ take n samples →
    ahead ≡ drop from table → table ≡ pilot_signs → from ≡ phase →
    sum ≡ correlation_with (take n samples) (drop phase pilot_signs)
first_part samples before ahead table phase from n sum is front back all at =
    is
    ∙ (λ i. correlation_with (front i) ((back ∙ (λ j. drop (at j) (all j))) i))

pub returns-then-is_empty-clause-value : goal.returns-then-is_empty-clause-value
returns-then-is_empty-clause-value c =
    let samples = c.args.samples.now in
    let past : length samples ≤ c.min.result = search rules in
    first_part samples _ _ _ c.args.phase c.from.result c.min.result _
    c.correlate-first.ensures.value c.split_at-2.ensures.front c.split_at.ensures.back
    c.table.ensures.value (omega arith)
    ∙ all_before samples c.args.phase c.min.result (omega arith) c.requires (omega arith) past

-- The correlation at a phase is the sum of two: the code repeats after 32,768 chips, so the first
-- samples meet its signs from the phase on, and those that are left meet its signs from the
-- beginning.
pub returns-clause-value : goal.returns-clause-value
returns-clause-value c =
    let samples = c.args.samples.now in
    let n = c.min.result in
    let first =
    first_part samples _ _ _ c.args.phase c.from.result n _ c.correlate-first.ensures.value
    c.split_at-2.ensures.front c.split_at.ensures.back c.table.ensures.value (omega arith) in
    let rest : c.correlate-rest.result ≡ correlation_with (drop n samples) pilot_signs =
    c.correlate-rest.ensures.value
    ∙ (λ i. correlation_with (c.split_at-2.ensures.back i) (c.table-2.ensures.value i)) in
    plus_kept c.correlate-first.result c.correlate-rest.result
    (omega (arith, c.correlate-first.ensures.i_bound, c.correlate-rest.ensures.i_bound))
    (omega (arith, c.correlate-first.ensures.q_bound, c.correlate-rest.ensures.q_bound))
    ∙ ap (λ (x : Pair). plus x c.correlate-rest.result) first
    ∙ ap (plus (correlation_with (take n samples) (drop c.args.phase pilot_signs))) rest
    ∙ parted samples c.args.phase n (omega arith) c.requires (omega arith)

pub returns-clause-i_bound : goal.returns-clause-i_bound
returns-clause-i_bound c =
    kept_sum_within c.correlate-first.result.i c.correlate-rest.result.i (65536 * length c.args.samples.now)
    (omega (arith, c.correlate-first.ensures.i_bound, c.correlate-rest.ensures.i_bound)) (omega (arith, c.requires))

pub returns-clause-q_bound : goal.returns-clause-q_bound
returns-clause-q_bound c =
    kept_sum_within c.correlate-first.result.q c.correlate-rest.result.q (65536 * length c.args.samples.now)
    (omega (arith, c.correlate-first.ensures.q_bound, c.correlate-rest.ensures.q_bound)) (omega (arith, c.requires))

pub overflow_add-result-2 : goal.overflow_add-result-2
overflow_add-result-2 c =
    kept_sum_fits c.correlate-first.result.q c.correlate-rest.result.q
    (omega (arith, c.correlate-first.ensures.q_bound, c.correlate-rest.ensures.q_bound))

pub overflow_add-result : goal.overflow_add-result
overflow_add-result c =
    kept_sum_fits c.correlate-first.result.i c.correlate-rest.result.i
    (omega (arith, c.correlate-first.ensures.i_bound, c.correlate-rest.ensures.i_bound))

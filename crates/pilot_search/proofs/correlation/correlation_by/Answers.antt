use Rattle.pilot_search.proofs.Common.{◌≡◌, ◌≤◌, ◌<◌, ◌+◌, ◌∙◌, ℕ, List, arith, ap, sym, drop, length, map, drop-map, take_all, All-drop}
use Rattle.pilot_search.proofs.Common.{IsUnit, pilot_signs, Sample, across, both, subst, All, correlation_with, phase_correlation}
use Rattle.pilot_search.proofs.CorrelationSums.{all_before, units}
use Rattle.pilot_search.proofs.correlation.correlation_by.Goals as goal

-- the points from a chip on have the signs from that chip on
ahead : (points back : List Sample) (n : ℕ) → back ≡ drop n points → map both points ≡ pilot_signs →
    map both back ≡ drop n pilot_signs
ahead points back n is all = ap (map both) is ∙ sym (drop-map both n points) ∙ ap (drop n) all

turned_ahead : (points back : List Sample) (n : ℕ) → back ≡ drop n points →
    map both points ≡ map across pilot_signs → map both back ≡ map across (drop n pilot_signs)
turned_ahead points back n is all =
    ap (map both) is ∙ sym (drop-map both n points) ∙ ap (drop n) all
    ∙ drop-map across n pilot_signs

pub sum_of_groups-requires-clause-units : goal.sum_of_groups-requires-clause-units
sum_of_groups-requires-clause-units c =
    subst (All IsUnit)
    (sym (ahead c.straight.result.now c.split_at.result.1.now c.from-from.result
    c.split_at.ensures.back c.straight.ensures.value))
    (All-drop IsUnit c.from-from.result pilot_signs units)

pub sum_of_groups-requires-clause-across : goal.sum_of_groups-requires-clause-across
sum_of_groups-requires-clause-across c =
    turned_ahead c.turned.result.now c.split_at-2.result.1.now c.from-from.result
    c.split_at-2.ensures.back c.turned.ensures.value
    ∙ sym (ap (map across)
    (ahead c.straight.result.now c.split_at.result.1.now c.from-from.result
    c.split_at.ensures.back c.straight.ensures.value))

-- The sum over the groups is the correlation at the phase: the points are the code's signs from the
-- phase on, and phase and samples together don't reach past the end of the code.
pub returns-clause-value : goal.returns-clause-value
returns-clause-value c =
    let samples = c.args.samples.now in
    let phase = c.args.phase in
    c.sum_of_groups.ensures.value
    ∙ ap (correlation_with samples)
    (ahead c.straight.result.now c.split_at.result.1.now c.from-from.result
    c.split_at.ensures.back c.straight.ensures.value)
    ∙ whole samples phase c.from-from.result (omega arith) (omega arith) c.requires (omega arith)
  where
    whole : (samples : List Sample) (phase from : ℕ) → from ≡ phase → phase < 32768 →
        length samples ≤ 32768 → phase + length samples ≤ 32768 →
        correlation_with samples (drop from pilot_signs) ≡ phase_correlation samples phase
    whole samples phase from e low few room =
        rw e (ap (λ (xs : List Sample). correlation_with xs (drop phase pilot_signs))
        (sym (take_all (length samples) samples (omega arith)))
        ∙ all_before samples phase (length samples) low few (omega arith) (omega arith))

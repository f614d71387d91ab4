-- Lemmas on the samples of a trial's cell, and the counts of the events that are heard in them.
use Rattle.cdma_replay.proofs.Common.{◌≡◌, ℕ, ◌+◌, ◌≤◌, List, ◌++◌, take, drop, refl, sym, ap, ◌∙◌, map, arith, take_all, take-add}
use Rattle.cdma_replay.proofs.Common.{of_sample, Sample, made_samples, samples_of, CellPlan, CellState, trial_plan, Sixteen, Event}
use Rattle.cdma_replay.proofs.Common.{best_phase, length-made, events, StandsFor, Tuning, Mobile, counts_of, summary, trial_line}
use Rattle.cdma_replay.proofs.Common.{trial_samples, trial_span, trial_tuning, Counts}
use Rattle.base_modulator.proofs.GivenSamples.{next_made}

-- ---- a handset that has taken samples, whose events were counted

-- the next samples of a cell were taken, and the events of all counted
pub counted_next : (t : Tuning) (one other : Mobile) (counts next : Counts) (plan same : CellPlan)
    (given later n : ℕ) → same ≡ plan →
    (let all = made_samples same in
    (before : List Event) → StandsFor t one (take given all) before → counts ≡ counts_of before →
    StandsFor t other (take (given + n) all) (events t (take (given + n) all))
    × (next ≡ counts_of (events t (take (given + n) all)))) →
    later ≡ given + n →
    (let had = take given (made_samples plan) in
    StandsFor t one had (events t had) × (counts ≡ counts_of (events t had))) →
    let has = take later (made_samples plan) in
    StandsFor t other has (events t has) × (next ≡ counts_of (events t has))
counted_next t one other counts next plan same given later n is told more was =
    let told' = rw is at told in
    rw more (told' (events t (take given (made_samples plan))) was.0 was.1)

-- ---- the cell's samples, piece by piece

-- the next samples after those before
pub made_more : (plan : CellPlan) (given n : ℕ) (out : List Sample) → out ≡ take n (drop given (made_samples plan)) →
    take given (made_samples plan) ++ out ≡ take (given + n) (made_samples plan)
made_more plan given n out is =
    ap (λ (ss : List Sample). take given (made_samples plan) ++ ss) is
    ∙ sym (take-add given n (made_samples plan))

-- all of them
pub made_all : (plan : CellPlan) (given : ℕ) → plan.link.samples ≤ given →
    take given (made_samples plan) ≡ made_samples plan
made_all plan given all = take_all given (made_samples plan) (omega (arith, length-made plan, all))

-- ---- the line

-- a trial's cell before its first sample
abbrev pub fresh_cell : ℕ → CellState
fresh_cell number = record { width = Sixteen; plan = trial_plan number; given = 0 }

pub trial_counted : (number : ℕ) → (trial_plan number).link.samples ≡ 2457600
unfolding trial_plan
trial_counted number = refl

pub span_fits : (cell : CellState) (number n : ℕ) → cell ≡ fresh_cell number → n ≡ 2048 →
    cell.given + n ≤ cell.plan.link.samples
span_fits cell number n is long = rw (is, long) (omega (arith, trial_counted number))

-- its first samples
pub span_is : (cell : CellState) (number n : ℕ) (out : List Sample) → cell ≡ fresh_cell number →
    n ≡ 2048 → map of_sample out ≡ take n (drop cell.given (samples_of cell.plan)) → out ≡ trial_span number
span_is cell number n out is long from = next_made (trial_plan number) 0 2048 out (rw (is, long) at from)

-- after them
pub after_span : (cell now : CellState) (number n : ℕ) → cell ≡ fresh_cell number → n ≡ 2048 →
    now ≡ record cell { given = cell.given + n } →
    (now.plan ≡ trial_plan number) × (take now.given (made_samples now.plan) ≡ trial_span number)
after_span cell now number n is long later = rw (later, is, long) (refl, refl)

pub line_is : (number : ℕ) (line : List ℕ) (samples phase : ℕ) (counts : Counts) →
    line ≡ summary number samples phase counts → samples ≡ (trial_plan number).link.samples →
    phase ≡ best_phase (trial_span number) → counts ≡ counts_of (events (trial_tuning number) (trial_samples number)) →
    line ≡ trial_line number
unfolding trial_line
line_is number line samples phase counts is samples_is phase_is counts_is =
    is
    ∙ ap (λ (n : ℕ). summary number n phase counts) samples_is
    ∙ ap (λ (p : ℕ). summary number (trial_plan number).link.samples p counts) phase_is
    ∙ ap (summary number (trial_plan number).link.samples (best_phase (trial_span number)))
    counts_is

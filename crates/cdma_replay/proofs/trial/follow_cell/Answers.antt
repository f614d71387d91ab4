use Rattle.cdma_replay.proofs.Common.{◌≡◌, ◌∙◌, List, [], ap, arith, length, rules, subst, sym, Sample, Header, Sixteen, made_samples}
use Rattle.cdma_replay.proofs.Common.{CellState, header_of, trial_plan, CellPlan, IsBestIn, best_phase, best_phase-only, events, StandsFor}
use Rattle.cdma_replay.proofs.Common.{Tuning, AreNearTo, Settings, tuning_for, counts_of, trial_settings, trial_span, trial_tuning}
use Rattle.cdma_replay.proofs.Counting.{after_span, line_is, span_fits, span_is, trial_counted}
use Rattle.cdma_replay.proofs.trial.follow_cell.Goals as goal

pub fill-requires : goal.fill-requires
fill-requires g c = span_fits c.args.cell.now c.args.number (length c.args.span.now) c.requires.cell c.requires.span

pub trial_settings-settings-requires : goal.trial_settings-settings-requires
trial_settings-settings-requires g c =
    c.header-header.ensures.value
    ∙ ap (λ (k : CellState). header_of k.width k.plan) c.requires.cell

pub boxed_handset-requires-clause-count : goal.boxed_handset-requires-clause-count
boxed_handset-requires-clause-count g c = omega (
  arith,
  ap (λ (s : Settings). s.count) c.trial_settings-settings.ensures,
  trial_counted c.args.number,
)

pub count_events-requires-clause-room : goal.count_events-requires-clause-room
count_events-requires-clause-room g c =
    rw c.deref_mut-mobile.ensures.value (omega (
      arith,
      c.in_ok-boxed.ensures.room,
      ap (λ (s : Settings). s.count) c.trial_settings-settings.ensures,
      trial_counted c.args.number,
      c.requires.span,
    ))

-- The line is the one of the trial's number: the samples that were searched are the link's first
-- 2,048, so the handset is tuned as the trial's is, and the counts of these samples and of the rest
-- together are those of all its events.
pub returns : goal.returns
returns g c =
    let number = c.args.number in
    let plan = trial_plan number in
    let out = c.fill.new.out in
    let settings = c.trial_settings-settings.result in
    let best = c.in_ok-best.best in
    let header : c.header-header.result ≡ header_of Sixteen plan =
    c.header-header.ensures.value ∙
    ap (λ (k : CellState). header_of k.width k.plan) c.requires.cell in
    let span : out ≡ trial_span number =
    span_is c.args.cell.now number (length c.args.span.now) out c.requires.cell c.requires.span
    c.fill.ensures.samples in
    let found : IsBestIn out 0 32768 best.phase best.energy = search rules in
    let near : AreNearTo out best.phase settings.fingers c.near-paths.result = search rules in
    let t = tuning_for settings out in
    let tuning : t ≡ trial_tuning number =
    ap (λ (s : Settings). tuning_for s out) c.trial_settings-settings.ensures
    ∙ ap (tuning_for (trial_settings number)) span in
    let told = c.count_events.ensures.told t [] []
    (rw c.deref_mut-mobile.ensures.value (c.in_ok-boxed.ensures.given out found near))
    c.none-counts.ensures.value in
    let following = after_span c.args.cell.now c.fill.new.self number (length c.args.span.now)
    c.requires.cell c.requires.span c.fill.ensures.state in
    let rest =
    c.count_rest.ensures t
    (subst (λ (xs : List Sample). StandsFor t c.count_events.new.mobile xs (events t xs)) (span ∙ sym following.1) told.0)
    (told.1 ∙ ap (λ (xs : List Sample). counts_of (events t xs)) (span ∙ sym following.1)) in
    line_is number c.summary.result c.header-header.result.count c.get.result
    c.count_rest.new.counts c.summary.ensures (ap (λ (h : Header). h.count) header)
    (c.get.ensures.value ∙ best_phase-only out best.phase best.energy found ∙ ap best_phase span)
    (rest
    ∙ ap (λ (k : Tuning). counts_of (events k (made_samples c.fill.new.self.plan))) tuning
    ∙ ap (λ (p : CellPlan). counts_of (events (trial_tuning number) (made_samples p))) following.0)

use Rattle.run_replies.proofs.Common.{◌≡◌, ◌-◌, ◌++◌, List, length, take, None, Some, sym, ap, ◌∙◌, subst, append-nil, rules, arith, Sample}
use Rattle.run_replies.proofs.Common.{take_rest, err_from_is_err_and, KeptTap, run_taps, events, StandsFor, Tuning, Event, HasTold}
use Rattle.run_replies.proofs.Handsets.{step_stands, told_all, told_more, told_none, told_part}
use Rattle.run_replies.proofs.handset_events.tell_events.Goals as goal

pub loop-event-init : goal.loop-event-init
loop-event-init g c = record {
  most = omega arith;
  room = omega arith;
  kept = c.requires.kept;
  told = λ (t : Tuning) (first : List KeptTap) (heard : List Sample) (given : List Event)
      (stands : StandsFor t c.args.mobile.now heard given)
      (following : g.T.KeepsTaps.kept c.args.taps.now ≡ run_taps first given).
      subst (λ (xs : List Sample). HasTold t first c.args.mobile.now (g.T.KeepsTaps.kept c.args.taps.now) given xs
      (g.K.Sink.written c.args.sink.now) (g.K.Sink.written c.args.sink.now))
      (sym (append-nil heard))
      (told_none t first c.args.mobile.now (g.T.KeepsTaps.kept c.args.taps.now) given heard
      (g.K.Sink.written c.args.sink.now) stands following);
  later = omega arith;
}

-- A step that gives no event took all samples that were left, and leaves no event of theirs untold.
-- So the taps have heard all events of these samples, and the sink has the whole text.
pub returns-in_default-clause-ok : goal.returns-in_default-clause-ok
returns-in_default-clause-ok g c t first heard stands following =
    let inv = c.loop-event.invariant in
    let taken = c.loop-event.taken in
    let samples = c.args.samples.now in
    let nothing : c.step-step.result.event ≡ None = search rules in
    let left = take_rest samples taken in
    let none = c.step-step.ensures.none nothing in
    told_all t first c.loop-event.mobile c.step-step.new.self _ heard samples taken
    c.step-step.result.taken _ _ (inv.told t first heard (events t heard) stands following) (none.0 ∙ ap length left)
    (step_stands t heard samples taken None nothing c.step-step.ensures.steps)
    (λ (before : List Event) (is : StandsFor t c.loop-event.mobile (heard ++ take taken samples) before).
    subst (λ (xs : List Sample). before ≡ events t ((heard ++ take taken samples) ++ xs)) left
    (none.1 t (heard ++ take taken samples) before is))

-- One event more is told: the handset now stands for the samples of this step and for this event
-- after those before it, and the taps wrote their lines of the event after the text so far.
pub loop-event-preserved : goal.loop-event-preserved
loop-event-preserved g c =
    let inv = c.loop-event.invariant in
    let taken = c.loop-event.taken in
    let samples = c.args.samples.now in
    let event = c.in-Some.event in
    let something : c.step-step.result.event ≡ Some event = search rules in
    record {
      most = search rules;
      room = search rules;
      kept = c.tell.ensures.kept;
      told = λ (t : Tuning) (first : List KeptTap) (heard : List Sample) (given : List Event)
          (stands : StandsFor t c.args.mobile.now heard given)
          (following : g.T.KeepsTaps.kept c.args.taps.now ≡ run_taps first given).
          told_more t first c.loop-event.mobile c.step-step.new.self _ _ given heard samples taken
          c.step-step.result.taken event _ _ _ (inv.told t first heard given stands following)
          (step_stands t heard samples taken (Some event) something c.step-step.ensures.steps)
          (search rules) (search rules);
      later = search rules;
    }

-- Where the taps can't write an event, the sink has the text of all events before it and a
-- beginning of this one's. That is a beginning of the whole text, since the event is the next one
-- that is heard in the samples.
pub returns-in_err-tell-clause-err : goal.returns-in_err-tell-clause-err
returns-in_err-tell-clause-err g c =
    let inv = c.loop-event.invariant in
    let taken = c.loop-event.taken in
    let samples = c.args.samples.now in
    let event = c.in-Some.event in
    let something : c.step-step.result.event ≡ Some event = search rules in
    let p = err_from_is_err_and c.from_residual.result c.from_residual.ensures.1 in
    rw p.1 (λ (t : Tuning) (first : List KeptTap) (heard : List Sample)
    (stands : StandsFor t c.args.mobile.now heard (events t heard))
    (following : g.T.KeepsTaps.kept c.args.taps.now ≡ run_taps first (events t heard)).
    told_part t first c.loop-event.mobile c.step-step.new.self _ heard samples taken
    c.step-step.result.taken event _ _ _ (inv.told t first heard (events t heard) stands following)
    (step_stands t heard samples taken (Some event) something c.step-step.ensures.steps) (search rules))

use Rattle.cdma_replay.proofs.Common.{subst, sym, on_err, on_ok, AppendsPrefix, BeginsAfter, Listener, IsFreshListener, Listening, Listens, told}
use Rattle.std.specs.Box.{with_value}
use Rattle.cdma_replay.proofs.Hearings.{findings_begin, findings_part, on_fresh, on_fresh_unheard, tuned_begins}
use Rattle.cdma_replay.specs.declared.listener.Listener.TheVariants as by
use Rattle.cdma_replay.proofs.listener.ListenerFileListener.begin.Goals as goal

-- Where nobody hears the file, what the first samples show is all of its text: it was written whole,
-- and so nothing is left to be told.
pub returns-in-Unheard-clause-ok : goal.returns-in-Unheard-clause-ok
returns-in-Unheard-clause-ok g c =
    let kept = g.T.KeepsTaps.kept c.args.taps.now in
    let found = c.in-Unheard.findings in
    let old = g.K.Sink.written c.args.sink.now in
    let new = g.K.Sink.written c.write.new.sink in
    rw c.in-Unheard.is
    (on_ok c.write.result _ _
    (λ written l fresh. on_fresh_unheard
    (λ (m : Listening). BeginsAfter Listens m (by.Unheard found) kept old new) l found kept fresh
    (findings_begin found kept old new written))
    c.write.ensures.ok)

-- Where that couldn't be written whole, the sink got a beginning of it, and so of the file's text.
pub returns-in-Unheard-clause-err : goal.returns-in-Unheard-clause-err
returns-in-Unheard-clause-err g c =
    let kept = g.T.KeepsTaps.kept c.args.taps.now in
    let found = c.in-Unheard.findings in
    let old = g.K.Sink.written c.args.sink.now in
    let new = g.K.Sink.written c.write.new.sink in
    rw c.in-Unheard.is
    (on_err c.write.result _ _
    (λ part l samples fresh. on_fresh_unheard
    (λ (m : Listening). AppendsPrefix old new (told m samples)) l found kept fresh
    (findings_part found samples old new part))
    c.write.ensures.err)

-- Where a handset hears the file, it begins as defined: before any sample it has given no event, so
-- what the taps hear is its pilot, and their text and what they keep follow from this event alone.
pub returns-in-Handset-clause-ok : goal.returns-in-Handset-clause-ok
returns-in-Handset-clause-ok g c =
    let kept = g.T.KeepsTaps.kept c.args.taps.now in
    let mobile = with_value c.in-Handset.mobile c.tell_pilot.new.mobile in
    on_ok c.tell_pilot.result _ _
    (λ begins l fresh. on_fresh
    (λ (l : Listening). BeginsAfter Listens l (by.Handset mobile)
    (g.T.KeepsTaps.kept c.tell_pilot.new.taps) (g.K.Sink.written c.args.sink.now)
    (g.K.Sink.written c.tell_pilot.new.sink)) l c.in-Handset.mobile kept
    (subst (λ (h : Listener). IsFreshListener l h kept) c.in-Handset.is fresh)
    (λ t stands.
    let begun = begins t (rw c.deref_mut.ensures.value stands) in
    record { written = begun.written; listens = begun.gives }))
    c.tell_pilot.ensures.ok

pub returns-in-Handset-clause-err : goal.returns-in-Handset-clause-err
returns-in-Handset-clause-err g c =
    let kept = g.T.KeepsTaps.kept c.args.taps.now in
    on_err c.tell_pilot.result _ _
    (λ part l samples fresh. on_fresh
    (λ (l : Listening). AppendsPrefix (g.K.Sink.written c.args.sink.now)
    (g.K.Sink.written c.tell_pilot.new.sink) (told l samples)) l c.in-Handset.mobile kept
    (subst (λ (h : Listener). IsFreshListener l h kept) c.in-Handset.is fresh)
    (λ t stands. part t samples (rw c.deref_mut.ensures.value stands)))
    c.tell_pilot.ensures.err

pub returns-in-Tuned-clause-ok : goal.returns-in-Tuned-clause-ok
returns-in-Tuned-clause-ok g c l fresh =
    let kept = g.T.KeepsTaps.kept c.args.taps.now in
    let held = g.K.Sink.written c.args.sink.now in
    subst (λ (h : Listener). BeginsAfter Listens l h kept held held) (sym c.in-Tuned.is)
    (tuned_begins l c.in-Tuned.field-0 kept held
    (subst (λ (h : Listener). IsFreshListener l h kept) c.in-Tuned.is fresh))

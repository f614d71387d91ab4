use Rattle.cdma_replay.proofs.Common.{◌++◌, subst, sym, on_err, on_ok, Listening, Listens, ListenerTells, GainsPrefix, Listener}
use Rattle.std.specs.Box.{with_value}
use Rattle.cdma_replay.proofs.Hearings.{on_handset, on_tuned, on_unheard, room_some, room_tuned, tells_nobody, tuned_part}
use Rattle.cdma_replay.proofs.Hearings.{tuned_tells}
use Rattle.cdma_replay.specs.declared.listener.Listener.TheVariants as by
use Rattle.cdma_replay.proofs.listener.ListenerFileListener.hear.Goals as goal

pub tell_events-requires : goal.tell_events-requires
tell_events-requires g c = record {
  room = rw c.deref_mut.ensures.value
      (room_some _ c.in-Handset.mobile _ c.in-Handset.is c.requires.room);
  kept = c.requires.kept;
}

-- If a handset receives the file, it reports what is defined: who listens by a handset is the taps
-- that heard its events so far, and for them the text, the taps and the handset after these samples
-- are those that `tell` promises.
pub returns-in-Handset-clause-ok : goal.returns-in-Handset-clause-ok
returns-in-Handset-clause-ok g c =
    let kept = g.T.KeepsTaps.kept c.args.taps.now in
    let mobile = with_value c.in-Handset.mobile c.tell_events.new.mobile in
    on_ok c.tell_events.result _ _
    (λ tells l heard is. on_handset
    (λ (l : Listening). ListenerTells Listens l (by.Handset mobile)
    (g.T.KeepsTaps.kept c.tell_events.new.taps) heard (heard ++ c.args.samples.now)
    (g.K.Sink.written c.args.sink.now) (g.K.Sink.written c.tell_events.new.sink)) l c.in-Handset.mobile kept heard
    (subst (λ (h : Listener). Listens l h kept heard) c.in-Handset.is is)
    (λ t taps stands following.
    let (more, gives) = tells t taps heard (rw c.deref_mut.ensures.value stands) following in
    record { more = more; listens = gives }))
    c.tell_events.ensures.ok

pub returns-in-Handset-clause-err : goal.returns-in-Handset-clause-err
returns-in-Handset-clause-err g c =
    let kept = g.T.KeepsTaps.kept c.args.taps.now in
    on_err c.tell_events.result _ _
    (λ tells l heard is. on_handset
    (λ (l : Listening). GainsPrefix l heard (heard ++ c.args.samples.now)
    (g.K.Sink.written c.args.sink.now) (g.K.Sink.written c.tell_events.new.sink)) l c.in-Handset.mobile kept heard
    (subst (λ (h : Listener). Listens l h kept heard) c.in-Handset.is is)
    (λ t taps stands following. tells t taps heard (rw c.deref_mut.ensures.value stands) following))
    c.tell_events.ensures.err

pub hear-requires : goal.hear-requires
hear-requires g c =
    let room = room_tuned _ c.in-Tuned.tuned _ c.in-Tuned.is c.requires.room in
    record { room = rw c.deref_mut-in-Tuned.ensures.value room }

-- Where the frames of one channel are heard, what is told is what is defined: who listens by such a
-- listener wants the text of that channel, which is what the listener promises to write, and the
-- taps hear nothing of it.
pub returns-in-Tuned-clause-ok : goal.returns-in-Tuned-clause-ok
returns-in-Tuned-clause-ok g c =
    let kept = g.T.KeepsTaps.kept c.args.taps.now in
    let tuned = with_value c.in-Tuned.tuned c.hear.new.self in
    on_ok c.hear.result _ _
    (λ tells l heard is. on_tuned
    (λ (l : Listening). ListenerTells Listens l (by.Tuned tuned) kept heard (heard ++ c.args.samples.now)
    (g.K.Sink.written c.args.sink.now) (g.K.Sink.written c.hear.new.sink)) l c.in-Tuned.tuned kept heard
    (subst (λ (h : Listener). Listens l h kept heard) c.in-Tuned.is is)
    (λ t channel text listens.
    tuned_tells (tells t channel text heard (rw c.deref_mut-in-Tuned.ensures.value listens))))
    c.hear.ensures.ok

pub returns-in-Tuned-clause-err : goal.returns-in-Tuned-clause-err
returns-in-Tuned-clause-err g c =
    let kept = g.T.KeepsTaps.kept c.args.taps.now in
    on_err c.hear.result _ _
    (λ tells l heard is. on_tuned
    (λ (l : Listening). GainsPrefix l heard (heard ++ c.args.samples.now)
    (g.K.Sink.written c.args.sink.now) (g.K.Sink.written c.hear.new.sink)) l c.in-Tuned.tuned kept heard
    (subst (λ (h : Listener). Listens l h kept heard) c.in-Tuned.is is)
    (λ t channel text listens.
    tuned_part (tells t channel text heard (rw c.deref_mut-in-Tuned.ensures.value listens))))
    c.hear.ensures.err

-- Clause `ok` holds where nobody hears the file: its text is that of the first samples whatever the
-- samples, so nothing is to be written for these, and the unchanged sink has all of it.
pub returns-in-Unheard-clause-ok : goal.returns-in-Unheard-clause-ok
returns-in-Unheard-clause-ok g c l heard is =
    let kept = g.T.KeepsTaps.kept c.args.taps.now in
    let held = g.K.Sink.written c.args.sink.now in
    let found = c.in-Unheard.field-0 in
    let all = heard ++ c.args.samples.now in
    subst (λ (h : Listener). ListenerTells Listens l h kept heard all held held) (sym c.in-Unheard.is)
    (on_unheard (λ (m : Listening). ListenerTells Listens m (by.Unheard found) kept heard all held held) l found
    kept heard (subst (λ (h : Listener). Listens l h kept heard) c.in-Unheard.is is)
    (λ text. tells_nobody text found kept heard all held))

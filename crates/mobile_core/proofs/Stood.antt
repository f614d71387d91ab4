-- What a handset stands for, step by step.
use Rattle.mobile_core.proofs.Common.{◌≡◌, ℕ, ◌+◌, ◌<◌, ◌≤◌, false, List, [], ◌∷◌, ◌++◌, length, refl, sym, ap, subst, ◌∙◌, arith, inl, inr}
use Rattle.mobile_core.proofs.Common.{Option, Some, None, IsTrue, is_some, list_any, ForSome, append_assoc, list_any-append, Sample, Best}
use Rattle.mobile_core.proofs.Common.{Held, HoldsLast, IsDueAt, events, EndFrom, HearsFollowed, IsFollowedDue, CheckForm, WaitFrom, AreNear}
use Rattle.mobile_core.proofs.Common.{first_of, mark_before, marks_at, followed_events_left, event_list, pilot_left, sync_events_left, Mark}
use Rattle.mobile_core.proofs.Common.{sets_mark, SetsMark, IsSoundSync, IsDueIn, Stands, left_of, HearsSync, HearsNext, Tuning, sync_stream}
use Rattle.mobile_core.proofs.Common.{Event, Pilot, Followed, SyncReceiver, ◌||◌, append-nil, before_next, from_next, due_inside, due_known}
use Rattle.mobile_core.proofs.Common.{none_known, sync_goes, mark_before_more, mark_later}
use Rattle.std.proofs.Math.Bool.{or-false}
use Rattle.mobile_core.proofs.ChannelsFollowed.{ends_later, followed_more, goes_on}
use Rattle.heard_events.proofs.EventsGrown.{heard_none}
use Rattle.mobile_core.proofs.EventsCome.{events_grown}
use Rattle.mobile_core.proofs.SyncHeard.{hears_more}
use Rattle.mobile_core.specs.SoundHandset.{IsSound}

-- where the pilot has been told, how many samples were taken doesn't matter
told_before : {pilot : Option Best} {n : ℕ} → pilot ≡ None → ForSome pilot (λ best. n ≡ 0)
told_before told best e =
    let both : None ≡ Some best = sym told ∙ e in
    absurd (cc)

-- a pilot that isn't due has been told
was_told : (pilot : Option Best) → ¬ IsTrue (is_some pilot) → pilot ≡ None
was_told None none = refl
was_told (Some best) none = absurd (none refl)

-- A handset that has taken nothing and given nothing stands for no samples: only the pilot is left to tell,
-- since no frame is known before any sample is taken, and its event is all that the definition has there.
pub stands_new : {t : Tuning} {pilot : Option Best} {ring : Held} {sync : SyncReceiver}
    {followed : Followed} → pilot_left pilot ≡ Pilot t.phase t.energy ∷ [] →
    HoldsLast ring [] → HearsSync t sync [] → HearsFollowed t followed None [] →
    IsSoundSync sync → sync.mark ≡ None → followed_events_left t None [] followed ≡ [] →
    Stands t t.count t.check30 pilot ring sync followed [] []
stands_new {t} {sync = sync} {followed = followed} untold holds hears follows sound unset closed =
    let clock = sync.received.clock in
    let is = hears.receives.clocked in
    let near = subst AreNear hears.receives.fingers_are sound.channel.near in
    let left = (sync_goes t clock.low is.timed clock.next [] 1 (before_next is)
    (λ k above. none_known t clock.low is.timed k (omega arith))).given (omega arith) in
    record {
      count_is = refl;
      check_is = refl;
      early = λ best e. refl;
      ring = holds;
      sync = hears;
      followed = subst (λ (m : Option Mark). HearsFollowed t followed m []) (sym unset) follows;
      noted = ap is_some unset;
      told = rw (untold, left, unset, closed)
          (ap (λ (es : List Event). Pilot t.phase t.energy ∷ es)
          (sym (heard_none t clock.low is.timed near)));
    }

module _ {t : Tuning} {count : ℕ} {check : CheckForm} {pilot : Option Best} {ring : Held}
    {sync : SyncReceiver} {followed : Followed} {heard : List Sample} {given : List Event}
    (st : Stands t count check pilot ring sync followed heard given) where
  -- The sync channel has nothing left to tell where no frame is due and the next one hasn't ended:
  -- every frame that is known within the samples has been heard.
  sync_given : ¬ IsDueAt t.count sync.received.clock → length heard < sync.received.clock.end →
      sync_events_left t heard sync.received.clock.next ≡ []
  sync_given none waits =
      let clock = sync.received.clock in
      let is = st.sync.receives.clocked in
      (sync_goes t clock.low is.timed clock.next heard (length heard + 1) (before_next is)
      (from_next is (length heard + 1) none (omega (arith, waits)))).given (omega arith)

  -- nothing is due
  module _ {decoder : ℕ} (sound : IsSound count ring decoder sync followed)
      (none : ¬ IsDueIn count pilot sync followed) where
    is_told : pilot ≡ None
    is_told = was_told pilot (λ d. none (inl d))

    pub sync_waits : ¬ IsDueAt t.count sync.received.clock
    sync_waits = subst (λ (n : ℕ). ¬ IsDueAt n sync.received.clock) st.count_is (λ d. none (inr (inl d)))

    pub others_wait : ¬ IsFollowedDue t.count followed
    others_wait = subst (λ (n : ℕ). ¬ IsFollowedDue n followed) st.count_is (λ d. none (inr (inr d)))

    near : AreNear (sync_stream t).fingers
    near = subst AreNear st.sync.receives.fingers_are sound.hears.channel.near

    others_wait_here : WaitFrom (length heard) followed
    others_wait_here = subst (λ (n : ℕ). WaitFrom n followed) st.ring.taken sound.others_wait

    -- Where nothing is due all events have been given, since the pilot has been told, and neither
    -- the sync channel nor another one has anything left before its next frame ends.
    pub all_given : given ≡ events t heard
    all_given =
        let taken = st.ring.taken in
        let left = sync_given sync_waits (omega (arith, taken, sound.waits)) in
        let others = (goes_on st.followed sound.follows others_wait (length heard + 1)
        (ends_later (length heard) followed others_wait_here)).given (omega arith) in
        let all : given ++ ([] ++ ([] ++ [])) ≡ events t heard = rw (ap pilot_left is_told, left, others) at st.told in
        sym (append-nil given) ∙ all

    -- The handset stands for more samples, up to the end of the frame that comes next: nothing is
    -- due, so all events were given, and the events that the samples add are what is left now.
    pub stands_taken : (more : List Sample) (kept : Held) → 0 < length more → length heard + length more ≤ count →
        length heard + length more ≤ sync.received.clock.end →
        EndFrom (length heard + length more) followed → HoldsLast kept (heard ++ more) →
        Stands t count check pilot kept sync followed (heard ++ more) given
    stands_taken more kept some within most ends holds =
        let clock = sync.received.clock in
        let is = st.sync.receives.clocked in
        let file = st.count_is in
        let gone = ap pilot_left is_told in
        let following = subst (λ (m : Option Mark). HearsFollowed t followed m heard)
        st.sync.marked st.followed in
        let grown = events_grown t clock.low is.timed near heard more clock.next followed some
        (before_next is) (from_next is (length heard + length more) sync_waits most) following
        sound.follows others_wait ends in
        record {
          count_is = file;
          check_is = st.check_is;
          early = told_before is_told;
          ring = holds;
          sync = hears_more st.sync more sync_waits (omega (arith, within, file)) most;
          followed = followed_more st.followed sound.follows others_wait near more some
              (omega (arith, within, file)) others_wait_here ends;
          noted = st.noted;
          told = rw (gone, all_given, st.sync.marked) (sym grown);
        }

  -- the pilot and the receivers change, and give an event or none
  stands_on : (untold : Option Best) (after : SyncReceiver) (others : Followed)
      (event : Option Event) → ForSome untold (λ best. length heard ≡ 0) →
      HearsSync t after heard → HearsFollowed t others after.mark heard →
      is_some after.mark ≡ (is_some sync.mark || list_any sets_mark (event_list event)) →
      event_list event ++ left_of t untold after others heard ≡ left_of t pilot sync followed heard →
      Stands t count check untold ring after others heard (given ++ event_list event)
  stands_on untold after others event early hears follows noted left = record {
    count_is = st.count_is;
    check_is = st.check_is;
    early = early;
    ring = st.ring;
    sync = hears;
    followed = follows;
    noted = noted
        ∙ ap (λ b. b || list_any sets_mark (event_list event)) st.noted
        ∙ sym (list_any-append sets_mark given (event_list event));
    told = append_assoc given (event_list event) (left_of t untold after others heard)
        ∙ ap (λ (es : List Event). given ++ es) left
        ∙ st.told;
  }

  -- the pilot is told
  pub stands_told : (best : Best) → pilot ≡ Some best →
      Stands t count check None ring sync followed heard (given ++ Pilot best.phase best.energy ∷ [])
  stands_told best is =
      stands_on None sync followed (Some (Pilot best.phase best.energy)) (told_before refl) st.sync
      st.followed (sym (or-false (is_some sync.mark))) (rw is refl)

  -- soft values of frames have come
  pub stands_come : (after : SyncReceiver) (others : Followed) → HearsSync t after heard →
      after.received.clock.next ≡ sync.received.clock.next → after.mark ≡ sync.mark →
      HearsFollowed t others sync.mark heard → followed_events_left t sync.mark heard others
      ≡ followed_events_left t sync.mark heard followed →
      Stands t count check pilot ring after others heard (given ++ [])
  stands_come after others hears next set follows left =
      stands_on pilot after others None st.early hears
      (subst (λ (m : Option Mark). HearsFollowed t others m heard) (sym set) follows)
      (ap is_some set ∙ sym (or-false (is_some sync.mark))) (rw (next, set, left) refl)

  -- a frame of the sync channel that is heard leaves the mark, or sets one that lies after
  pub heard_sets : (after : SyncReceiver) → HearsSync t after heard → IsSoundSync after →
      IsDueAt t.count sync.received.clock → after.received.clock.next ≡ sync.received.clock.next + 1 →
      SetsMark (length heard) sync.mark after.mark
  heard_sets after hears sound due next = by_mark sync.mark refl
    where
      -- A mark that is set stays as it was. Where none was set before and one is now, the frame
      -- just heard completed its message, and such a mark lies after the samples within which the
      -- message is known.
      by_mark : (before : Option Mark) → sync.mark ≡ before → SetsMark (length heard) before after.mark
      by_mark (Some m) e =
          let before = sym st.sync.marked ∙ e in
          let more = mark_before_more t heard sync.received.clock.next (due_inside st.sync.receives.clocked due) in
          inl (rw (hears.marked, next, more, before) refl)
      by_mark None e =
          inr (
            refl,
            λ m set.
                let k : ℕ = sync.received.clock.next in
                let is = st.sync.receives.clocked in
                let inside = due_inside is due in
                let known = due_known is due in
                let near = subst AreNear hears.receives.fingers_are sound.channel.near in
                let before = sym st.sync.marked ∙ e in
                let now : mark_before t heard (k + 1) ≡ Some m =
                sym (ap (mark_before t heard) next) ∙ sym hears.marked ∙ set in
                let first : first_of (marks_at t heard k) ≡ Some m =
                rw (mark_before_more t heard k inside, before) at now in
                let later = mark_later t heard k sync.received.clock.low near is.timed inside m first in
                omega (arith, later, known),
          )

  -- After the sync channel's due frame was heard the handset stands with the event that it gave: the event
  -- and what is left of the sync channel are what was left of it before, and the others have the same left.
  pub stands_heard : (after : SyncReceiver) (others : Followed) (event : Option Event) →
      pilot ≡ None → HearsNext t heard sync after event → HearsFollowed t others after.mark heard →
      followed_events_left t after.mark heard others
      ≡ followed_events_left t sync.mark heard followed →
      Stands t count check pilot ring after others heard (given ++ event_list event)
  stands_heard after others event told next follows left =
      let later = sync_events_left t heard after.received.clock.next in
      let following = followed_events_left t sync.mark heard followed in
      stands_on pilot after others event st.early next.hears follows next.noted
      (rw (told, left)
      (sym (append_assoc (event_list event) later following)
      ∙ ap (λ (es : List Event). es ++ following) next.left))

  -- what is due of the other channels has been heard: a bit, or a frame
  pub stands_followed : (others : Followed) (event : Option Event) → pilot ≡ None →
      ¬ IsDueAt count sync.received.clock → length heard < sync.received.clock.end →
      list_any sets_mark (event_list event) ≡ false → HearsFollowed t others sync.mark heard →
      event_list event ++ followed_events_left t sync.mark heard others
      ≡ followed_events_left t sync.mark heard followed →
      Stands t count check pilot ring sync others heard (given ++ event_list event)
  stands_followed others event told none waits unset follows left =
      stands_on pilot sync others event st.early st.sync follows (rw unset (sym (or-false (is_some sync.mark))))
      (rw (told, sync_given (rw st.count_is at none) waits) left)

use Rattle.mobile_core.proofs.Common.{◌≡◌, ℕ, ◌+◌, ◌-◌, ◌++◌, ◌∷◌, ◌∙◌, ◌||◌, [], ap, refl, sym, arith, is_some, length, list_any, map}
use Rattle.mobile_core.proofs.Common.{frames_with, frame_start, frames_before, frames_open, heard_in, events_of, sync_stream, piece, List}
use Rattle.mobile_core.proofs.Common.{frame_own_bits, capsule_ending, first_of, marks_of, marks_at, heard_at, sync_capsule_at, option_or}
use Rattle.mobile_core.proofs.Common.{Event, sync_events_left, sets_mark, due_inside, due_known, start_before, receives_heard, left_next}
use Rattle.mobile_core.proofs.Common.{frames_before_more, frames_open-more, mark_before_more, noted_event}
use Rattle.mobile_core.proofs.SyncHeard.{either, starts_is}
use Rattle.mobile_core.proofs.sync_receiver.SyncReceiver.hear_next.Goals as goal

-- The next frame of the sync channel is heard as it is defined: its bits come after those of the
-- frames before it, the capsule that they end is read as a message, the mark counts from the frame
-- in which the message began, and the event is the first of those that were left.
pub returns-clause-hears : goal.returns-clause-hears
unfolding frame_own_bits heard_at sync_capsule_at marks_at
returns-clause-hears c = λ t heard at' check d st.
    let r = c.args.self.now in
    let s = sync_stream t in
    let next : ℕ = r.received.clock.next in
    let is = st.receives.clocked in
    let inside = due_inside is d in
    let bits = c.own_bits-frame.result in
    let frames : ℕ = c.with_frame-self.result in
    let first : ℕ = c.message_start.result in
    let told = c.message_in-told.result in
    let before = frames_before t heard next in
    let capsule = c.push-capsule.ensures in
    let own = c.own_bits-frame.ensures.value t.count s heard st.receives refl d in
    let all : frames_before t heard (next + 1) ≡ before ++ bits ∷ [] =
    rw own (frames_before_more t heard next inside) in
    let here : told ≡ heard_at t heard next =
    c.message_in-told.ensures
    ∙ ap (λ form. heard_in form c.push-capsule.result) check
    ∙ ap (heard_in t.check30) (capsule.capsule before st.framed ∙ ap (λ fs. capsule_ending (map piece fs)) (sym all)) in
    let opened : frames ≡ frames_open t heard (next + 1) =
    c.with_frame-self.ensures
    ∙ ap (λ b. frames_with b r.message_frames) (starts_is bits c.get.result c.get.ensures)
    ∙ ap (frames_with (piece bits).starts) st.opened
    ∙ sym (frames_open-more t heard next bits all) in
    let start : ℕ → ℕ = λ n. frame_start s (next + 1 - n) in
    let started = rw c.hear.ensures.value at c.message_start.ensures.value in
    let come = c.requires.come in
    let first_is : first ≡ start (frames_open t heard (next + 1)) =
    started ∙ start_before is (next + 1 - frames) (omega (arith, come)) ∙ ap start opened in
    let marks : marks_of first told ≡ marks_at t heard next =
    ap (λ n. marks_of n told) first_is
    ∙ ap (marks_of (start (frames_open t heard (next + 1)))) here in
    let set = c.mark_with-self.ensures.value in
    let event = c.event_in.ensures.value ∙ ap (λ n. events_of n told) at' in
    rw c.hear.ensures.value (record {
      hears = record {
        receives = receives_heard st.receives d;
        framed = rw all (capsule.stands before st.framed);
        opened = opened;
        marked = set
            ∙ ap (λ ms. option_or r.mark (first_of ms)) marks
            ∙ ap (λ m. option_or m (first_of (marks_at t heard next))) st.marked
            ∙ sym (mark_before_more t heard next inside);
      };
      left = ap (λ (es : List Event). es ++ sync_events_left t heard (next + 1))
          (event ∙ ap (events_of (length heard)) here)
          ∙ sym (left_next t r.received.clock.low is.timed heard next inside (due_known is d));
      noted = ap is_some set
          ∙ either r.mark (first_of (marks_of first told))
          ∙ ap (λ b. is_some r.mark || b) (noted_event told first (length heard))
          ∙ ap (λ (es : List Event). is_some r.mark || list_any sets_mark es) (sym event);
    })

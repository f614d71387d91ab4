-- What the receiver of the sync channel stands for, step by step.
use Rattle.mobile_core.proofs.Common.{frames_before_sooner, frames_before_none, mark_before_sooner, mark_before_none, frames_open-none, ◌≡◌}
use Rattle.mobile_core.proofs.Common.{frames_before, receives_more, SyncReceiver, frames_open, sync_stream, before_next, is_in_file, length}
use Rattle.mobile_core.proofs.Common.{slice_get, option_or, HearsSync, Continued, Receives, is_some, IsDueAt, Option, Sample, Tuning, false}
use Rattle.mobile_core.proofs.Common.{arith, piece, Bool, ◌||◌, List, ◌++◌, refl, Some, None, Mark, ◌+◌, ◌<◌, ◌≤◌, ◌∷◌, sym, ◌∙◌, [], ℕ}
use Rattle.rake_finger.proofs.FrameTimes.{outside_low}
use Rattle.sync_message.specs.Framing as framing

pub either : (m n : Option Mark) → is_some (option_or m n) ≡ (is_some m || is_some n)
either None n = refl
either (Some m) n = refl

-- the first bit of a frame
pub starts_is : (bits : List Bool) (begins : Bool) → slice_get bits 0 ≡ Some begins → begins ≡ (piece bits).starts
starts_is [] begins read = absurd (cc)
starts_is (b ∷ bits) begins read = cc

-- Before any sample is taken the receiver stands for nothing heard: no frame before its first one
-- lies in the file, so there are no bits, no message is under way and no mark is set.
pub hears_new : (t : Tuning) (r : SyncReceiver) → Receives t.count (sync_stream t) r.received [] →
    r.received.clock.next ≡ r.received.clock.low → framing.CapsuleStandsFor r.framer [] →
    r.message_frames ≡ 0 → r.mark ≡ None → HearsSync t r []
hears_new t r receives next framed frames none =
    let clock = r.received.clock in
    let timed = receives.clocked.timed in
    let no_frames : frames_before t [] clock.next ≡ [] =
    frames_before_none t [] clock.low clock.next timed (omega (arith, next)) in
    let outside : (k : ℕ) → k < clock.next → is_in_file t.count (sync_stream t) k ≡ false =
    λ k less. outside_low (sync_stream t) timed k (omega (arith, next)) in
    record {
      receives = receives;
      framed = rw no_frames framed;
      opened = frames ∙ sym (frames_open-none t [] clock.next no_frames);
      marked = none ∙ sym (mark_before_none t [] clock.next outside);
    }

module _ {t : Tuning} {r : SyncReceiver} {heard : List Sample} (st : HearsSync t r heard) where
  -- The receiver has heard more samples, up to the end of its next frame: the frames before that
  -- one are known, so they give the same bits and the same mark as before.
  pub hears_more : (more : List Sample) → ¬ IsDueAt t.count r.received.clock → length heard + length more ≤ t.count →
      length heard + length more ≤ r.received.clock.end → HearsSync t r (heard ++ more)
  unfolding frames_open
  hears_more more none within most =
      let clock = r.received.clock in
      let is = st.receives.clocked in
      let frames = frames_before_sooner t is.timed heard more clock.next (before_next is) in
      let marks = mark_before_sooner t clock.low is.timed heard more clock.next (before_next is) in
      record {
        receives = receives_more st.receives more none within most;
        framed = rw frames st.framed;
        opened = rw frames st.opened;
        marked = st.marked ∙ sym marks;
      }

  -- one frame more has come
  pub hears_come : (received : Continued) → received.clock.next ≡ r.received.clock.next →
      Receives t.count (sync_stream t) received heard →
      HearsSync t (record r { received = received }) heard
  hears_come received next receives = record {
    receives = receives;
    framed = rw next st.framed;
    opened = rw next st.opened;
    marked = rw next st.marked;
  }

-- What always holds of the receiver of a traffic channel, as it goes on.
use Rattle.mobile_core.proofs.Common.{◌≡◌, ℕ, ◌+◌, ◌*◌, ◌^◌, ◌<◌, ◌≤◌, true, List, length, ℤ, ap, ◌∙◌, arith, subst, Held, sum_by, Finger}
use Rattle.mobile_core.proofs.Common.{unsigned_abs, PowerSofts, Data, take, AreClose, legs_close, all_fingers, legs_of, frame_end, Tuning}
use Rattle.mobile_core.proofs.Common.{IsSoundTraffic, Mark, SetsKeeper, Traffic, TrafficReceiver, All, IsInRing, frame_chips, IsHeldFrom}
use Rattle.mobile_core.proofs.Common.{IsTunedIn, frame_taken, begun_in_ring, close_ends, all_some, legs_are_close}
use Rattle.reception.specs.Sound.{IsSoundReceiver}

module _ {r : TrafficReceiver} (is : IsSoundTraffic r) where
  -- the samples of its fingers are in the ring when the frame has just ended
  pub legs_held : (ring : Held) → ring.room ≡ 65536 → ring.taken ≡ r.frames.clock.end →
      IsHeldFrom ring r.legs r.phase r.near r.frames.clock.start
  legs_held ring room ended =
      let frames = is.frames in
      record {
        some = is.legs.some;
        few = is.legs.few;
        least = is.set.least;
        most = is.set.most;
        close = is.legs.legs_close;
        rows = is.legs.legs_rows;
        held = subst (All (IsInRing ring Data r.frames.clock.start)) is.fingers_are
            (begun_in_ring ring Data r.frames.clock.start r.frames.fingers frames.close.close
            frames.begun room (ended ∙ frames.ends));
      }

  -- a frame's soft values, and on to the frame after it, in a file
  pub sound_taken : (softs : List ℤ) (power : PowerSofts) → sum_by unsigned_abs softs ≤ 3 * 2 ^ 60 → power.count ≤ 6 →
      r.frames.clock.have ≡ r.frames.clock.next → r.frames.clock.end ≤ 2 ^ 26 →
      IsSoundReceiver (frame_taken softs power r).frames → IsSoundTraffic (frame_taken softs power r)
  sound_taken softs power small few idle early frames =
      let ends = is.frames.ends in
      let low = (close_ends r.frames.clock.start r.frames.fingers is.frames.close).0 in
      let least = is.start_least in
      let chips = ap frame_chips is.frames.form_is in
      record {
        set = is.set;
        frames = frames;
        fingers_are = is.fingers_are;
        have_most = omega (arith, idle);
        start_least = omega (arith, least, chips);
        start_most = omega (arith, ends, low, early, chips);
        legs = is.legs;
        small = small;
        subchannels = few;
      }

-- other pilots' frame ends after a place near its first sample
pub waits_tuned : (start end n : ℕ) (fingers : List Finger) → AreClose fingers →
    end ≡ frame_end fingers Data start → n ≤ start + 226 → n < end
waits_tuned start end n fingers close ends few =
    let low = (close_ends start fingers close).0 in
    omega (arith, low, ends, few)

-- after a moment the active pilots' fingers are close
pub passed_close : {t : Tuning} {traffic : Traffic} {m mark : Mark} {r : TrafficReceiver} →
    IsTunedIn t traffic m mark r.phase r.near r.frames.scrambling → IsSoundTraffic r →
    (k : SetsKeeper) → k.mark ≡ m → 1 ≤ length (legs_of k.mark k.sets) → legs_close (legs_of k.mark k.sets) ≡ true →
    AreClose (all_fingers t.phase t.deltas (legs_of m k.sets))
passed_close {t} {r = r} tuned is k mark some close =
    let legs = legs_of k.mark k.sets in
    let paths = take r.near.count r.near.deltas in
    subst (λ (x : Mark). AreClose (all_fingers t.phase t.deltas (legs_of x k.sets))) mark
    (subst (λ (ds : List ℤ). AreClose (all_fingers t.phase ds legs)) tuned.deltas_are
    (record {
      some = all_some t.phase paths legs some is.set.path_some;
      close = legs_are_close t.phase paths legs is.set.paths close;
    }))

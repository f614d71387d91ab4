-- The meaning of a traffic channel's receiver and its pilot sets, as they return what has come.
use Rattle.mobile_core.proofs.Common.{◌≡◌, ℕ, ◌+◌, ◌<◌, ◌≤◌, List, [], ◌∷◌, ◌++◌, Bool, true, false, length, refl, sym, ap, ◌∙◌, arith, inl}
use Rattle.mobile_core.proofs.Common.{subst, Option, None, Some, inr, ◌==◌, if◌then◌else◌, option_to_list, cases_lt, Sample, Decoded, at_of}
use Rattle.mobile_core.proofs.Common.{PagingMessage, accepted_of, direction_fault, Standing, unless_refused, with_neighbors, DirectionFault}
use Rattle.mobile_core.proofs.Common.{with_thresholds, Accepted, CapsuleStandsFor, TrafficBody, legs_of, legs_by, moment_place, all_noted}
use Rattle.mobile_core.proofs.Common.{body_noted, moment_from, moments_before, noted, noted_with, page_noted, system_thresholds, signal_at}
use Rattle.mobile_core.proofs.Common.{capsule_with, signaling_message_at, message_events, signal_in, signal_of, signals_before, GivesFirst}
use Rattle.mobile_core.proofs.Common.{HearsTraffic, HearsWith, IsSoundHandoff, noted_by, told_left_with, frame_known, Tuning, Leg, kept_in}
use Rattle.mobile_core.proofs.Common.{sets_left_of, clock_after_frame, Event, Mark, Traffic, SpelledSignal, SoftHandoff, signals_more}
use Rattle.mobile_core.proofs.Common.{told_left, told_next, power_bits_at, decoded_at, frame_event, frame_heard as heard_frame}
use Rattle.mobile_core.proofs.FramesHeard.{closes, due_inside, left_unkept}
use Rattle.paging_message.specs.declared.message.PagingMessage.TheVariants as pages
use Rattle.traffic_message.specs.declared.body.TrafficBody.TheVariants as bodies
use Rattle.heard_events.specs.declared.event.Event.TheVariants as events

-- WHAT AN EVENT CHANGES LEAVES THE ACTIVE PILOTS
refused_legs : (m : Mark) (fault : Option DirectionFault) (direction : Accepted) (s : Standing) →
    legs_of m (unless_refused fault direction s) ≡ legs_of m s
refused_legs m None direction s = refl
refused_legs m (Some fault) direction s = refl

chosen_legs : (m : Mark) (b : Bool) (s s' : Standing) → legs_of m s ≡ legs_of m s' →
    legs_of m (if b then s else s') ≡ legs_of m s'
chosen_legs m true s s' same = same
chosen_legs m false s s' same = refl

page_legs : (m : Mark) (pn : ℕ) (message : PagingMessage) (s : Standing) →
    legs_of m (page_noted pn message s) ≡ legs_of m s
page_legs m pn (pages.System f) s = chosen_legs m (f.pn == pn) (with_thresholds (system_thresholds f) s) s refl
page_legs m pn (pages.Neighbors f) s = chosen_legs m (f.pn == pn) (with_neighbors f.pns s) s refl
page_legs m pn message s = refl

body_legs : (m : Mark) (first : ℕ) (body : TrafficBody) (s : Standing) →
    legs_of m (body_noted first body s) ≡ legs_of m s
body_legs m first (bodies.Handoff f) s = refused_legs m (direction_fault f) (accepted_of first f) s
body_legs m first body s = refl

pub noted_legs : (m : Mark) (pn first : ℕ) (event : Event) (s : Standing) →
    legs_of m (noted_with pn first event s) ≡ legs_of m s
noted_legs m pn first (events.Paging n capsule message) s = page_legs m pn message s
noted_legs m pn first (events.Traffic n capsule message) s = body_legs m first message.body s
noted_legs m pn first event s = refl

-- how many moments lie before a number of samples
pub moments_are : (m : Mark) (j n : ℕ) → n ≤ moment_place m (j + 1) →
    (0 < j → moment_place m j < n) → moments_before m n ≡ j
moments_are m j n early following =
    elim (cases_lt 0 j) [
      | inl some ↦ let b = following some in omega (arith, early, b)
      | inr none ↦ omega (arith, early, none)
    ]

-- THE SETS TAKE WHAT AN EVENT TELLS
-- The pilot sets stand for the same with one event of the paging channel or the traffic channel
-- noted: it ends at the samples taken so far, so it is noted for the moment that comes next, and no
-- active pilot changes before that.
pub hears_noted : {t : Tuning} {traffic : Traffic} {m : Mark} {heard : List Sample}
    {kept : ℕ → Standing} {r : SoftHandoff} {pages : List Event} (event : Event) →
    HearsWith t traffic m r heard (event ∷ pages) kept → at_of event ≡ length heard →
    HearsWith t traffic m (noted_by event r) heard pages kept
hears_noted {t} {traffic} {m} {heard} {kept} {r} {pages} event st at' =
    let j : ℕ = r.sets.passed in
    let left = told_left_with t traffic m heard r.receiver kept in
    let before = moments_are m j (length heard) st.among.coming (st.following event (pages ++ left) refl) in
    let first : j + 1 ≡ moment_from m (length heard) = omega (arith, before) in
    let same : noted_with r.sets.mark.pilot (r.sets.mark.time + (j + 1)) event r.sets.sets
    ≡ noted m event r.sets.sets =
    ap (λ (x : Mark). noted_with x.pilot (x.time + (j + 1)) event r.sets.sets) st.tuned.mark_is
    ∙ ap (λ (k : ℕ). noted_with m.pilot (m.time + k) event r.sets.sets) (first ∙ ap (moment_from m) (sym at')) in
    record {
      tuned = st.tuned;
      among = st.among;
      frames = st.frames;
      close = st.close;
      legs_are = st.legs_are;
      pilots_are = noted_legs m r.sets.mark.pilot (r.sets.mark.time + (j + 1)) event r.sets.sets
          ∙ st.pilots_are;
      following = λ e rest is some. st.following event (pages ++ left) refl some;
      sets_are = ap (λ (s : Standing). all_noted m (pages ++ left) s) same ∙ st.sets_are;
    }

-- THE FRAME THAT IS DUE
-- It was heard so, and its event is the first of those left; the framer has taken its signaling,
-- and gives the message that this completes, which follows.
module _ {t : Tuning} {traffic : Traffic} {m : Mark} {r : SoftHandoff} {heard : List Sample}
    (st : HearsTraffic t traffic m r heard []) (sound : IsSoundHandoff r)
    (come : r.receiver.frames.clock.next < r.receiver.frames.clock.have) (empty : r.receiver.kept ≡ None) where
  abbrev legs : ℕ → List Leg
  legs = legs_by traffic m (kept_in t traffic m r heard)

  abbrev next : ℕ
  next = r.receiver.frames.clock.next

  -- A frame that is heard is the first of the events that were left: it is the next frame in the
  -- file, with its own power control bits, the message that it ends is kept to be told next, and
  -- what is left then is what was left without the frame.
  pub hears_heard : (frame : Decoded) (told : List Bool) (framer : Option (List Bool))
      (message : Option SpelledSignal) → frame ≡ decoded_at t traffic m legs heard next →
      told ≡ power_bits_at t traffic m legs heard next →
      ((signals : List (List Bool)) → CapsuleStandsFor r.receiver.framer signals →
      CapsuleStandsFor framer (signals ++ option_to_list (signal_of frame))) →
      ((signals : List (List Bool)) → CapsuleStandsFor r.receiver.framer signals →
      message ≡ signal_in t.check16 (capsule_with signals (signal_of frame))) →
      GivesFirst t traffic m heard r
      (record r {
        receiver = record r.receiver {
          frames = record r.receiver.frames { clock = clock_after_frame r.receiver.frames.clock };
          framer = framer;
          kept = message;
        };
      }) (frame_event (length heard) frame told ∷ [])
      (frame_event (length heard) frame told ∷ [])
  unfolding signal_at signaling_message_at
  hears_heard frame told framer message frame_is told_is takes gives =
      let n : ℕ = length heard in
      let before = signals_before t traffic m legs heard next in
      let inside = due_inside st sound come in
      let known = (st.frames.come come).known in
      let most = sound.receiver.have_most in
      let order : r.receiver.frames.clock.have ≡ next + 1 = omega (arith, most, come) in
      let event : Event = frame_event n frame told in
      let same : event ≡ heard_frame t traffic m legs heard n next =
      ap (λ (f : Decoded). frame_event n f told) frame_is
      ∙ ap (frame_event n (decoded_at t traffic m legs heard next)) told_is in
      let signal : signal_of frame ≡ signal_at t traffic m legs heard next =
      ap (λ (f : Decoded). signal_of f) frame_is in
      let message_is : message ≡ signaling_message_at t traffic m legs heard next =
      gives before st.frames.framed
      ∙ ap (λ (s : Option (List Bool)). signal_in t.check16 (capsule_with before s)) signal in
      let rest = told_left t traffic m legs heard (next + 1) in
      let left : event ∷ (message_events n message ++ rest)
      ≡ told_left_with t traffic m heard r.receiver (kept_in t traffic m r heard) =
      ap (λ (e : Event). e ∷ (message_events n message ++ rest)) same
      ∙ ap (λ (x : Option SpelledSignal).
      heard_frame t traffic m legs heard n next ∷ (message_events n x ++ rest)) message_is
      ∙ sym (told_next t traffic m legs (closes st sound) heard next inside known)
      ∙ sym (left_unkept t traffic m heard r.receiver (kept_in t traffic m r heard) empty) in (
        record {
          tuned = st.tuned;
          among = st.among;
          frames = record {
            start_is = st.frames.start_is;
            ended = λ k less.
                elim (cases_lt k next) [
                  | inl below ↦ st.frames.ended k below
                  | inr above ↦
                      let here : k ≡ next = omega (arith, less, above) in
                      let is = ap (frame_known t traffic m legs) here in
                      omega (arith, is, known)
                ];
            come = λ more. absurd (omega (arith, more, order));
            framed = subst (CapsuleStandsFor framer)
                (ap (λ (s : Option (List Bool)). before ++ option_to_list s) signal
                ∙ sym (signals_more t traffic m legs heard next inside))
                (takes before st.frames.framed);
          };
          close = st.close;
          legs_are = st.legs_are;
          pilots_are = st.pilots_are;
          following = λ e others is some. st.following event (message_events n message ++ rest) (sym left) some;
          sets_are = ap (λ (es : List Event). all_noted m es r.sets.sets) left ∙ st.sets_are;
        },
        ap (λ (es : List Event). es ++ sets_left_of t traffic m heard r.sets.passed) left,
      )

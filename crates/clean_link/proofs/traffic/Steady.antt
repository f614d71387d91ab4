-- Where no message directs a handoff, the reference's pilot stays the only active one.
use Rattle.clean_link.proofs.Common.{◌≡◌, ℕ, zero, suc, ◌+◌, ◌<◌, ◌≤◌, ◌==◌, Bool, true, false, List, [], ◌∷◌, ◌++◌, map, take, refl, sym}
use Rattle.clean_link.proofs.Common.{ap, ◌∙◌, arith, subst, inl, inr, Option, None, Some, get_or, pos, if◌then◌else◌, All, flat_map, eq-eqb}
use Rattle.clean_link.proofs.Common.{range_with_len, cases_lt, take-take, All-append, All-cons, All-head, All-map, All-nil, All-same, shown}
use Rattle.clean_link.proofs.Common.{All-tail, places, Sample, PagingMessage, TrafficBody, active_timed, energy_in, Standing, due_at, noted}
use Rattle.clean_link.proofs.Common.{due_for, new_standing, shown_active, with_neighbors, with_thresholds, Active, Accepted, ActivePilot, ℤ}
use Rattle.clean_link.proofs.Common.{Strength, legs_of, leg_of, pilot_finger, heard_from, kept_to, legs_at, legs_by, messages_at, moment_of}
use Rattle.clean_link.proofs.Common.{moment_place, moments_before, passed, told_by, all_noted, body_noted, noted_with, page_noted, Tuning}
use Rattle.clean_link.proofs.Common.{system_thresholds, page_event, pages_if_marked, messages_by, frame_heard, frames_by, frames_now, Event}
use Rattle.clean_link.proofs.Common.{Leg, Mark, Traffic, kept_new, kept_old, IsNoDirection, IsNotDirected, IsOnePilot, OnePilotIsHeard, ◌*◌}
use Rattle.clean_link.proofs.Common.{length, drop, length-take-le, take-append-drop, events, events_at, heard_within, message_events_at}
use Rattle.clean_link.proofs.Common.{frame_events_at, paging_events_at, sets_events_at, mark, frames_at, AreNear, sync_events_at, Pilot}
use Rattle.clean_link.proofs.Common.{if_followed, sync_stream, frames_sooner, by_one_mark, messages_sooner, IsUndirected, append_assoc}
use Rattle.clean_link.proofs.Common.{append-nil, sets_at, frames_later, messages_later, opens_followed, OpensAfter, told_after, option_map}
use Rattle.clean_link.proofs.Common.{◌&&◌, option_to_list, power_bit, decoded, group_sums, Decoded, softs, Finger, Data, AreClose, known_at}
use Rattle.clean_link.proofs.Common.{all_fingers, subchannels, capsule_with, signaling_message_at, message_events, message_heard, signal_at}
use Rattle.clean_link.proofs.Common.{signal_in, signal_of, signals_before, frame_softs, is_in_file, known_now, Stream, all_sums, decoded_at}
use Rattle.clean_link.proofs.Common.{power_bits_at, frame_event, subchannel_sums, raw_by, raw_softs, ends_now, frames_bound, has_frame}
use Rattle.clean_link.proofs.Common.{replaced_in, stream_of, traffic_start, traffic_stream, fingers_of, AreCloseAll, map_same, pilot_alone}
use Rattle.clean_link.proofs.Common.{filter_ext_places, flat_map_ext_filter, flat_map_ext_filter_places, ◌+ℤ◌, modulo_code}
use Rattle.pilot_sets.specs.Standing.{stepped}
use Rattle.clean_link.proofs.frames.Times.{one_path, known_at_once}
use Rattle.clean_signal.proofs.frames.Times.{IsAlone, inside_alone, room_alone}
use Rattle.heard_events.specs.declared.channel.CodeChannel.TheVariants.{Paging, Traffic as OnTraffic}
use Rattle.paging_message.specs.declared.message.PagingMessage.TheVariants as pages
use Rattle.traffic_message.specs.declared.body.TrafficBody.TheVariants as bodies
use Rattle.heard_events.specs.declared.event.Event.TheVariants as kinds

-- ---- one frame

-- the frames of a channel over the handset's fingers on its row
abbrev pub one_stream : Tuning → Traffic → Mark → Stream
one_stream t traffic m = traffic_stream traffic m (fingers_of traffic.row t.phase t.deltas)

-- the pilot has just these fingers
pub one_fingers : (traffic : Traffic) (phase : ℕ) (deltas : List ℤ) (legs : List Leg) →
    IsOnePilot traffic legs → all_fingers phase deltas legs ≡ fingers_of traffic.row phase deltas
one_fingers traffic phase deltas legs is =
    ap (λ (some : List Leg). all_fingers phase deltas some) is.alone
    ∙ pilot_alone phase deltas true is.finger 0 refl
    ∙ append-nil (fingers_of is.finger.row phase deltas)
    ∙ ap (λ (row : ℕ). fingers_of row phase deltas) is.row

-- and one power control subchannel, which is its own
one_subchannel : (f : Finger) →
    subchannels (record { reference = true; finger = f; subchannel = 0 } ∷ []) ≡ 0 ∷ []
unfolding places
one_subchannel f = refl

module _ (t : Tuning) (traffic : Traffic) (m : Mark) (legs : ℕ → List Leg) (k : ℕ)
    (is : IsOnePilot traffic (legs k)) where
  pub one_stream_is : stream_of t traffic m legs k ≡ one_stream t traffic m
  one_stream_is = ap (traffic_stream traffic m) (one_fingers traffic t.phase t.deltas (legs k) is)

  -- its power control bits are heard of all of its fingers
  pub one_sums : (samples : List Sample) → all_sums t traffic m legs samples k
      ≡ group_sums (replaced_in traffic m k) (raw_softs t traffic m legs samples k) ∷ []
  one_sums samples =
      let one : List Leg = record { reference = true; finger = is.finger; subchannel = 0 } ∷ [] in
      let replaced = replaced_in traffic m k in
      ap (λ (some : List Leg).
      map (subchannel_sums t traffic m samples k some) (subchannels some)) is.alone
      ∙ ap (map (subchannel_sums t traffic m samples k one)) (one_subchannel is.finger)
      ∙ sym
      (ap (λ (some : List Leg). group_sums replaced (raw_by t traffic m samples k some) ∷ [])
      is.alone)

-- ---- by the one stream

module _ (t : Tuning) (traffic : Traffic) (m : Mark) (legs : ℕ → List Leg)
    (one : (k : ℕ) → IsOnePilot traffic (legs k)) where
  -- the frames that end at a number of samples are the stream's
  pub one_now : (n : ℕ) → frames_now t traffic m legs n ≡ known_now t.count (one_stream t traffic m) n (frames_bound n)
  one_now n =
      filter_ext_places (ends_now t traffic m legs n)
      (λ k. is_in_file t.count (one_stream t traffic m) k
      && known_at t.count (one_stream t traffic m) k == n) (frames_bound n)
      (λ k below.
      ap (λ (s : Stream). is_in_file t.count s k && known_at t.count s k == n)
      (one_stream_is t traffic m legs k (one k)))

  -- and one finger on the path is close
  pub one_close : t.deltas ≡ one_path → AreCloseAll t legs
  one_close alone k =
      subst AreClose (sym (one_fingers traffic t.phase t.deltas (legs k) (one k)))
      (subst (λ (deltas : List ℤ). AreClose (fingers_of traffic.row t.phase deltas)) (sym alone)
      (record { some = omega arith; close = refl }))

-- ---- pilots that are the reference's alone are heard alike

module _ (t : Tuning) (traffic : Traffic) (m : Mark) (legs legs' : ℕ → List Leg)
    (one : (k : ℕ) → IsOnePilot traffic (legs k))
    (one' : (k : ℕ) → IsOnePilot traffic (legs' k)) where
  same_fingers : (k : ℕ) → all_fingers t.phase t.deltas (legs k) ≡ all_fingers t.phase t.deltas (legs' k)
  same_fingers k =
      one_fingers traffic t.phase t.deltas (legs k) (one k)
      ∙ sym (one_fingers traffic t.phase t.deltas (legs' k) (one' k))

  same_decoded : (samples : List Sample) (k : ℕ) →
      decoded_at t traffic m legs samples k ≡ decoded_at t traffic m legs' samples k
  unfolding decoded_at
  same_decoded samples k =
      ap (λ (fingers : List Finger).
      decoded (replaced_in traffic m k) (frame_softs samples (traffic_stream traffic m fingers) k))
      (same_fingers k)

  same_power_bits : (samples : List Sample) (k : ℕ) →
      power_bits_at t traffic m legs samples k ≡ power_bits_at t traffic m legs' samples k
  unfolding power_bits_at
  same_power_bits samples k =
      let replaced = replaced_in traffic m k in
      ap (λ (sums : List (List ℤ)). map (power_bit sums) (places 16))
      (one_sums t traffic m legs k (one k) samples
      ∙ ap (λ (fingers : List Finger).
      group_sums replaced (softs samples fingers Data (traffic_start traffic m k)) ∷ []) (same_fingers k)
      ∙ sym (one_sums t traffic m legs' k (one' k) samples))

  same_heard : (samples : List Sample) (n k : ℕ) →
      frame_heard t traffic m legs samples n k ≡ frame_heard t traffic m legs' samples n k
  same_heard samples n k =
      ap (λ (d : Decoded). frame_event n d (power_bits_at t traffic m legs samples k)) (same_decoded samples k)
      ∙ ap (frame_event n (decoded_at t traffic m legs' samples k)) (same_power_bits samples k)

  same_now : (n : ℕ) → frames_now t traffic m legs n ≡ frames_now t traffic m legs' n
  same_now n = one_now t traffic m legs one n ∙ sym (one_now t traffic m legs' one' n)

  -- so their frames are the same,
  pub same_frames : (samples : List Sample) (n : ℕ) →
      frames_by t traffic m legs samples n ≡ frames_by t traffic m legs' samples n
  unfolding frames_by
  same_frames samples n =
      ap (map (frame_heard t traffic m legs samples n)) (same_now n)
      ∙ map_same (frame_heard t traffic m legs samples n)
      (frame_heard t traffic m legs' samples n) (frames_now t traffic m legs' n) (same_heard samples n)

  same_before : (samples : List Sample) (k : ℕ) →
      signals_before t traffic m legs samples k ≡ signals_before t traffic m legs' samples k
  unfolding signals_before signal_at
  same_before samples k =
      let own : (ℕ → List Leg) → ℕ → List (List Bool) =
      λ some j. option_to_list (signal_at t traffic m some samples j) in
      ap (flat_map (own legs))
      (filter_ext_places (has_frame t traffic m legs) (has_frame t traffic m legs') k
      (λ j below.
      ap (λ (fingers : List Finger). is_in_file t.count (traffic_stream traffic m fingers) j) (same_fingers j)))
      ∙ flat_map_ext_filter_places (has_frame t traffic m legs') (own legs) (own legs') k
      (λ j below inside.
      ap (λ (d : Decoded). option_to_list (signal_of d)) (same_decoded samples j))

  same_message : (samples : List Sample) (n k : ℕ) →
      message_heard t traffic m legs samples n k ≡ message_heard t traffic m legs' samples n k
  unfolding signaling_message_at signal_at
  same_message samples n k =
      let of : List (List Bool) → Option (List Bool) → List Event =
      λ before signal. message_events n (signal_in t.check16 (capsule_with before signal)) in
      ap (λ (before : List (List Bool)). of before (signal_at t traffic m legs samples k)) (same_before samples k)
      ∙ ap (λ (d : Decoded). of (signals_before t traffic m legs' samples k) (signal_of d)) (same_decoded samples k)

  -- and so are the messages that these complete
  pub same_messages : (samples : List Sample) (n : ℕ) →
      messages_by t traffic m legs samples n ≡ messages_by t traffic m legs' samples n
  unfolding messages_by
  same_messages samples n =
      ap (flat_map (message_heard t traffic m legs samples n)) (same_now n)
      ∙ flat_map_ext_filter (ends_now t traffic m legs' n)
      (message_heard t traffic m legs samples n) (message_heard t traffic m legs' samples n)
      (places (frames_bound n)) (λ k both. same_message samples n k)

-- ---- when frames end and are known

-- the number of samples at which frame k ends
abbrev pub end_after : Traffic → Mark → ℕ → ℕ
end_after traffic m k = m.sample + 1536 * traffic.offset + 24576 * (k + 1)

module _ (t : Tuning) (traffic : Traffic) (m : Mark) (alone : t.deltas ≡ one_path) where
  pub traffic_alone : IsAlone (one_stream t traffic m)
  traffic_alone = record {
    phase = modulo_code (pos t.phase +ℤ pos 0);
    row = traffic.row;
    fingers = ap (fingers_of traffic.row t.phase) alone;
  }

  pub traffic_file_from : (k : ℕ) → end_after traffic m k ≤ t.count →
      is_in_file t.count (one_stream t traffic m) k ≡ true
  traffic_file_from k h = inside_alone t.count (one_stream t traffic m) k traffic_alone (omega (arith, h))

  pub traffic_file_to : (k : ℕ) → is_in_file t.count (one_stream t traffic m) k ≡ true → end_after traffic m k ≤ t.count
  traffic_file_to k h = omega (arith, room_alone t.count (one_stream t traffic m) k traffic_alone h)

  -- it doesn't wait for the next one
  pub traffic_known_is : (k : ℕ) → known_at t.count (one_stream t traffic m) k ≡ end_after traffic m k
  traffic_known_is k = known_at_once t.count (one_stream t traffic m) k traffic_alone refl ∙ omega arith

-- ---- lists

-- what is so of each list is so of all
pub gathered_all : {A : Type 0} (P : A → Type 0) (f : ℕ → List A) (a n : ℕ) →
    ((k : ℕ) → a ≤ k → k < a + n → All P (f k)) → All P (flat_map f (range_with_len a n))
gathered_all P f a zero each = All-nil P
gathered_all P f a (suc n) each =
    All-append P (f a) (flat_map f (range_with_len (a + 1) n)) (each a (omega arith) (omega arith))
    (gathered_all P f (a + 1) n (λ k low below. each k (omega (arith, low)) (omega (arith, below))))

pub left_all : {A : Type 0} (P : A → Type 0) (xs ys : List A) → All P (xs ++ ys) → All P xs
left_all P [] ys all = All-nil P
left_all P (x ∷ xs) ys all =
    All-cons P x xs (All-head P x (xs ++ ys) all) (left_all P xs ys (All-tail P x (xs ++ ys) all))

pub right_all : {A : Type 0} (P : A → Type 0) (xs ys : List A) → All P (xs ++ ys) → All P ys
right_all P [] ys all = all
right_all P (x ∷ xs) ys all = right_all P xs ys (All-tail P x (xs ++ ys) all)

-- and what is so of all is so of each
pub each_of_all : {A : Type 0} (P : A → Type 0) (f : ℕ → List A) (a n k : ℕ) → a ≤ k → k < a + n →
    All P (flat_map f (range_with_len a n)) → All P (f k)
each_of_all P f a zero k low below all = absurd (omega (arith, low, below))
each_of_all P f a (suc n) k low below all =
    let rest = flat_map f (range_with_len (a + 1) n) in
    elim (cases_lt a k) [
      | inl less ↦
          each_of_all P f (a + 1) n k (omega (arith, less)) (omega (arith, below)) (right_all P (f a) rest all)
      | inr most ↦
          let same : a ≡ k = omega (arith, low, most) in
          subst (λ (j : ℕ). All P (f j)) same (left_all P (f a) rest all)
    ]

-- ---- sets that stay

-- no direction waits, and the reference's pilot is the only active one
pub record IsSteady (m : Mark) (row : ℕ) (s : Standing) : Type 0 where
  pub waiting : s.sets.waiting ≡ None
  pub pilot : shown s ≡ record { pilot = m.pilot; row = row; subchannel = 0 } ∷ []

pub first_steady : (m : Mark) (row : ℕ) → IsSteady m row (new_standing m.pilot row)
first_steady m row = record { waiting = refl; pilot = refl }

-- so its one pilot is the reference's
pub steady_pilot : (m : Mark) (traffic : Traffic) (s : Standing) → IsSteady m traffic.row s →
    IsOnePilot traffic (legs_of m s)
steady_pilot m traffic s st =
    let active : Active = record { pilot = m.pilot; row = traffic.row; subchannel = 0 } in
    let finger = pilot_finger m (get_or s.deltas m.pilot (pos 0)) active in
    record {
      finger = finger;
      row = refl;
      alone =
          ap (map (leg_of m s.deltas)) st.pilot
          ∙ ap (λ (b : Bool).
          let leg : Leg = record { reference = b; finger = finger; subchannel = 0 } in leg ∷ [])
          (eq-eqb m.pilot m.pilot refl);
    }

-- ---- what is heard leaves them steady

module _ (m : Mark) (row : ℕ) where
  either_steady : (b : Bool) (s s' : Standing) → IsSteady m row s → IsSteady m row s' →
      IsSteady m row (if b then s else s')
  either_steady true s s' one other = one
  either_steady false s s' one other = other

  page_steady : (pn : ℕ) (message : PagingMessage) (s : Standing) → IsSteady m row s →
      IsSteady m row (page_noted pn message s)
  page_steady pn (pages.System f) s st =
      either_steady (f.pn == pn) (with_thresholds (system_thresholds f) s) s
      (record { waiting = st.waiting; pilot = st.pilot }) st
  page_steady pn (pages.Neighbors f) s st =
      either_steady (f.pn == pn) (with_neighbors f.pns s) s (record { waiting = st.waiting; pilot = st.pilot }) st
  page_steady pn message s st = st

  body_steady : (first : ℕ) (body : TrafficBody) (s : Standing) → IsNoDirection body →
      IsSteady m row s → IsSteady m row (body_noted first body s)
  body_steady first (bodies.System f) s none st = record { waiting = st.waiting; pilot = st.pilot }
  body_steady first (bodies.Neighbors f) s none st = record { waiting = st.waiting; pilot = st.pilot }
  body_steady first (bodies.Handoff f) s none st = absurd none
  body_steady first (bodies.Other kind bits) s none st = st

  event_steady : (pn first : ℕ) (event : Event) (s : Standing) → IsNotDirected event →
      IsSteady m row s → IsSteady m row (noted_with pn first event s)
  event_steady pn first (kinds.Paging n capsule message) s none st = page_steady pn message s st
  event_steady pn first (kinds.Traffic n capsule message) s none st = body_steady first message.body s none st
  event_steady pn first event s none st = st

  all_steady : (es : List Event) (s : Standing) → All IsNotDirected es → IsSteady m row s →
      IsSteady m row (all_noted m es s)
  all_steady [] s none st = st
  all_steady (e ∷ es) s none st =
      all_steady es (noted m e s) (All-tail IsNotDirected e es none)
      (event_steady m.pilot _ e s (All-head IsNotDirected e es none) st)

-- ---- and so does a moment

timed_shown : (energy : ℕ → ℕ) (k power time : ℕ) (active : List ActivePilot) →
    map shown_active (map (active_timed energy k power time) active) ≡ map shown_active active
timed_shown energy k power time [] = refl
timed_shown energy k power time (a ∷ active) =
    ap (λ (rest : List Active). shown_active a ∷ rest) (timed_shown energy k power time active)

stepped_steady : (m : Mark) (row : ℕ) (strengths : List Strength) (power time : ℕ)
    (s : Standing) → IsSteady m row s → IsSteady m row (stepped strengths power time s)
stepped_steady m row strengths power time s st = record {
  waiting = st.waiting;
  pilot =
      timed_shown (energy_in strengths) s.sets.thresholds.t_drop power time s.sets.active
      ∙ st.pilot;
}

-- no direction is due
none_due : (m : Mark) (row time : ℕ) (s : Standing) → IsSteady m row s → due_at time s ≡ s
none_due m row time s st = ap (λ (w : Option Accepted). due_for w time s) st.waiting

passed_steady : (m : Mark) (row : ℕ) (samples : List Sample) (j : ℕ) (s : Standing) →
    IsSteady m row s → IsSteady m row (passed m samples j s)
unfolding passed
passed_steady m row samples j s st =
    let began = subst (IsSteady m row) (sym (none_due m row (m.time + j) s st)) st in
    stepped_steady m row _ _ (m.time + j) (due_at (m.time + j) s) began

-- ---- from moment to moment

module _ (t : Tuning) (traffic : Traffic) (m : Mark) (samples : List Sample) (n : ℕ)
    (undirected : (i : ℕ) → i < n → All IsNotDirected (messages_at t traffic m samples i)) where
  -- the messages between two moments are those that are heard there
  messages_between : (j i : ℕ) → i < 98304 → messages_by t traffic m (legs_by traffic m (kept_to t traffic m samples j))
      (take (moment_place m j + i + 1) (take (moment_place m (j + 1)) samples)) (moment_place m j + i + 1)
      ≡ messages_at t traffic m samples (moment_place m j + i + 1)
  messages_between j i below =
      let place : ℕ = moment_place m j + i + 1 in
      let moment : j ≡ moments_before m place = omega (arith, below) in
      ap (λ (cut : List Sample).
      messages_by t traffic m (legs_by traffic m (kept_to t traffic m samples j)) cut place)
      (take-take place (moment_place m (j + 1)) samples (omega (arith, below)))
      ∙ ap (λ (b : ℕ).
      messages_by t traffic m (legs_by traffic m (kept_to t traffic m samples b)) (take place samples) place) moment

  -- none of what is heard there directs a handoff
  told_undirected : (j i : ℕ) → i < 98304 → moment_place m (suc j) < n → All IsNotDirected
      (told_by t traffic m (legs_by traffic m (kept_to t traffic m samples j))
      (take (moment_place m (j + 1)) samples) (moment_place m j + i + 1))
  unfolding told_by frames_by
  told_undirected j i below most =
      let place : ℕ = moment_place m j + i + 1 in
      let legs = legs_by traffic m (kept_to t traffic m samples j) in
      let cut = take place (take (moment_place m (j + 1)) samples) in
      let heard = pages_if_marked t t.paging (Some m) cut place in
      All-append IsNotDirected (map (page_event place) heard)
      (frames_by t traffic m legs cut place ++ messages_by t traffic m legs cut place)
      (All-map IsNotDirected (page_event place) heard (λ k d below. tt))
      (All-append IsNotDirected (frames_by t traffic m legs cut place) (messages_by t traffic m legs cut place)
      (All-map IsNotDirected (frame_heard t traffic m legs cut place) (frames_now t traffic m legs place)
      (λ k d below. tt))
      (All-same IsNotDirected (messages_by t traffic m legs cut place)
      (messages_at t traffic m samples place) (messages_between j i below)
      (undirected place (omega (arith, below, most)))))

  heard_steady : (j : ℕ) → moment_place m (suc j) < n → IsSteady m traffic.row (kept_to t traffic m samples j j) →
      IsSteady m traffic.row
      (heard_from t traffic m (kept_to t traffic m samples j)
      (take (moment_place m (j + 1)) samples) j 98304)
  unfolding heard_from places
  heard_steady j most st =
      let kept = kept_to t traffic m samples j in
      let told : ℕ → List Event = λ i. told_by t traffic m (legs_by traffic m kept)
      (take (moment_place m (j + 1)) samples) (moment_place m j + i + 1) in
      all_steady m traffic.row (flat_map told (range_with_len 0 98304)) (kept j)
      (gathered_all IsNotDirected told 0 98304 (λ i low below. told_undirected j i (omega (arith, below)) most))
      st

  -- so what is kept after each moment is steady
  kept_steady : (j : ℕ) → (0 < j → moment_place m j < n) → (i : ℕ) →
      IsSteady m traffic.row (kept_to t traffic m samples j i)
  unfolding kept_to
  kept_steady zero here i = first_steady m traffic.row
  kept_steady (suc j) here i =
      let most = here (omega arith) in
      let before = kept_steady j (λ some. omega (arith, most)) in
      let next : j + 1 ≡ suc j = omega arith in
      let same : (s : Standing) → kept_to t traffic m samples (j + 1) i ≡ s →
      IsSteady m traffic.row s → IsSteady m traffic.row (kept_to t traffic m samples (suc j) i) =
      λ s is st. subst (IsSteady m traffic.row) (sym is ∙ ap (λ (b : ℕ). kept_to t traffic m samples b i) next) st in
      elim (cases_lt j i) [
        | inl less ↦
            same _ (kept_new t traffic m samples j i less)
            (passed_steady m traffic.row _ (j + 1) _ (heard_steady j most (before j)))
        | inr early ↦ same _ (kept_old t traffic m samples j i early) (before i)
      ]

-- so the messages before a number of samples tell its pilots
pub one_pilot_before : (t : Tuning) (traffic : Traffic) (m : Mark) (samples : List Sample)
    (n k : ℕ) → ((i : ℕ) → i < n → All IsNotDirected (messages_at t traffic m samples i)) →
    IsOnePilot traffic (legs_at t traffic m samples n k)
one_pilot_before t traffic m samples n k undirected =
    let j : ℕ = moments_before m n in
    steady_pilot m traffic (kept_to t traffic m samples j (moment_of traffic k))
    (kept_steady t traffic m samples n undirected j (λ some. omega (arith, some)) (moment_of traffic k))

-- ---- the law

pub one_pilot_heard : OnePilotIsHeard
one_pilot_heard t traffic m samples n k undirected =
    one_pilot_before t traffic m samples n k (λ i less. undirected i (omega (arith, less)))

-- of what is followed from the mark on, what ends at n is told by its kinds
pub events_at_all : (t : Tuning) (xs : List Sample) (n : ℕ) → events_at t xs n
    ≡ sync_events_at t xs n
    ++ (paging_events_at t xs n
    ++ (frame_events_at t xs n ++ (message_events_at t xs n ++ sets_events_at t xs n)))
unfolding events_at paging_events_at frame_events_at message_events_at sets_events_at
events_at_all t xs n =
    ap (λ (es : List Event). sync_events_at t xs n ++ es) (by_kinds t.traffic (mark t xs n))
  where
    by_kinds : (traffic : Option Traffic) (m : Option Mark) → told_after t (Some (Paging t.paging)) m xs n
        ++ (told_after t (option_map OnTraffic traffic) m xs n ++ [])
        ≡ map (page_event n) (pages_if_marked t t.paging m xs n)
        ++ (if_followed (λ traffic m. frames_at t traffic m xs n) traffic m
        ++ (if_followed (λ traffic m. messages_at t traffic m xs n) traffic m
        ++ if_followed (λ traffic m. sets_at t traffic m xs n) traffic m))
    by_kinds (Some traffic) (Some m) =
        let frames = frames_at t traffic m xs n in
        let messages = messages_at t traffic m xs n in
        let sets = sets_at t traffic m xs n in
        ap (λ (es : List Event). map (page_event n) (pages_if_marked t t.paging (Some m) xs n) ++ es)
        (append-nil ((frames ++ messages) ++ sets) ∙ append_assoc frames messages sets)
    by_kinds (Some traffic) None = refl
    by_kinds None (Some m) = refl
    by_kinds None None = refl

module _ (t : Tuning) (near : AreNear (sync_stream t).fingers) (followed : Option Traffic)
    (samples : List Sample) (n : ℕ) where
  pub frames_from_mark :
      OpensAfter n (if_followed (λ traffic m. frames_at t traffic m samples n) followed)
  frames_from_mark = opens_followed _ (λ traffic m. frames_later t near traffic m samples n) followed

  pub messages_from_mark :
      OpensAfter n (if_followed (λ traffic m. messages_at t traffic m samples n) followed)
  messages_from_mark = opens_followed _ (λ traffic m. messages_later t near traffic m samples n) followed

-- ---- in a file

-- the pilot before the first moment
abbrev pub first_legs : Traffic → Mark → ℕ → List Leg
first_legs traffic m k = legs_of m (new_standing m.pilot traffic.row)

pub first_pilot : (traffic : Traffic) (m : Mark) (k : ℕ) → IsOnePilot traffic (first_legs traffic m k)
first_pilot traffic m k = steady_pilot m traffic (new_standing m.pilot traffic.row) (first_steady m traffic.row)

module _ (t : Tuning) (traffic : Traffic) (m : Mark) (legs : ℕ → List Leg) (samples : List Sample)
    (one : (k : ℕ) → IsOnePilot traffic (legs k)) (n : ℕ) (few : n ≤ length samples)
    (heard : (k : ℕ) → IsOnePilot traffic (legs_at t traffic m samples n k)) where
  whole : take n samples ++ drop n samples ≡ samples
  whole = take-append-drop n samples

  long : n ≤ length (take n samples)
  long = let is = length-take-le n samples few in omega (arith, is)

  -- any pilots of whom the reference's is the only one tell the frames of all samples,
  pub frames_of_one : frames_at t traffic m samples n ≡ frames_by t traffic m legs samples n
  frames_of_one =
      same_frames t traffic m (legs_at t traffic m samples n) legs heard one (take n samples) n
      ∙ sym (frames_sooner t traffic m legs (take n samples) (drop n samples) n long)
      ∙ ap (λ (all : List Sample). frames_by t traffic m legs all n) whole

  -- and the messages
  pub messages_of_one : t.deltas ≡ one_path → messages_at t traffic m samples n ≡ messages_by t traffic m legs samples n
  messages_of_one alone =
      same_messages t traffic m (legs_at t traffic m samples n) legs heard one (take n samples) n
      ∙ sym
      (messages_sooner t traffic m legs (one_close t traffic m legs one alone) (take n samples) (drop n samples) n long)
      ∙ ap (λ (all : List Sample). messages_by t traffic m legs all n) whole

-- ---- by the events of a file

module _ (t : Tuning) (near : AreNear (sync_stream t).fingers) (samples : List Sample)
    (none : All IsNotDirected (events t samples)) where
  -- those of each number of samples
  none_directs : (n : ℕ) → n ≤ length samples → All IsNotDirected (message_events_at t samples n)
  unfolding heard_within places
  none_directs n few =
      let all = each_of_all IsNotDirected (events_at t samples) 0 (length samples + 1) n
      (omega arith) (omega (arith, few))
      (All-tail IsNotDirected (Pilot t.phase t.energy) (heard_within t samples (length samples)) none) in
      let sync = sync_events_at t samples n in
      let paging = paging_events_at t samples n in
      let frames = frame_events_at t samples n in
      let messages = message_events_at t samples n in
      let sets = sets_events_at t samples n in
      left_all IsNotDirected messages sets
      (right_all IsNotDirected frames (messages ++ sets)
      (right_all IsNotDirected paging (frames ++ (messages ++ sets))
      (right_all IsNotDirected sync (paging ++ (frames ++ (messages ++ sets)))
      (subst (All IsNotDirected) (events_at_all t samples n) all))))

  -- by the mark of all samples
  pub undirected_after : (traffic : Traffic) (m : Mark) → t.traffic ≡ Some traffic →
      mark t samples (length samples) ≡ Some m → IsUndirected t traffic m samples (length samples)
  unfolding message_events_at
  undirected_after traffic m followed set n few =
      let heard : Traffic → Mark → List Event = λ traffic m. messages_at t traffic m samples n in
      let is : if_followed heard t.traffic (mark t samples n)
      ≡ messages_at t traffic m samples n =
      by_one_mark t near samples n (length samples) n _ few (omega arith)
      (messages_from_mark t near t.traffic samples n)
      ∙ ap (λ (last : Option Mark). if_followed heard t.traffic last) set
      ∙ ap (λ (channel : Option Traffic). if_followed heard channel (Some m)) followed in
      subst (All IsNotDirected) is (none_directs n few)

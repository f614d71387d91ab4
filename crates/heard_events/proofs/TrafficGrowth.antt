-- How the frames of a traffic channel and the messages that they complete grow with a file's samples.
use Rattle.heard_events.proofs.Common.{◌≡◌, ℕ, zero, suc, ◌+◌, ◌<◌, ◌≤◌, true, List, [], ◌∷◌, ◌++◌, length, refl, arith, Some, map, ap, ◌∙◌}
use Rattle.heard_events.proofs.Common.{append-nil, take, flat_map, places, Sample, Standing, heard_from, legs_by, moment_place, told_by, ℤ}
use Rattle.heard_events.proofs.Common.{all_noted, page_event, pages_if_marked, messages_by, frames_by, frames_left_of, messages_left_of}
use Rattle.heard_events.proofs.Common.{frame_known, has_frame, Tuning, Event, Leg, Mark, Traffic, flat_map-places-more, flat_map_ext_places}
use Rattle.heard_events.proofs.Common.{sym, ends_now, frames_bound, message_events, message_heard, map_ext_filter_places, power_bit, Data}
use Rattle.heard_events.proofs.Common.{decoded, group_sums, all_fingers, on_subchannel, subchannels, unscrambled, power_bits_at, decoded_at}
use Rattle.heard_events.proofs.Common.{subchannel_sums, replaced_in, stream_of, traffic_start, option_to_list, signaling_message_at, AllFit}
use Rattle.heard_events.proofs.Common.{signal_at, signal_of, signals_before, Decoded, frame_heard, Fits, all_fit, softs_sooner}
use Rattle.heard_events.proofs.Arrivals.{Arrivals, NoneNow, next_left, none_left, none_now, now_parts, StaysWithin, stays_now, given_more}
use Rattle.heard_events.proofs.Arrivals.{AreOrdered, Stays, StaysBefore, stays_before, stays_at}
use Rattle.heard_events.proofs.FrameBounds.{AreCloseAll, known_later, known_low}
use Rattle.heard_events.proofs.LegLists.{map_same}
use Rattle.heard_events.proofs.LegSubsets.{on_all}
use Rattle.heard_events.proofs.MomentGrowth.{first_same, noted-append}
use Rattle.heard_events.proofs.GoesOn.{joined}

-- the frames, whatever pilots each is heard from
abbrev pub frames_of : Tuning → Traffic → Mark → (ℕ → List Leg) → Arrivals
frames_of t traffic m legs = record {
  inside = has_frame t traffic m legs;
  known = frame_known t traffic m legs;
  bound = frames_bound;
}

-- what is heard of the channel when just n samples have been taken: frames first
abbrev pub told_at : Tuning → Traffic → Mark → (ℕ → List Leg) → List Sample → ℕ → List Event
told_at t traffic m legs samples n = frames_by t traffic m legs samples n ++ messages_by t traffic m legs samples n

-- of what is left after a kept message
abbrev pub told_left : Tuning → Traffic → Mark → (ℕ → List Leg) → List Sample → ℕ → List Event
told_left t traffic m legs samples next =
    frames_left_of t traffic m legs samples next
    ++ messages_left_of t traffic m legs samples next

module _ (t : Tuning) (traffic : Traffic) (m : Mark) (legs : ℕ → List Leg) where
  abbrev frames : Arrivals
  frames = frames_of t traffic m legs

  -- where each is heard on close fingers they end one after another
  pub frames_follow : AreCloseAll t legs → AreOrdered (frames_of t traffic m legs)
  frames_follow close = record {
    ordered = λ j k ij ik less.
        let later = known_later t traffic m legs close j k less in omega (arith, later);
    enough = λ n k above inside.
        let low = known_low t traffic m legs close k in omega (arith, low, above);
  }

  -- a frame's fingers have their samples before its end
  fits : (n k : ℕ) → has_frame t traffic m legs k ≡ true → frame_known t traffic m legs k ≤ n →
      AllFit n Data (traffic_start traffic m k) (all_fingers t.phase t.deltas (legs k))
  fits n k inside known =
      all_fit t.count n (all_fingers t.phase t.deltas (legs k)) Data (traffic_start traffic m k)
      inside known

  decoded_sooner : Stays (frames_of t traffic m legs) (decoded_at t traffic m legs)
  unfolding decoded_at
  decoded_sooner xs ys k inside known =
      ap (λ (values : List ℤ).
      decoded (replaced_in traffic m k) (unscrambled ((stream_of t traffic m legs k).scrambling k) values))
      (softs_sooner xs ys (all_fingers t.phase t.deltas (legs k)) Data (traffic_start traffic m k)
      (fits (length xs) k inside known))

  power_bits_sooner : Stays (frames_of t traffic m legs) (power_bits_at t traffic m legs)
  unfolding power_bits_at
  power_bits_sooner xs ys k inside known =
      let u : ℕ = traffic_start traffic m k in
      ap (λ (sums : List (List ℤ)). map (power_bit sums) (places 16))
      (map_same (subchannel_sums t traffic m (xs ++ ys) k (legs k))
      (subchannel_sums t traffic m xs k (legs k)) (subchannels (legs k))
      (λ c.
      ap (group_sums (replaced_in traffic m k))
      (softs_sooner xs ys (all_fingers t.phase t.deltas (on_subchannel c (legs k))) Data u
      (on_all (Fits (length xs) Data u) t.phase t.deltas c (legs k) (fits (length xs) k inside known)))))

  pub heard_sooner : (n : ℕ) → Stays (frames_of t traffic m legs) (λ xs. frame_heard t traffic m legs xs n)
  heard_sooner n xs ys k inside known =
      rw (decoded_sooner xs ys k inside known, power_bits_sooner xs ys k inside known) refl

  -- WHAT A FRAME COMPLETES
  -- the signaling of one frame more
  pub signals_more : (xs : List Sample) (k : ℕ) → has_frame t traffic m legs k ≡ true →
      signals_before t traffic m legs xs (k + 1)
      ≡ signals_before t traffic m legs xs k ++ option_to_list (signal_at t traffic m legs xs k)
  unfolding signals_before
  signals_more xs k inside =
      given_more (has_frame t traffic m legs) (λ j. option_to_list (signal_at t traffic m legs xs j)) k inside

  -- what a frame that has ended completes stays where more samples follow
  pub signals_sooner : StaysBefore (frames_of t traffic m legs) (signals_before t traffic m legs)
  unfolding signals_before signal_at
  signals_sooner =
      stays_before frames (λ xs k. option_to_list (signal_at t traffic m legs xs k))
      (λ xs ys k inside known.
      ap (λ (d : Decoded). option_to_list (signal_of d)) (decoded_sooner xs ys k inside known))

  pub message_sooner : AreCloseAll t legs → Stays (frames_of t traffic m legs) (signaling_message_at t traffic m legs)
  unfolding signaling_message_at signal_at
  message_sooner close xs ys k inside known =
      let before = stays_at frames (frames_follow close) (signals_before t traffic m legs)
      signals_sooner xs ys k inside known in
      rw (before, decoded_sooner xs ys k inside known) refl

  -- WHAT IS TOLD OF THEM
  -- what frames give, and the messages that they complete
  abbrev told_of : List Sample → ℕ → List ℕ → List Event
  told_of xs n ks =
      map (frame_heard t traffic m legs xs n) ks
      ++ flat_map (message_heard t traffic m legs xs n) ks

  pub told_none : (xs : List Sample) (n : ℕ) → NoneNow (frames_of t traffic m legs) n →
      told_at t traffic m legs xs n ≡ []
  unfolding frames_by messages_by
  told_none xs n none = ap (told_of xs n) (none_now frames n none)

  pub told_left_none : (xs : List Sample) (next : ℕ) →
      ((k : ℕ) → next ≤ k → length xs + 1 ≤ frame_known t traffic m legs k) → told_left t traffic m legs xs next ≡ []
  unfolding frames_left_of messages_left_of
  told_left_none xs next h =
      ap (told_of xs (length xs))
      (none_left frames next (length xs) (λ k above inside e. let later = h k above in omega (arith, later, e)))

  -- what is heard stays where more samples follow
  pub frames_sooner : StaysWithin (frames_by t traffic m legs)
  unfolding frames_by
  frames_sooner xs ys n h =
      map_ext_filter_places (ends_now t traffic m legs n)
      (frame_heard t traffic m legs (xs ++ ys) n) (frame_heard t traffic m legs xs n) (frames_bound n)
      (λ k below both.
      let parts = now_parts frames n k both in
      heard_sooner n xs ys k parts.0 (omega (arith, parts.1, h)))

  module _ (close : AreCloseAll t legs) where
    -- after the frame that ends just now no other does, so its event and its message are all
    pub told_next : (xs : List Sample) (next : ℕ) → has_frame t traffic m legs next ≡ true →
        frame_known t traffic m legs next ≡ length xs → told_left t traffic m legs xs next
        ≡ frame_heard t traffic m legs xs (length xs) next
        ∷ (message_heard t traffic m legs xs (length xs) next
        ++ told_left t traffic m legs xs (next + 1))
    unfolding frames_left_of messages_left_of
    told_next xs next inside known =
        let n : ℕ = length xs in
        let message = message_heard t traffic m legs xs n next in
        let alone = none_left frames (next + 1) n
        (λ k above inside' e.
        let later = known_later t traffic m legs close next k (omega (arith, above)) in
        omega (arith, known, later, e)) in
        let first = next_left frames (frames_follow close) next n inside known
        ∙ ap (λ (ks : List ℕ). next ∷ ks) alone in
        ap (told_of xs n) first
        ∙ ap (λ (es : List Event). frame_heard t traffic m legs xs n next ∷ (message ++ es))
        (sym (ap (told_of xs n) alone))

    pub messages_sooner : StaysWithin (messages_by t traffic m legs)
    unfolding messages_by
    messages_sooner =
        stays_now frames (message_heard t traffic m legs)
        (λ n xs ys k inside known. ap (message_events n) (message_sooner close xs ys k inside known))

-- A LIST THAT HAS GROWN BY ITS LAST PIECE
-- Where the first pieces stay as they were and those after them are empty but the last, the list
-- has grown by that last piece, by induction over how many are empty.
pub last_piece : {A : Type 0} (f g : ℕ → List A) (a d : ℕ) →
    ((i : ℕ) → i < a → g i ≡ f i) → ((i : ℕ) → a ≤ i → i < a + d → g i ≡ []) →
    flat_map g (places (a + d + 1)) ≡ flat_map f (places a) ++ g (a + d)
last_piece f g a zero same none =
    let e : a + 0 ≡ a = omega arith in
    rw e (flat_map-places-more g a ∙ ap (λ (xs : List _). xs ++ g a) (flat_map_ext_places g f a same))
last_piece f g a (suc d) same none =
    let e : a + suc d ≡ a + d + 1 = omega arith in
    let quiet : g (a + d) ≡ [] = none (a + d) (omega arith) (omega arith) in
    let before = last_piece f g a d same (λ i low less. none i low (omega (arith, less))) in
    rw e
    (flat_map-places-more g (a + d + 1)
    ∙ joined
    (before ∙ ap (λ (xs : List _). flat_map f (places a) ++ xs) quiet
    ∙ append-nil (flat_map f (places a))) refl)

-- WHAT IS HEARD AFTER A MOMENT
-- told_by is what is heard of both channels
pub told_is : (t : Tuning) (traffic : Traffic) (m : Mark) (legs : ℕ → List Leg) (samples : List Sample) (n : ℕ) →
    told_by t traffic m legs samples n
    ≡ map (page_event n) (pages_if_marked t t.paging (Some m) (take n samples) n)
    ++ told_at t traffic m legs (take n samples) n
unfolding told_by
told_is t traffic m legs samples n = refl

-- it depends on the first n samples
pub told_first : (t : Tuning) (traffic : Traffic) (m : Mark) (legs : ℕ → List Leg) →
    StaysWithin (told_by t traffic m legs)
unfolding told_by
told_first t traffic m legs xs ys n h = rw (first_same xs ys n h) refl

module _ (t : Tuning) (traffic : Traffic) (m : Mark) (kept : ℕ → Standing) (j : ℕ) where
  -- what is heard at each sample after it
  abbrev pub heard_at_next : List Sample → ℕ → List Event
  heard_at_next samples i = told_by t traffic m (legs_by traffic m kept) samples (moment_place m j + i + 1)

  -- the sets with what is heard over d more samples, if something is heard only with the last of
  -- them
  pub heard_grown : (xs ys : List Sample) (a d : ℕ) →
      ((i : ℕ) → i < a → heard_at_next (xs ++ ys) i ≡ heard_at_next xs i) →
      ((i : ℕ) → a ≤ i → i < a + d → heard_at_next (xs ++ ys) i ≡ []) →
      heard_from t traffic m kept (xs ++ ys) j (a + d + 1)
      ≡ all_noted m (heard_at_next (xs ++ ys) (a + d)) (heard_from t traffic m kept xs j a)
  unfolding heard_from
  heard_grown xs ys a d same none =
      let f = heard_at_next xs in
      let g = heard_at_next (xs ++ ys) in
      ap (λ (es : List Event). all_noted m es (kept j)) (last_piece f g a d same none)
      ∙ noted-append m (flat_map f (places a)) (g (a + d)) (kept j)

  -- after no sample nothing is heard
  pub heard_none : (xs ys : List Sample) → heard_from t traffic m kept xs j 0 ≡ kept j
  unfolding heard_from places
  heard_none xs ys = refl

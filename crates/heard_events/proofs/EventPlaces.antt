-- The events that end at a number of samples have that number.
use Rattle.heard_events.proofs.Common.{◌≡◌, ℕ, ◌+◌, ◌==◌, ◌||◌, List, [], ◌∷◌, ◌++◌, refl, Option, None, Some, inl, inr, take, All, All-map}
use Rattle.heard_events.proofs.Common.{All-append, All-cons, All-nil, flat_map, cases_Bool, eqb-true, Sample, Standing, SetChange, at_of}
use Rattle.heard_events.proofs.Common.{events_at, mark, changed, frames_at, messages_at, heard_from, kept_to, legs_at, moment_events, Event}
use Rattle.heard_events.proofs.Common.{moment_place, moments_before, passed, sets_at, page_event, pages_if_marked, signaling_message_at}
use Rattle.heard_events.proofs.Common.{message_events, message_heard, messages_by, known_now, events_of, heard_at, sync_events_at, Tuning}
use Rattle.heard_events.proofs.Common.{frames_by, if_followed, frames_now, sync_bound, sync_stream, Mark, Traffic, SpelledMessage}
use Rattle.heard_events.proofs.Common.{CodeChannel}
use Rattle.heard_events.proofs.Common.{SpelledSignal, Paging, channels, followed_after, told_after, told_on, frame_heard}
use Rattle.heard_events.specs.declared.channel.CodeChannel.TheVariants.{Traffic as OnTraffic}

-- events of one number of samples
abbrev pub IsAt : ℕ → Event → Type 0
IsAt n event = at_of event ≡ n

abbrev pub AreAt : ℕ → List Event → Type 0
AreAt n events = All (IsAt n) events

-- what all have of each piece, all have
pub all_each : {A X : Type 0} (P : A → Type 0) (f : X → List A) (xs : List X) →
    ((x : X) → All P (f x)) → All P (flat_map f xs)
all_each P f [] each = All-nil P
all_each P f (x ∷ xs) each = All-append P (f x) (flat_map f xs) (each x) (all_each P f xs each)

module _ (n : ℕ) where
  one_at : (event : Event) → IsAt n event → AreAt n (event ∷ [])
  one_at event here = All-cons (IsAt n) event [] here (All-nil (IsAt n))

  message_here : (told : Option SpelledMessage) → AreAt n (events_of n told)
  message_here None = All-nil (IsAt n)
  message_here (Some told) = one_at _ refl

  signal_here : (heard : Option SpelledSignal) → AreAt n (message_events n heard)
  signal_here None = All-nil (IsAt n)
  signal_here (Some heard) = one_at _ refl

  changed_here : (m : Mark) (j : ℕ) (change : SetChange) (s : Standing) → moment_place m j ≡ n →
      AreAt n (moment_events m j change s)
  changed_here m j change s here =
      elim (cases_Bool (change.changed || change.report)) [
        | inl e ↦ rw e (one_at _ here)
        | inr e ↦ rw e (All-nil (IsAt n))
      ]

  -- where a channel may be followed, after a mark that may be set
  after_here : {C : Type 0} (heard : C → Mark → List Event) →
      ((c : C) (m : Mark) → AreAt n (heard c m)) → (followed : Option C) (m : Option Mark) →
      AreAt n (if_followed heard followed m)
  after_here heard here (Some c) (Some m) = here c m
  after_here heard here followed m = All-nil (IsAt n)

module _ (t : Tuning) (samples : List Sample) (n : ℕ) where
  sync_here : AreAt n (sync_events_at t samples n)
  unfolding sync_events_at
  sync_here =
      all_each (IsAt n) (λ k. events_of n (heard_at t samples k)) (known_now t.count (sync_stream t) n (sync_bound n))
      (λ k. message_here n (heard_at t samples k))

  frames_here : (traffic : Traffic) (m : Mark) → AreAt n (frames_at t traffic m samples n)
  unfolding frames_by
  frames_here traffic m =
      let legs = legs_at t traffic m samples n in
      All-map (IsAt n) (frame_heard t traffic m legs (take n samples) n) (frames_now t traffic m legs n)
      (λ k d below. refl)

  messages_here : (traffic : Traffic) (m : Mark) → AreAt n (messages_at t traffic m samples n)
  unfolding messages_by
  messages_here traffic m =
      let legs = legs_at t traffic m samples n in
      all_each (IsAt n) (message_heard t traffic m legs (take n samples) n) (frames_now t traffic m legs n)
      (λ k. signal_here n (signaling_message_at t traffic m legs (take n samples) k))

  -- The event of the pilot sets that ends at n samples has the number n: there is one only where
  -- the next moment lies just there, and it is told with that moment's place.
  moment_here : (traffic : Traffic) (m : Mark) → AreAt n (sets_at t traffic m samples n)
  unfolding sets_at
  moment_here traffic m =
      let j : ℕ = moments_before m n in
      let first = take n samples in
      let before = heard_from t traffic m (kept_to t traffic m samples j) first j 98304 in
      elim (cases_Bool (moment_place m (j + 1) == n)) [
        | inl e ↦
            rw e
            (changed_here n m (j + 1) (changed m first (j + 1) before) (passed m first (j + 1) before)
            (eqb-true (moment_place m (j + 1)) n e))
        | inr e ↦ rw e (All-nil (IsAt n))
      ]

  channel_here : (c : CodeChannel) (m : Mark) → AreAt n (told_on t samples n c m)
  channel_here (Paging channel) m =
      All-map (IsAt n) (page_event n) (pages_if_marked t channel (Some m) samples n) (λ k d below. refl)
  channel_here (OnTraffic traffic) m =
      let frames = frames_at t traffic m samples n in
      let messages = messages_at t traffic m samples n in
      All-append (IsAt n) (frames ++ messages) (sets_at t traffic m samples n)
      (All-append (IsAt n) frames messages (frames_here traffic m) (messages_here traffic m)) (moment_here traffic m)

  pub all_at : AreAt n (events_at t samples n)
  unfolding events_at
  all_at =
      let m = mark t samples n in
      All-append (IsAt n) (sync_events_at t samples n) (followed_after t m samples n) sync_here
      (all_each (IsAt n) (λ followed. told_after t followed m samples n) (channels t)
      (λ followed. after_here n (told_on t samples n) channel_here followed m))

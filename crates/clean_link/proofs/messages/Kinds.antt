-- Which of a handset's events are of which kind.
use Rattle.clean_link.proofs.Common.{signaling_message_at, message_events_at, paging_events_at, frame_events_at, pages_if_marked, SetChange}
use Rattle.clean_link.proofs.Common.{sets_events_at, moments_before, message_events, sync_events_at, if◌then◌else◌, filter-append, flat_map}
use Rattle.clean_link.proofs.Common.{moment_events, message_heard, moment_place, with_message, messages_at, messages_by, frame_heard, false}
use Rattle.clean_link.proofs.Common.{if_followed, sync_stream, type_within, append-nil, heard_from, page_event, frames_now, sync_bound, ◌≡◌}
use Rattle.clean_link.proofs.Common.{is_message, events_at, frames_at, signal_in, known_now, events_of, frames_by, All-cons, All-head, ◌==◌}
use Rattle.clean_link.proofs.Common.{All-tail, Standing, heard_at, all_each, is_frame, All-map, All-nil, changed, kept_to, legs_at, sets_at}
use Rattle.clean_link.proofs.Common.{Traffic, is_page, is_sync, filter, Option, nat_eq, Sample, passed, Tuning, Plain, Event, Pilot, ◌||◌}
use Rattle.clean_link.proofs.Common.{Bool, true, List, ◌++◌, refl, take, None, Some, mark, Mark, ◌+◌, ◌∷◌, ◌∙◌, All, Leg, [], ap, ℕ}
use Rattle.clean_link.proofs.traffic.Steady.{events_at_all}
use Rattle.heard_events.specs.declared.event.Event.TheVariants.{Frame, Paging, Sets, Sync, Traffic as OnTraffic}

-- ---- kinds by number

abbrev pub kind_of : Event → ℕ
kind_of (Pilot phase energy) = 0
kind_of (Sync n capsule message) = 1
kind_of (Paging n capsule message) = 2
kind_of (Frame n rate good bits power_bits) = 3
kind_of (OnTraffic n capsule message) = 4
kind_of (Sets n time active candidate report) = 5

abbrev pub IsKind : ℕ → Event → Type 0
IsKind kind event = kind_of event ≡ kind

-- a message as a handset reads it: a capsule, and what it spells
abbrev ReadMessage : Type 0
ReadMessage = type_within (with_message [] None)

abbrev ReadSignal : Type 0
ReadSignal = type_within (signal_in Plain None)

-- ---- the lists of a number of samples

told_kind : (n : ℕ) (told : Option ReadMessage) → All (IsKind 1) (events_of n told)
told_kind n None = All-nil (IsKind 1)
told_kind n (Some told) = All-cons (IsKind 1) _ [] refl (All-nil (IsKind 1))

pub sync_kind : (t : Tuning) (samples : List Sample) (n : ℕ) → All (IsKind 1) (sync_events_at t samples n)
unfolding sync_events_at
sync_kind t samples n =
    all_each (IsKind 1) (λ k. events_of n (heard_at t samples k))
    (known_now t.count (sync_stream t) n (sync_bound n)) (λ k. told_kind n (heard_at t samples k))

pub paging_kind : (t : Tuning) (samples : List Sample) (n : ℕ) → All (IsKind 2) (paging_events_at t samples n)
unfolding paging_events_at
paging_kind t samples n =
    All-map (IsKind 2) (page_event n) (pages_if_marked t t.paging (mark t samples n) samples n) (λ k d below. refl)

after_kind : (kind : ℕ) (heard : Traffic → Mark → List Event) (followed : Option Traffic)
    (m : Option Mark) → ((traffic : Traffic) (m' : Mark) → All (IsKind kind) (heard traffic m')) →
    All (IsKind kind) (if_followed heard followed m)
after_kind kind heard None m each = All-nil (IsKind kind)
after_kind kind heard (Some traffic) None each = All-nil (IsKind kind)
after_kind kind heard (Some traffic) (Some m) each = each traffic m

frames_kind : (t : Tuning) (traffic : Traffic) (m : Mark) (legs : ℕ → List Leg)
    (samples : List Sample) (n : ℕ) → All (IsKind 3) (frames_by t traffic m legs samples n)
unfolding frames_by
frames_kind t traffic m legs samples n =
    All-map (IsKind 3) (frame_heard t traffic m legs samples n) (frames_now t traffic m legs n) (λ k d below. refl)

pub frame_kind : (t : Tuning) (samples : List Sample) (n : ℕ) → All (IsKind 3) (frame_events_at t samples n)
unfolding frame_events_at
frame_kind t samples n =
    after_kind 3 (λ traffic m. frames_at t traffic m samples n) t.traffic (mark t samples n)
    (λ traffic m. frames_kind t traffic m (legs_at t traffic m samples n) (take n samples) n)

signal_kind : (n : ℕ) (heard : Option ReadSignal) → All (IsKind 4) (message_events n heard)
signal_kind n None = All-nil (IsKind 4)
signal_kind n (Some heard) = All-cons (IsKind 4) _ [] refl (All-nil (IsKind 4))

messages_kind : (t : Tuning) (traffic : Traffic) (m : Mark) (legs : ℕ → List Leg)
    (samples : List Sample) (n : ℕ) → All (IsKind 4) (messages_by t traffic m legs samples n)
unfolding messages_by
messages_kind t traffic m legs samples n =
    all_each (IsKind 4) (message_heard t traffic m legs samples n) (frames_now t traffic m legs n)
    (λ k. signal_kind n (signaling_message_at t traffic m legs samples k))

message_kind : (t : Tuning) (samples : List Sample) (n : ℕ) → All (IsKind 4) (message_events_at t samples n)
unfolding message_events_at
message_kind t samples n =
    after_kind 4 (λ traffic m. messages_at t traffic m samples n) t.traffic (mark t samples n)
    (λ traffic m. messages_kind t traffic m (legs_at t traffic m samples n) (take n samples) n)

either_kind : (b : Bool) (es : List Event) → All (IsKind 5) es → All (IsKind 5) (if b then es else [])
either_kind true es is = is
either_kind false es is = All-nil (IsKind 5)

change_kind : (m : Mark) (j : ℕ) (change : SetChange) (s : Standing) → All (IsKind 5) (moment_events m j change s)
change_kind m j change s =
    either_kind (change.changed || change.report) _ (All-cons (IsKind 5) _ [] refl (All-nil (IsKind 5)))

-- The events of the pilot sets at a number of samples are of kind 5: at a moment there is at most
-- the event of that moment's change, and elsewhere there is none.
moment_kind : (t : Tuning) (traffic : Traffic) (m : Mark) (samples : List Sample) (n : ℕ) →
    All (IsKind 5) (sets_at t traffic m samples n)
unfolding sets_at
moment_kind t traffic m samples n =
    let j : ℕ = moments_before m n in
    let first = take n samples in
    let before = heard_from t traffic m (kept_to t traffic m samples j) first j 98304 in
    either_kind (moment_place m (j + 1) == n) _
    (change_kind m (j + 1) (changed m first (j + 1) before) (passed m first (j + 1) before))

pub sets_kind : (t : Tuning) (samples : List Sample) (n : ℕ) → All (IsKind 5) (sets_events_at t samples n)
unfolding sets_events_at
sets_kind t samples n =
    after_kind 5 (λ traffic m. sets_at t traffic m samples n) t.traffic (mark t samples n)
    (λ traffic m. moment_kind t traffic m samples n)

-- ---- those of one kind

-- a test that all events of a kind pass, or none
abbrev Passes : (Event → Bool) → ℕ → Bool → Type 0
Passes test kind pass = (e : Event) → kind_of e ≡ kind → test e ≡ pass

-- what it leaves of events of one kind: all of them, or none
left_of : (test : Event → Bool) (kind : ℕ) (pass : Bool) (es : List Event) →
    Passes test kind pass → All (IsKind kind) es → filter test es ≡ (if pass then es else [])
left_of test kind true [] passes are = refl
left_of test kind pass [] passes are = refl
left_of test kind true (e ∷ es) passes are =
    let here = passes e (All-head (IsKind kind) e es are) in
    let rest = left_of test kind true es passes (All-tail (IsKind kind) e es are) in
    rw (here, rest) refl
left_of test kind pass (e ∷ es) passes are =
    let here = passes e (All-head (IsKind kind) e es are) in
    let rest = left_of test kind pass es passes (All-tail (IsKind kind) e es are) in
    rw (here, rest) refl

-- each of the four kinds of event passes its own test alone
sync_passes : (e : Event) → is_sync e ≡ nat_eq (kind_of e) 1
sync_passes (Pilot phase energy) = refl
sync_passes e = refl

page_passes : (e : Event) → is_page e ≡ nat_eq (kind_of e) 2
page_passes (Pilot phase energy) = refl
page_passes e = refl

frame_passes : (e : Event) → is_frame e ≡ nat_eq (kind_of e) 3
frame_passes (Pilot phase energy) = refl
frame_passes e = refl

message_passes : (e : Event) → is_message e ≡ nat_eq (kind_of e) 4
message_passes (Pilot phase energy) = refl
message_passes e = refl

-- what it leaves of five lists
left_of_five : (test : Event → Bool) (a b c d e a' b' c' d' e' : List Event) →
    filter test a ≡ a' → filter test b ≡ b' → filter test c ≡ c' → filter test d ≡ d' → filter test e ≡ e' →
    filter test (a ++ (b ++ (c ++ (d ++ e)))) ≡ a' ++ (b' ++ (c' ++ (d' ++ e')))
left_of_five test a b c d e a' b' c' d' e' fa fb fc fd fe =
    rw (filter-append, filter-append, filter-append, filter-append, fa, fb, fc, fd, fe) refl

module _ (t : Tuning) (samples : List Sample) (n : ℕ) where
  -- of all events that are known at a number of samples
  left_at : (test : Event → Bool) (own : ℕ) → ((e : Event) → test e ≡ nat_eq (kind_of e) own) →
      filter test (events_at t samples n)
      ≡ (if nat_eq 1 own then sync_events_at t samples n else [])
      ++ ((if nat_eq 2 own then paging_events_at t samples n else [])
      ++ ((if nat_eq 3 own then frame_events_at t samples n else [])
      ++ ((if nat_eq 4 own then message_events_at t samples n else [])
      ++ (if nat_eq 5 own then sets_events_at t samples n else []))))
  left_at test own by =
      let left : (kind : ℕ) (es : List Event) → All (IsKind kind) es →
      filter test es ≡ (if nat_eq kind own then es else []) =
      λ kind es are.
      left_of test kind (nat_eq kind own) es (λ e same. by e ∙ ap (λ (k : ℕ). nat_eq k own) same) are in
      ap (filter test) (events_at_all t samples n)
      ∙ left_of_five test _ _ _ _ _ _ _ _ _ _ (left 1 _ (sync_kind t samples n))
      (left 2 _ (paging_kind t samples n)) (left 3 _ (frame_kind t samples n))
      (left 4 _ (message_kind t samples n)) (left 5 _ (sets_kind t samples n))

-- ---- of all numbers of samples

left_each : (test : Event → Bool) (f g : ℕ → List Event) (ks : List ℕ) →
    ((n : ℕ) → filter test (f n) ≡ g n) → filter test (flat_map f ks) ≡ flat_map g ks
left_each test f g [] each = refl
left_each test f g (k ∷ ks) each =
    let here = each k in
    let rest = left_each test f g ks each in
    rw (filter-append, here, rest) refl

module _ (t : Tuning) (samples : List Sample) (ks : List ℕ) where
  pub sync_of_all : filter is_sync (flat_map (events_at t samples) ks) ≡ flat_map (sync_events_at t samples) ks
  sync_of_all =
      left_each is_sync (events_at t samples) (sync_events_at t samples) ks
      (λ n. left_at t samples n is_sync 1 sync_passes ∙ append-nil (sync_events_at t samples n))

  pub pages_of_all : filter is_page (flat_map (events_at t samples) ks) ≡ flat_map (paging_events_at t samples) ks
  pages_of_all =
      left_each is_page (events_at t samples) (paging_events_at t samples) ks
      (λ n. left_at t samples n is_page 2 page_passes ∙ append-nil (paging_events_at t samples n))

  pub frames_of_all : filter is_frame (flat_map (events_at t samples) ks) ≡ flat_map (frame_events_at t samples) ks
  frames_of_all =
      left_each is_frame (events_at t samples) (frame_events_at t samples) ks
      (λ n. left_at t samples n is_frame 3 frame_passes ∙ append-nil (frame_events_at t samples n))

  pub messages_of_all : filter is_message (flat_map (events_at t samples) ks)
      ≡ flat_map (message_events_at t samples) ks
  messages_of_all =
      left_each is_message (events_at t samples) (message_events_at t samples) ks
      (λ n. left_at t samples n is_message 4 message_passes ∙ append-nil (message_events_at t samples n))

-- The event of the message that sets the mark is among those of its number of samples.
use Rattle.heard_events.proofs.Common.{◌≡◌, ℕ, zero, suc, ◌+◌, ◌-◌, ◌<◌, ◌≤◌, Bool, true, false, List, [], ◌∷◌, ◌++◌, length, refl, sym, ap}
use Rattle.heard_events.proofs.Common.{◌∙◌, arith, inl, inr, nat_le, ◌==◌, ◌&&◌, Some, is_some, flat_map, list_all, list_any, and_from}
use Rattle.heard_events.proofs.Common.{range_with_len, and_parts, cases_Bool, cases_lt, eq-eqb, le-leb, or_cases, or_left, or_right, places}
use Rattle.heard_events.proofs.Common.{list_all-append, list_any-append, flat_map-places-more, Sample, events_at, All-head, All-tail, mark}
use Rattle.heard_events.proofs.Common.{followed_after, heard_within, at_of, first_of, frames_open, marks_at, sets_mark, frame_start, Tuning}
use Rattle.heard_events.proofs.Common.{events_of, heard_at, sync_events_at, sync_bound, sync_stream, Event, Mark, Option, None, marks_of}
use Rattle.heard_events.proofs.Common.{SpelledMessage, known_between, every}
use Rattle.std.specs.List.{filter}
use Rattle.heard_events.proofs.EventPlaces.{AreAt, IsAt, all_at}
use Rattle.heard_events.proofs.Growth.{IsSyncTimed, sync_in_file, sync_known, sync_frames}
use Rattle.heard_events.proofs.Arrivals.{given_less, given_more, is_now}

-- WHAT STANDS IN LISTS
-- of numbers that pass a test, one whose piece has one gives one
any_kept : {A : Type 0} (q : A → Bool) (f : ℕ → List A) (p : ℕ → Bool) (n k : ℕ) → k < n →
    p k ≡ true → list_any q (f k) ≡ true →
    list_any q (flat_map f (filter p (places n))) ≡ true
any_kept q f p zero k below here h = absurd (omega (arith, below))
any_kept q f p (suc n) k below here h =
    let e : suc n ≡ n + 1 = omega arith in
    let before = flat_map f (filter p (places n)) in
    rw e
    (elim (cases_lt k n) [
      | inl less ↦
          let found = any_kept q f p n k less here h in
          elim (cases_Bool (p n)) [
            | inl there ↦
                ap (list_any q) (given_more p f n there)
                ∙ list_any-append q before (f n)
                ∙ or_left (list_any q before) (list_any q (f n)) found
            | inr gone ↦ ap (λ ks. list_any q (flat_map f ks)) (given_less p n gone) ∙ found
          ]
      | inr more ↦
          let same : k ≡ n = omega (arith, below, more) in
          ap (list_any q) (given_more p f n (ap p (sym same) ∙ here))
          ∙ list_any-append q before (f n)
          ∙ or_right (list_any q before) (list_any q (f n))
          (ap (λ (j : ℕ). list_any q (f j)) (sym same) ∙ h)
    ])

any_in : {A : Type 0} (q : A → Bool) (f : ℕ → List A) (n k : ℕ) → k < n →
    list_any q (f k) ≡ true → list_any q (flat_map f (places n)) ≡ true
any_in q f n k below h =
    ap (λ ks. list_any q (flat_map f ks)) (sym (every (places n)))
    ∙ any_kept q f (λ j. true) n k below refl h

-- What some of a list's first part have, those before the first of its second part have.
pub first_part : {A : Type 0} (p q : A → Bool) (xs ys later zs : List A) (e : A) → p e ≡ false →
    list_all p ys ≡ true → list_any q ys ≡ true → xs ++ e ∷ zs ≡ ys ++ later →
    list_any q xs ≡ true
first_part p q xs [] later zs e none all some same = absurd (cc)
first_part p q [] (y ∷ ys) later zs e none all some same =
    let same' : e ∷ zs ≡ y ∷ (ys ++ later) = same in
    let first : e ≡ y = cc in
    let here = (and_parts (p y) (list_all p ys) all).0 in
    let both : true ≡ false = sym here ∙ ap p (sym first) ∙ none in
    absurd (cc)
first_part p q (x ∷ xs) (y ∷ ys) later zs e none all some same =
    let same' : x ∷ (xs ++ e ∷ zs) ≡ y ∷ (ys ++ later) = same in
    let first : x ≡ y = cc in
    let following : xs ++ e ∷ zs ≡ ys ++ later = cc in
    let rest = (and_parts (p y) (list_all p ys) all).1 in
    elim (or_cases (q y) (list_any q ys) some) [
      | inl here ↦ or_left (q x) (list_any q xs) (ap q first ∙ here)
      | inr there ↦
          or_right (q x) (list_any q xs)
          (first_part p q xs ys later zs e none rest there following)
    ]

-- EVENTS
-- what is told sets the mark exactly where its event says so
pub noted_event : (told : Option SpelledMessage) (first n : ℕ) →
    is_some (first_of (marks_of first told)) ≡ list_any sets_mark (events_of n told)
noted_event None first n = refl
noted_event (Some told) first n =
    elim (cases_Bool (told.message.lc == 0)) [
      | inl zero' ↦ rw zero' refl
      | inr other ↦ rw other refl
    ]

-- events of one number of samples end before a later one
abbrev pub is_before : ℕ → Event → Bool
is_before n event = nat_le (at_of event + 1) n

before_at : (n i : ℕ) (events : List Event) → i < n → AreAt i events →
    list_all (is_before n) events ≡ true
before_at n i [] less here = refl
before_at n i (event ∷ events) less here =
    let at' = All-head (IsAt i) event events here in
    and_from (is_before n event) (list_all (is_before n) events)
    (le-leb (at_of event + 1) n (omega (arith, at', less)))
    (before_at n i events less (All-tail (IsAt i) event events here))

all_before : (f : ℕ → List Event) (n a d : ℕ) → ((i : ℕ) → AreAt i (f i)) → a + d ≤ n →
    list_all (is_before n) (flat_map f (range_with_len a d)) ≡ true
all_before f n a zero here most = refl
all_before f n a (suc d) here most =
    let rest = flat_map f (range_with_len (a + 1) d) in
    list_all-append (is_before n) (f a) rest
    ∙ and_from (list_all (is_before n) (f a)) (list_all (is_before n) rest)
    (before_at n a (f a) (omega (arith, most)) (here a))
    (all_before f n (a + 1) d here (omega (arith, most)))

module _ (t : Tuning) (samples : List Sample) (k low : ℕ) (timed : IsSyncTimed t low)
    (inside : sync_in_file t k ≡ true) (m : Mark)
    (sets : first_of (marks_at t samples k) ≡ Some m) where
  -- the event of a message that sets a mark says so
  told_so : list_any sets_mark (events_of (sync_known t k) (heard_at t samples k)) ≡ true
  unfolding marks_at
  told_so =
      sym (noted_event (heard_at t samples k)
      (frame_start (sync_stream t) (k + 1 - frames_open t samples (k + 1))) (sync_known t k))
      ∙ ap is_some sets

  -- The event that sets the mark is among those of the number of samples at which its frame is known:
  -- the frame lies in the file and is known then, and it is below the bound of the frames asked.
  among_sync : list_any sets_mark (sync_events_at t samples (sync_known t k)) ≡ true
  unfolding sync_events_at
  among_sync =
      let n : ℕ = sync_known t k in
      let between = known_between (sync_stream t) timed k inside in
      let early = timed.early k in
      let here : (sync_in_file t k && sync_known t k == n) ≡ true =
      and_from (sync_in_file t k) (sync_known t k == n) inside (eq-eqb (sync_known t k) n refl) in
      any_kept sets_mark (λ j. events_of n (heard_at t samples j)) (is_now (sync_frames t) n)
      (sync_bound n) k (omega (arith, between.low, early)) here told_so

  among : list_any sets_mark (events_at t samples (sync_known t k)) ≡ true
  unfolding events_at
  among =
      let n : ℕ = sync_known t k in
      let sync = sync_events_at t samples n in
      let others = followed_after t (mark t samples n) samples n in
      list_any-append sets_mark sync others
      ∙ or_left (list_any sets_mark sync) (list_any sets_mark others) among_sync

  -- and so among all that end before a later one
  pub among_before : (n : ℕ) → sync_known t k < n →
      list_any sets_mark (flat_map (events_at t samples) (places n)) ≡ true
  among_before n less =
      any_in sets_mark (events_at t samples) n (sync_known t k) less among

module _ (t : Tuning) (samples : List Sample) where
  -- all that end before a number of samples do
  pub ends_before : (n : ℕ) →
      list_all (is_before n) (flat_map (events_at t samples) (places n)) ≡ true
  unfolding places
  ends_before n = all_before (events_at t samples) n 0 n (all_at t samples) (omega arith)

  pub heard_split : heard_within t samples (length samples)
      ≡ flat_map (events_at t samples) (places (length samples))
      ++ events_at t samples (length samples)
  unfolding heard_within
  heard_split = flat_map-places-more (events_at t samples) (length samples)

-- How the events of a file's sync channel grow with its samples.
use Rattle.heard_events.proofs.Common.{◌≡◌, ℕ, ◌+◌, ◌≤◌, Bool, true, List, [], ◌∷◌, ◌++◌, map, length, refl, ap, ◌∙◌, arith, map-append}
use Rattle.heard_events.proofs.Common.{places, Sample, piece, capsule_ending, sync_events_left, is_in_file, known_at, frame_own_bits}
use Rattle.heard_events.proofs.Common.{frames_before, sync_capsule_at, heard_in, heard_at, events_of, sync_events_at, IsTimed, Tuning}
use Rattle.heard_events.proofs.Common.{sync_stream, sync_bound, map_ext_filter_places, filter-places-more, flat_map, AreNear, low_of}
use Rattle.heard_events.proofs.Common.{known_between, timed_in}
use Rattle.std.specs.List.{filter}
use Rattle.heard_events.proofs.Arrivals.{AreKnown, AreLater, Arrivals, frames_in, next_left, none_now, AreOrdered, frames_ordered, Stays}
use Rattle.heard_events.proofs.Arrivals.{StaysBefore, StaysWithin, stays_with, stays_now, own_bits_sooner, none_inside}
use Rattle.heard_events.proofs.GoesOn.{GoesOn, things_go}

-- FRAMES OF THE SYNC CHANNEL
-- whether one lies in the file, and when it is known
abbrev pub sync_in_file : Tuning → ℕ → Bool
sync_in_file t = is_in_file t.count (sync_stream t)

abbrev pub sync_known : Tuning → ℕ → ℕ
sync_known t = known_at t.count (sync_stream t)

abbrev pub sync_frames : Tuning → Arrivals
sync_frames t = frames_in t.count (sync_stream t) sync_bound

abbrev pub IsSyncTimed : Tuning → ℕ → Type 0
IsSyncTimed t low = IsTimed t.count (sync_stream t) low

pub timed_of : (t : Tuning) → AreNear (sync_stream t).fingers → IsSyncTimed t (low_of t)
timed_of t h = timed_in t.count (sync_stream t) h

pub sync_ordered : {low : ℕ} (t : Tuning) → IsSyncTimed t low → AreOrdered (sync_frames t)
sync_ordered t timed =
    frames_ordered (sync_stream t) timed sync_bound
    (λ k n ends. let early = timed.early k in omega (arith, early, ends))

pub frames_before_more : (t : Tuning) (xs : List Sample) (k : ℕ) → sync_in_file t k ≡ true → frames_before t xs (k + 1)
    ≡ frames_before t xs k ++ frame_own_bits t.count xs (sync_stream t) k ∷ []
unfolding frames_before
frames_before_more t xs k h =
    let own = frame_own_bits t.count xs (sync_stream t) in
    let kept = filter (sync_in_file t) (places k) in
    ap (map own) (filter-places-more (sync_in_file t) k h) ∙ map-append own kept (k ∷ [])

pub frames_before_none : (t : Tuning) (xs : List Sample) (low k : ℕ) → IsSyncTimed t low →
    k ≤ low → frames_before t xs k ≡ []
unfolding frames_before
frames_before_none t xs low k timed h =
    ap (map (frame_own_bits t.count xs (sync_stream t))) (none_inside (sync_stream t) timed k h)

pub frames_before_sooner : {low : ℕ} (t : Tuning) → IsSyncTimed t low → StaysBefore (sync_frames t) (frames_before t)
unfolding frames_before
frames_before_sooner t timed xs ys k known =
    let s = sync_stream t in
    map_ext_filter_places (sync_in_file t) (frame_own_bits t.count (xs ++ ys) s) (frame_own_bits t.count xs s) k
    (λ j below inside. own_bits_sooner s refl timed xs ys j inside (known j below inside))

-- EVENTS
module _ (t : Tuning) (low : ℕ) (timed : IsSyncTimed t low) where
  pub frames_with_sooner : Stays (sync_frames t) (λ xs k. frames_before t xs (k + 1))
  frames_with_sooner =
      stays_with (sync_frames t) (sync_ordered t timed) (frames_before t) (frames_before_sooner t timed)

  pub heard_sooner : Stays (sync_frames t) (heard_at t)
  unfolding heard_at sync_capsule_at
  heard_sooner xs ys k inside known =
      ap (λ frames. heard_in t.check30 (capsule_ending (map piece frames))) (frames_with_sooner xs ys k inside known)

  pub sync_events_sooner : StaysWithin (sync_events_at t)
  unfolding sync_events_at
  sync_events_sooner =
      stays_now (sync_frames t) (λ xs n k. events_of n (heard_at t xs k))
      (λ n xs ys k inside known. ap (events_of n) (heard_sooner xs ys k inside known))

  -- how they go on with the samples
  pub sync_goes : (next : ℕ) (heard : List Sample) (end : ℕ) →
      AreKnown (sync_frames t) next (length heard) → AreLater (sync_frames t) next end →
      GoesOn (sync_events_at t) (λ xs. sync_events_left t xs next) heard end
  unfolding sync_events_at sync_events_left
  sync_goes next = things_go (sync_frames t) next (λ xs n. flat_map (λ k. events_of n (heard_at t xs k))) (λ xs n. refl)

  -- before any sample is taken no frame is known
  pub none_known : AreLater (sync_frames t) 0 1
  none_known k above inside =
      let early = timed.early k in
      let least = (known_between (sync_stream t) timed k inside).low in
      let some = timed.some in
      omega (arith, early, least, some)

  pub sync_events_none : sync_events_at t [] 0 ≡ []
  unfolding sync_events_at
  sync_events_none =
      ap (flat_map (λ k. events_of 0 (heard_at t [] k)))
      (none_now (sync_frames t) 0
      (λ k inside e. let later = none_known k (omega arith) inside in omega (arith, later, e)))

  -- the next frame's events are the first of those left
  pub left_next : (xs : List Sample) (next : ℕ) → sync_in_file t next ≡ true → sync_known t next ≡ length xs →
      sync_events_left t xs next ≡ events_of (length xs) (heard_at t xs next) ++ sync_events_left t xs (next + 1)
  unfolding sync_events_left
  left_next xs next h e =
      ap (flat_map (λ k. events_of (length xs) (heard_at t xs k)))
      (next_left (sync_frames t) (sync_ordered t timed) next (length xs) h e)

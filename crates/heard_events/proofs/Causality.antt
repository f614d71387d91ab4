-- What is heard within the first samples depends only on them.
use Rattle.heard_events.proofs.Common.{◌≡◌, ℕ, suc, ◌+◌, ◌≤◌, true, List, [], ◌∷◌, ◌++◌, length, take, refl, ap, arith, ℤ, pos, All, Some}
use Rattle.heard_events.proofs.Common.{slice_get, IsTrue, and_from, Sample, events_at, events_within, heard_within, mark, is_near, all_near}
use Rattle.heard_events.proofs.Common.{has_reference, AreNear, IsTuned, low_of, Tuning, fingers_of, sync_stream, Event, Pilot}
use Rattle.heard_events.proofs.Common.{flat_map_ext_places}
use Rattle.heard_events.proofs.EventsGrown.{events_sooner}
use Rattle.heard_events.proofs.GoesOn.{of_first}
use Rattle.heard_events.proofs.Growth.{IsSyncTimed, timed_of}
use Rattle.heard_events.proofs.MarkStays.{mark_sooner}
use Rattle.heard_events.proofs.Arrivals.{StaysWithin}

-- FINGERS THAT ARE TUNED
near_all : (phase : ℕ) (deltas : List ℤ) → All (λ d. IsTrue (is_near d)) deltas →
    all_near (fingers_of 32 phase deltas) ≡ true
near_all phase [] h = refl
near_all phase (d ∷ deltas) h =
    and_from (is_near d) (all_near (fingers_of 32 phase deltas)) (h 0 d (omega arith))
    (near_all phase deltas (λ k e less. h (suc k) e (omega arith)))

reference_first : (phase : ℕ) (deltas : List ℤ) → slice_get deltas 0 ≡ Some (pos 0) →
    has_reference (fingers_of 32 phase deltas) ≡ true
reference_first phase [] h = absurd (cc)
reference_first phase (d ∷ deltas) h =
    let zero' : d ≡ pos 0 = cc in
    rw zero' refl

tuned_near : (t : Tuning) → IsTuned t → AreNear (sync_stream t).fingers
tuned_near t is =
    let fingers = (sync_stream t).fingers in
    and_from (all_near fingers) (has_reference fingers) (near_all t.phase t.deltas is.near)
    (reference_first t.phase t.deltas is.first)

-- WITHIN THE FIRST SAMPLES
module _ (t : Tuning) (is : IsTuned t) where
  timed : IsSyncTimed t (low_of t)
  timed = timed_of t (tuned_near t is)

  heard_sooner : StaysWithin (heard_within t)
  unfolding heard_within
  heard_sooner xs ys n h =
      flat_map_ext_places (events_at t (xs ++ ys)) (events_at t xs) (n + 1)
      (λ k below.
      events_sooner t (low_of t) timed (tuned_near t is) xs ys k (omega (arith, below, h)))

  pub same_events : (one other : List Sample) (n : ℕ) → n ≤ length one → n ≤ length other →
      take n one ≡ take n other → events_within t one n ≡ events_within t other n
  same_events one other n few few' same =
      ap (λ (heard : List Event). Pilot t.phase t.energy ∷ heard)
      (of_first (heard_within t) heard_sooner one other n few few' same)

  pub same_mark : (one other : List Sample) (n : ℕ) → n ≤ length one → n ≤ length other →
      take n one ≡ take n other → mark t one n ≡ mark t other n
  same_mark = of_first (mark t) (mark_sooner t (low_of t) timed)

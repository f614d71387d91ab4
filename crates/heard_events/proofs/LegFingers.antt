-- The fingers of active pilots, gone over one by one.
use Rattle.heard_events.proofs.Common.{◌≡◌, ℕ, ◌≤◌, Bool, true, List, [], ◌∷◌, length, take, ◌∙◌, refl, arith, nat_lt, ℤ, inl, inr, Finger}
use Rattle.heard_events.proofs.Common.{length-append, length-take, and_from, cases_Bool, list_all, all_close, is_close, legs_close, Leg}
use Rattle.heard_events.proofs.Common.{legs_rows, paths_close, finger_places, places_in, all_fingers, leg_fingers, have_rows, fingers_of}
use Rattle.heard_events.proofs.Common.{cond_both, length-map, list_all-map, list_all-from_AllPass, finger_of}
use Rattle.heard_events.proofs.LegLists.{flat_passes}

-- HOW MANY
-- a pilot has room for its fingers, and has one where the reference has a path
leg_bounds : (phase : ℕ) (deltas : List ℤ) (leg : Leg) →
    (length deltas ≤ 3 → length (leg_fingers phase deltas leg) ≤ finger_places leg)
    × (1 ≤ length deltas → 1 ≤ length (leg_fingers phase deltas leg))
leg_bounds phase deltas leg =
    let long = length-map deltas (finger_of leg.finger.row phase) in
    elim (cases_Bool leg.reference) [
      | inl e ↦ rw e (λ few. omega (arith, long, few), λ some. omega (arith, long, some))
      | inr e ↦ rw e (λ few. omega arith, λ some. omega arith)
    ]

pub all_some : (phase : ℕ) (deltas : List ℤ) (legs : List Leg) → 1 ≤ length legs →
    1 ≤ length deltas → 1 ≤ length (all_fingers phase deltas legs)
all_some phase deltas [] some paths = absurd (omega (arith, some))
all_some phase deltas (leg ∷ legs) some paths =
    let one = (leg_bounds phase deltas leg).1 paths in
    omega (
      arith,
      one,
      length-append (leg_fingers phase deltas leg) (all_fingers phase deltas legs),
    )

-- pilots have room for their fingers
pub fingers_few : (phase count : ℕ) (deltas : List ℤ) (legs : List Leg) → count ≤ 3 →
    length (all_fingers phase (take count deltas) legs) ≤ places_in legs
fingers_few phase count deltas [] most = omega arith
fingers_few phase count deltas (leg ∷ legs) most =
    let paths = take count deltas in
    let one = (leg_bounds phase paths leg).0 (omega (arith, length-take count deltas, most)) in
    omega (
      arith,
      one,
      fingers_few phase count deltas legs most,
      length-append (leg_fingers phase paths leg) (all_fingers phase paths legs),
    )

-- WHAT THEY PASS
-- a pilot's fingers pass what its own and the reference's do
leg_passes : (p : Finger → Bool) (phase : ℕ) (deltas : List ℤ) (leg : Leg) → p leg.finger ≡ true →
    list_all p (fingers_of leg.finger.row phase deltas) ≡ true →
    list_all p (leg_fingers phase deltas leg) ≡ true
leg_passes p phase deltas leg one many =
    cond_both leg.reference (fingers_of leg.finger.row phase deltas) (leg.finger ∷ [])
    (λ (fs : List Finger). list_all p fs ≡ true) (λ _. many) (λ _. and_from (p leg.finger) true one refl)

pub all_rows : (phase : ℕ) (deltas : List ℤ) (legs : List Leg) → legs_rows legs ≡ true →
    have_rows (all_fingers phase deltas legs) ≡ true
all_rows phase deltas legs h =
    flat_passes (λ (leg : Leg). nat_lt leg.finger.row 64) (λ (f : Finger). nat_lt f.row 64)
    (leg_fingers phase deltas) legs
    (λ leg row.
    leg_passes (λ (f : Finger). nat_lt f.row 64) phase deltas leg row
    (list_all-map (λ (f : Finger). nat_lt f.row 64) (finger_of leg.finger.row phase) deltas
    ∙ list_all-from_AllPass (λ d. nat_lt leg.finger.row 64) deltas (λ k d less. row)))
    h

-- pilots that are close have close fingers, where the reference's paths are
pub paths_fingers : (row phase : ℕ) (deltas : List ℤ) →
    all_close (fingers_of row phase deltas) ≡ paths_close deltas
paths_fingers row phase deltas = list_all-map is_close (finger_of row phase) deltas

pub legs_are_close : (phase : ℕ) (deltas : List ℤ) (legs : List Leg) →
    paths_close deltas ≡ true → legs_close legs ≡ true →
    all_close (all_fingers phase deltas legs) ≡ true
legs_are_close phase deltas legs paths h =
    flat_passes (λ (leg : Leg). is_close leg.finger) is_close (leg_fingers phase deltas) legs
    (λ leg one.
    leg_passes is_close phase deltas leg one (paths_fingers leg.finger.row phase deltas ∙ paths))
    h

-- The active pilots of sets in order, as a traffic channel is heard from them.
use Rattle.heard_events.proofs.Common.{◌≡◌, ℕ, zero, suc, ◌+◌, ◌*◌, ◌<◌, ◌≤◌, ◌==◌, true, List, [], ◌∷◌, length, map, refl, sym, ap, arith}
use Rattle.heard_events.proofs.Common.{Some, slice_get, nat_lt, nat_le, ℤ, pos, get_or, All, cond, slice_set, Option, None, unsigned_abs}
use Rattle.heard_events.proofs.Common.{nat_eq, if◌then◌else◌, le-leb, lt-ltb, All-set, IsOrderly, IsStanding, times_listed, handed_off, ◌∙◌}
use Rattle.heard_events.proofs.Common.{pilots_of_actives, Standing, began_in, deltas_with, due_at, due_for, shown, shown_active, Active}
use Rattle.heard_events.proofs.Common.{Accepted, ActivePilot, PilotSets, Strength, is_close, legs_close, legs_rows, places_in, leg_of, Mark}
use Rattle.heard_events.proofs.Common.{legs_of, Leg, cond_both, slice_get-map, list_all-map, list_all-from_AllPass, option_map}
use Rattle.pilot_sets.proofs.Times.{offsets_of, once_at_most}
use Rattle.heard_events.proofs.LegLists.{all_at}

-- THEIR PILOTS
pilots_shown : (actives : List ActivePilot) →
    map (λ (a : Active). a.pilot) (map shown_active actives) ≡ pilots_of_actives actives
pilots_shown [] = refl
pilots_shown (a ∷ actives) = ap (λ (ps : List ℕ). a.pilot ∷ ps) (pilots_shown actives)

-- An active pilot is an offset below 512: orderly sets list no number more often than it has
-- places, a number from 512 on has none, and what is shown of the sets has the same pilots.
pub active_offset : (s : PilotSets) → IsOrderly s → (i : ℕ) (a : Active) →
    slice_get (map shown_active s.active) i ≡ Some a → a.pilot < 512
active_offset s is i a read =
    let pilot : Active → ℕ = λ x. x.pilot in
    let offsets = offsets_of (pilots_of_actives s.active) (λ p. omega (arith, is.once p)) in
    all_at (λ p. p < 512) (pilots_of_actives s.active) i a.pilot offsets
    (ap (λ (ps : List ℕ). slice_get ps i) (sym (pilots_shown s.active))
    ∙ slice_get-map pilot (map shown_active s.active) i
    ∙ ap (option_map pilot) read)

-- PLACES
one_place : (p q : ℕ) → (if p == q then 3 else 1) ≡ 1 + 2 * (cond (nat_eq q p) 1 0)
one_place p q = grind arith

places_are : (m : Mark) (deltas : List ℤ) (actives : List ActivePilot) →
    places_in (map (leg_of m deltas) (map shown_active actives))
    ≡ length (map shown_active actives) + 2 * times_listed m.pilot (pilots_of_actives actives)
places_are m deltas [] = omega arith
places_are m deltas (a ∷ actives) =
    let one = one_place a.pilot m.pilot in
    let rest = places_are m deltas actives in
    omega (arith, one, rest)

-- three for the reference's pilot, and one for each other
pub places_few : (m : Mark) (s : Standing) → IsStanding s.sets s.deltas →
    length (shown s) ≤ 6 → places_in (legs_of m s) ≤ 8
places_few m s is few =
    let all = places_are m s.deltas s.sets.active in
    omega (arith, all, is.sets.once m.pilot, once_at_most m.pilot, few)

-- CLOSE FINGERS WITH ROWS
pub get_close : (deltas : List ℤ) (i : ℕ) → All (λ d. unsigned_abs d ≤ 226) deltas →
    nat_le (unsigned_abs (get_or deltas i (pos 0))) 226 ≡ true
get_close [] i h = refl
get_close (x ∷ deltas) zero h = le-leb (unsigned_abs x) 226 (h 0 (pos 0) (omega arith))
get_close (x ∷ deltas) (suc i) h = get_close deltas i (λ k d less. h (suc k) d (omega (arith, less)))

pub active_close : (m : Mark) (deltas : List ℤ) (actives : List Active) →
    All (λ d. unsigned_abs d ≤ 226) deltas → legs_close (map (leg_of m deltas) actives) ≡ true
active_close m deltas actives h =
    list_all-map (λ (leg : Leg). is_close leg.finger) (leg_of m deltas) actives
    ∙ list_all-from_AllPass (λ (a : Active). is_close (leg_of m deltas a).finger) actives
    (λ k a less. get_close deltas (get_or actives k a).pilot h)

pub active_rows : (m : Mark) (deltas : List ℤ) (actives : List Active) →
    All (λ (a : Active). a.row < 64) actives → legs_rows (map (leg_of m deltas) actives) ≡ true
active_rows m deltas actives h =
    list_all-map (λ (leg : Leg). nat_lt leg.finger.row 64) (leg_of m deltas) actives
    ∙ list_all-from_AllPass (λ (a : Active). nat_lt a.row 64) actives
    (λ k a less. lt-ltb (get_or actives k a).row 64 (h k a less))

-- DELTAS
-- those that were measured are close, as the others are
pub deltas_close : (strengths : List Strength) (deltas : List ℤ) →
    All (λ (s : Strength). unsigned_abs s.delta ≤ 226) strengths → All (λ d. unsigned_abs d ≤ 226) deltas →
    All (λ d. unsigned_abs d ≤ 226) (deltas_with strengths deltas)
deltas_close [] deltas fresh h = h
deltas_close (s ∷ strengths) deltas fresh h =
    deltas_close strengths (slice_set deltas s.pilot s.delta) (λ k d less. fresh (suc k) d (omega (arith, less)))
    (All-set (λ (d : ℤ). unsigned_abs d ≤ 226) deltas s.pilot s.delta (fresh 0 s (omega arith)) h)

-- a direction leaves them
waiting_deltas : (waiting : Option Accepted) (time : ℕ) (s : Standing) → (due_for waiting time s).deltas ≡ s.deltas
waiting_deltas None time s = refl
waiting_deltas (Some direction) time s =
    cond_both (direction.time == time)
    (record s { sets = handed_off time direction s.sets; began = Some (began_in s) }) s
    (λ (after : Standing). after.deltas ≡ s.deltas) (λ _. refl) (λ _. refl)

pub due_deltas : (time : ℕ) (s : Standing) → (due_at time s).deltas ≡ s.deltas
due_deltas time s = waiting_deltas s.sets.waiting time s

-- What keeps the sets in order.
use Rattle.pilot_sets.proofs.Common.{◌≡◌, ◌<◌, ◌≤◌, ◌+◌, ◌-◌, ℕ, Bool, true, false, not, cond, List, [], ◌∷◌, ◌++◌, length, map, filter, ap}
use Rattle.pilot_sets.proofs.Common.{nat_eq, nat_lt, Some, None, refl, sym, ◌∙◌, subst, arith, length-map, map-append, ltb-false, All-nil}
use Rattle.pilot_sets.proofs.Common.{All-cons, All, has, lacks, without, firsts, active_pilots, candidate_pilots, timed_pilots, pilots}
use Rattle.pilot_sets.proofs.Common.{pilots_of_actives, pilots_of_candidates, new_sets, neighbors_heard, thresholds_heard, IsDirection}
use Rattle.pilot_sets.proofs.Common.{direction_fault, named_pilots, accepted_of, is_expired, pilots_named, actives_without, next_subchannel}
use Rattle.pilot_sets.proofs.Common.{actives_after, fresh, left, all_left, cleared, handed_off, active_timed, candidate_timed, timed, goes}
use Rattle.pilot_sets.proofs.Common.{stays, pilots_going, expired_moved, rises, rising, risen, measured, times_listed, times_in, places_for}
use Rattle.pilot_sets.proofs.Common.{IsOnceEach, IsActiveSet, IsActiveSetIfAny, IsOrderly, DirectionFields, Thresholds, ActivePilot}
use Rattle.pilot_sets.proofs.Common.{CandidatePilot, NamedPilot, Accepted, PilotSets}
use Rattle.pilot_sets.proofs.Refusals.{accepted_few, accepted_known, accepted_once}
use Rattle.pilot_sets.proofs.Steps.{left_is}
use Rattle.pilot_sets.proofs.Rows.{one_row, named_rows, rows_after, timed_rows}
use Rattle.pilot_sets.proofs.Times.{times-append, times-take, times-filter, times-missing, times-left_out, firsts_once, firsts_within}
use Rattle.pilot_sets.proofs.Times.{firsts_all, times-offsets, once_each, offsets_of}

-- THE PILOTS OF A SET
pilots-kept : {X : Type 0} (pilot_in : X → ℕ) (f : X → X) → ((x : X) → pilot_in (f x) ≡ pilot_in x) →
    (xs : List X) → map pilot_in (map f xs) ≡ map pilot_in xs
pilots-kept pilot_in f same [] = refl
pilots-kept pilot_in f same (x ∷ xs) =
    ap (λ p. p ∷ map pilot_in (map f xs)) (same x)
    ∙ ap (λ l. pilot_in x ∷ l) (pilots-kept pilot_in f same xs)

pilots-fresh : (xs : List ℕ) → pilots_of_candidates (map fresh xs) ≡ xs
pilots-fresh [] = refl
pilots-fresh (x ∷ xs) = ap (λ l. x ∷ l) (pilots-fresh xs)

pilots-append : (xs ys : List CandidatePilot) →
    pilots_of_candidates (xs ++ ys) ≡ pilots_of_candidates xs ++ pilots_of_candidates ys
pilots-append = map-append (λ (c : CandidatePilot). c.pilot)

pilots-filter : {X : Type 0} (pilot_in : X → ℕ) (t : ℕ → Bool) (xs : List X) →
    map pilot_in (filter (λ x. t (pilot_in x)) xs) ≡ filter t (map pilot_in xs)
pilots-filter pilot_in t [] = refl
pilots-filter {X} pilot_in t (x ∷ xs) = by_cases (t (pilot_in x)) (pilots-filter pilot_in t xs)
  where
    kept : List X
    kept = filter (λ y. t (pilot_in y)) xs

    by_cases : (b : Bool) → map pilot_in kept ≡ filter t (map pilot_in xs) → map pilot_in (cond b (x ∷ kept) kept)
        ≡ cond b (pilot_in x ∷ filter t (map pilot_in xs)) (filter t (map pilot_in xs))
    by_cases true ih = ap (λ l. pilot_in x ∷ l) ih
    by_cases false ih = ih

-- those that stay and those that go are all of them
parts : (p : ℕ) (t : Thresholds) (time : ℕ) (xs : List CandidatePilot) →
    times_listed p (pilots_of_candidates (filter (stays t time) xs)) + times_listed p (pilots_going t time xs)
    ≡ times_listed p (pilots_of_candidates xs)
parts p t time [] = refl
parts p t time (c ∷ xs) = by_cases (is_expired t time c.timer) (parts p t time xs)
  where
    by_cases : (b : Bool) →
        times_listed p (pilots_of_candidates (filter (stays t time) xs)) + times_listed p (pilots_going t time xs)
        ≡ times_listed p (pilots_of_candidates xs) →
        times_listed p (pilots_of_candidates
        (cond (not b) (c ∷ filter (stays t time) xs) (filter (stays t time) xs)))
        + times_listed p (pilots_of_candidates
        (cond b (c ∷ filter (goes t time) xs) (filter (goes t time) xs)))
        ≡ cond (nat_eq p c.pilot) 1 0 + times_listed p (pilots_of_candidates xs)
    by_cases true ih = omega (arith, ih)
    by_cases false ih = omega (arith, ih)

-- how often a pilot stands among candidates and neighbors
abbrev lower : ℕ → PilotSets → ℕ
lower p s = times_listed p (candidate_pilots s) + times_listed p s.neighbors

-- pilots of sets in order are offsets
pub pilots_offsets : (s : PilotSets) → IsOrderly s → All (λ p. p < 512) (pilots s)
pilots_offsets s h = offsets_of (pilots s) once
  where
    once : (p : ℕ) → times_listed p (pilots s) ≤ places_for p
    once p = omega (
      arith,
      h.once p,
      times-append p (timed_pilots s) s.neighbors,
      times-append p (active_pilots s) (candidate_pilots s),
    )

-- THE START
new_once : (p pilot : ℕ) → pilot < 512 → cond (nat_eq p pilot) 1 0 ≤ places_for p
new_once p pilot offset = omega (
  arith,
  once_each (pilot ∷ []) (λ q. one (nat_eq q pilot))
      (All-cons (λ x. x < 512) pilot [] offset (All-nil (λ x. x < 512))) p,
)
  where
    one : (b : Bool) → cond b 1 0 + 0 ≤ 1
    one true = omega arith
    one false = omega arith

pub new_orderly : (pilot row : ℕ) → pilot < 512 → row < 64 → IsOrderly (new_sets pilot row)
new_orderly pilot row offset on_row = record {
  some = omega arith;
  once = λ p. omega (arith, new_once p pilot offset);
  rows =
      one_row (record { pilot = pilot; row = row; subchannel = 0; timer = None }) on_row
      (omega arith);
  waiting = tt;
}

-- BETWEEN MOMENTS
pub thresholds_orderly : (t : Thresholds) (s : PilotSets) → IsOrderly s → IsOrderly (thresholds_heard t s)
thresholds_orderly t s h = record { some = h.some; once = h.once; rows = h.rows; waiting = h.waiting }

heard_within : (p : ℕ) (heard : List ℕ) → All (λ x. x < 512) heard → times_listed p (firsts [] heard) ≤ places_for p
heard_within p heard offsets = by_cases (nat_lt p 512) refl
  where
    by_cases : (b : Bool) → nat_lt p 512 ≡ b → times_listed p (firsts [] heard) ≤ cond b 1 0
    by_cases true e = firsts_once p [] heard
    by_cases false e = omega (arith, firsts_within p [] heard, times-offsets p heard offsets (ltb-false p 512 e))

neighbors_once : (p : ℕ) (heard : List ℕ) (s : PilotSets) → All (λ x. x < 512) heard →
    times_in p s ≤ places_for p → times_in p (neighbors_heard heard s) ≤ places_for p
neighbors_once p heard s offsets once = by_cases (has (timed_pilots s) p) refl
  where
    cut : times_listed p (neighbors_heard heard s).neighbors
        ≤ times_listed p (without (timed_pilots s) (firsts [] heard))
    cut = times-take p 20 (without (timed_pilots s) (firsts [] heard))

    by_cases : (b : Bool) → has (timed_pilots s) p ≡ b → times_in p (neighbors_heard heard s) ≤ places_for p
    by_cases true e = omega (arith, cut, once, times-left_out p (lacks (timed_pilots s)) (firsts [] heard) (ap not e))
    by_cases false e = omega (
      arith,
      cut,
      times-missing p (timed_pilots s) e,
      times-append p (active_pilots s) (candidate_pilots s),
      times-filter p (lacks (timed_pilots s)) (firsts [] heard),
      heard_within p heard offsets,
    )

pub neighbors_orderly : (heard : List ℕ) (s : PilotSets) → All (λ x. x < 512) heard →
    IsOrderly s → IsOrderly (neighbors_heard heard s)
neighbors_orderly heard s offsets h = record {
  some = h.some;
  once = λ p. neighbors_once p heard s offsets (h.once p);
  rows = h.rows;
  waiting = h.waiting;
}

pub waiting_orderly : (direction : Accepted) (s : PilotSets) → IsActiveSet direction.named →
    IsOrderly s → IsOrderly (record s { waiting = Some direction })
waiting_orderly direction s named h = record { some = h.some; once = h.once; rows = h.rows; waiting = named }

-- THE PILOTS OF A DIRECTION
pilots-named : (ps cs rs : List ℕ) → length cs ≡ length ps → length rs ≡ length ps →
    pilots_named (named_pilots ps cs rs) ≡ ps
pilots-named [] cs rs h k = refl
pilots-named (p ∷ ps) [] rs h k = grind arith
pilots-named (p ∷ ps) (c ∷ cs) [] h k = grind arith
pilots-named (p ∷ ps) (c ∷ cs) (r ∷ rs) h k =
    ap (λ l. p ∷ l) (pilots-named ps cs rs (omega (arith, h)) (omega (arith, k)))

pub accepted_active_set : (m : ℕ) (d : DirectionFields) → IsDirection d →
    direction_fault d ≡ None → IsActiveSet (accepted_of m d).named
accepted_active_set m d h none = record {
  some = omega (
    arith,
    h.some,
    ap length names,
    length-map (named_pilots d.pns d.combs d.rows) (λ (n : NamedPilot). n.pilot),
  );
  few = omega (
    arith,
    accepted_few d.pns d.rows none,
    ap length names,
    length-map (named_pilots d.pns d.combs d.rows) (λ (n : NamedPilot). n.pilot),
  );
  rows = named_rows d.pns d.combs d.rows (accepted_known d.pns d.rows none);
  once = λ p. omega (arith, ap (times_listed p) names, each p);
}
  where
    names : pilots_named (named_pilots d.pns d.combs d.rows) ≡ d.pns
    names = pilots-named d.pns d.combs d.rows h.combs_long h.rows_long

    firsts_are : firsts [] d.pns ≡ d.pns
    firsts_are = firsts_all [] d.pns (accepted_once d.pns d.rows none)

    each : IsOnceEach d.pns
    each =
        once_each d.pns (λ p. omega (arith, ap (times_listed p) firsts_are, firsts_once p [] d.pns))
        h.pilots

-- HANDOFF
pilots-after : (old : List ActivePilot) (subchannel : ℕ) (named : List NamedPilot) →
    pilots_of_actives (actives_after old subchannel named) ≡ pilots_named named
pilots-after old subchannel [] = refl
pilots-after old subchannel (n ∷ named) =
    ap (λ l. n.pilot ∷ l) (pilots-after old (next_subchannel subchannel named) named)

pub length-after : (old : List ActivePilot) (subchannel : ℕ) (named : List NamedPilot) →
    length (actives_after old subchannel named) ≡ length named
length-after old subchannel [] = refl
length-after old subchannel (n ∷ named) = omega (arith, length-after old (next_subchannel subchannel named) named)

left_le : (p time : ℕ) (a : ActivePilot) (s : PilotSets) →
    lower p (left time a s) ≤ lower p s + cond (nat_eq p a.pilot) 1 0
left_le p time a s =
    left_is (λ (t : PilotSets). lower p t ≤ lower p s + cond (nat_eq p a.pilot) 1 0) time a s
    (λ free. omega (
      arith,
      ap (times_listed p) (pilots-append s.candidates (fresh a.pilot ∷ [])),
      times-append p (candidate_pilots s) (a.pilot ∷ []),
    ))
    (λ free. omega (arith, times-append p s.neighbors (a.pilot ∷ []))) (omega arith)

left-waiting : (time : ℕ) (a : ActivePilot) (s : PilotSets) → (left time a s).waiting ≡ s.waiting
left-waiting time a s = left_is (λ (t : PilotSets). t.waiting ≡ s.waiting) time a s (λ free. refl) (λ free. refl) refl

all_left_le : (p time : ℕ) (xs : List ActivePilot) (s : PilotSets) →
    lower p (all_left time xs s) ≤ lower p s + times_listed p (pilots_of_actives xs)
all_left_le p time [] s = omega arith
all_left_le p time (a ∷ xs) s = omega (arith, all_left_le p time xs (left time a s), left_le p time a s)

all_left-waiting : (time : ℕ) (xs : List ActivePilot) (s : PilotSets) → (all_left time xs s).waiting ≡ s.waiting
all_left-waiting time [] s = refl
all_left-waiting time (a ∷ xs) s = all_left-waiting time xs (left time a s) ∙ left-waiting time a s

handed_off_once : (p time : ℕ) (direction : Accepted) (s : PilotSets) →
    times_in p s ≤ places_for p → IsOnceEach (pilots_named direction.named) →
    times_in p (handed_off time direction s) ≤ places_for p
handed_off_once p time direction s once each = by_cases (has (pilots_named direction.named) p) refl
  where
    actives_are : times_listed p (active_pilots (handed_off time direction s))
        ≡ times_listed p (pilots_named direction.named)
    actives_are = ap (times_listed p) (pilots-after s.active 0 direction.named)

    candidates_are : times_listed p (candidate_pilots (cleared direction s))
        ≡ times_listed p (filter (lacks (pilots_named direction.named)) (candidate_pilots s))
    candidates_are =
        ap (times_listed p)
        (pilots-filter (λ (c : CandidatePilot). c.pilot) (lacks (pilots_named direction.named)) s.candidates)

    leaving_are :
        times_listed p (pilots_of_actives (actives_without (pilots_named direction.named) s.active))
        ≡ times_listed p (filter (lacks (pilots_named direction.named)) (active_pilots s))
    leaving_are =
        ap (times_listed p)
        (pilots-filter (λ (a : ActivePilot). a.pilot) (lacks (pilots_named direction.named)) s.active)

    total : times_in p (handed_off time direction s) ≤ times_listed p (pilots_named direction.named)
        + (times_listed p (filter (lacks (pilots_named direction.named)) (candidate_pilots s))
        + times_listed p (filter (lacks (pilots_named direction.named)) s.neighbors)
        + times_listed p (filter (lacks (pilots_named direction.named)) (active_pilots s)))
    total = omega (
      arith,
      actives_are,
      candidates_are,
      leaving_are,
      all_left_le p time (actives_without (pilots_named direction.named) s.active)
          (cleared direction s),
    )

    by_cases : (b : Bool) → has (pilots_named direction.named) p ≡ b → times_in p (handed_off time direction s) ≤ places_for p
    by_cases true e = omega (
      arith,
      total,
      each p,
      times-left_out p (lacks (pilots_named direction.named)) (candidate_pilots s) (ap not e),
      times-left_out p (lacks (pilots_named direction.named)) s.neighbors (ap not e),
      times-left_out p (lacks (pilots_named direction.named)) (active_pilots s) (ap not e),
    )
    by_cases false e = omega (
      arith,
      total,
      once,
      times-missing p (pilots_named direction.named) e,
      times-filter p (lacks (pilots_named direction.named)) (candidate_pilots s),
      times-filter p (lacks (pilots_named direction.named)) s.neighbors,
      times-filter p (lacks (pilots_named direction.named)) (active_pilots s),
    )

pub handed_off-waiting : (time : ℕ) (direction : Accepted) (s : PilotSets) →
    (handed_off time direction s).waiting ≡ None
handed_off-waiting time direction s =
    all_left-waiting time (actives_without (pilots_named direction.named) s.active) (cleared direction s)

pub handed_off_orderly : (time : ℕ) (direction : Accepted) (s : PilotSets) → IsOrderly s →
    IsActiveSet direction.named → IsOrderly (handed_off time direction s)
handed_off_orderly time direction s h named = record {
  some = omega (arith, length-after s.active 0 direction.named, named.some);
  once = λ p. handed_off_once p time direction s (h.once p) named.once;
  rows = rows_after s.active 0 direction.named named.rows (omega (arith, named.few));
  waiting = subst IsActiveSetIfAny (sym (handed_off-waiting time direction s)) tt;
}

-- A MOMENT
expired_le : (p time : ℕ) (s : PilotSets) → lower p (expired_moved time s) ≤ lower p s
expired_le p time s =
    let going : List ℕ = pilots_going s.thresholds time s.candidates in
    omega (
      arith,
      parts p s.thresholds time s.candidates,
      times-take p 20 (s.neighbors ++ going),
      times-append p s.neighbors going,
    )

risen_le : (p : ℕ) (up : List ℕ) (s : PilotSets) → times_listed p up ≤ times_listed p s.neighbors →
    lower p (risen up s) ≤ lower p s
risen_le p up s h = by_cases (has up p) refl
  where
    above : times_listed p (candidate_pilots (risen up s)) ≡ times_listed p (candidate_pilots s) + times_listed p up
    above =
        ap (times_listed p)
        (pilots-append s.candidates (map fresh up)
        ∙ ap (λ l. candidate_pilots s ++ l) (pilots-fresh up))
        ∙ times-append p (candidate_pilots s) up

    by_cases : (b : Bool) → has up p ≡ b → lower p (risen up s) ≤ lower p s
    by_cases true e = omega (arith, above, h, times-left_out p (lacks up) s.neighbors (ap not e))
    by_cases false e = omega (arith, above, times-missing p up e, times-filter p (lacks up) s.neighbors)

rising_le : (p : ℕ) (energy : ℕ → ℕ) (power : ℕ) (began : List ℕ) (s : PilotSets) →
    times_listed p (rising energy power began s) ≤ times_listed p s.neighbors
rising_le p energy power began s =
    let test : ℕ → Bool = rises energy s.thresholds.t_add power began in
    omega (arith, times-take p (10 - length s.candidates) (filter test s.neighbors), times-filter p test s.neighbors)

timed_same : (p : ℕ) (energy : ℕ → ℕ) (power time : ℕ) (s : PilotSets) →
    times_in p (timed energy power time s) ≡ times_in p s
timed_same p energy power time s =
    ap (λ l. times_listed p l
    + (times_listed p (candidate_pilots (timed energy power time s)) + times_listed p s.neighbors))
    (pilots-kept (λ (a : ActivePilot). a.pilot) (active_timed energy s.thresholds.t_drop power time)
    (λ a. refl) s.active)
    ∙ ap (λ l. times_listed p (active_pilots s) + (times_listed p l + times_listed p s.neighbors))
    (pilots-kept (λ (c : CandidatePilot). c.pilot) (candidate_timed energy s.thresholds.t_drop power time)
    (λ c. refl) s.candidates)

measured_le : (p : ℕ) (energy : ℕ → ℕ) (power time : ℕ) (began : List ℕ) (s : PilotSets) →
    times_in p (measured energy power time began s) ≤ times_in p s
measured_le p energy power time began s =
    let t : PilotSets = timed energy power time s in
    let d : PilotSets = expired_moved time t in
    let up : List ℕ = rising energy power began d in
    omega (
      arith,
      timed_same p energy power time s,
      expired_le p time t,
      risen_le p up d (rising_le p energy power began d),
    )

pub measured_orderly : (energy : ℕ → ℕ) (power time : ℕ) (began : List ℕ) (s : PilotSets) →
    IsOrderly s → IsOrderly (measured energy power time began s)
measured_orderly energy power time began s h = record {
  some = omega (arith, h.some, length-map s.active (active_timed energy s.thresholds.t_drop power time));
  once = λ p. omega (arith, h.once p, measured_le p energy power time began s);
  rows = timed_rows energy s.thresholds.t_drop power time s.active h.rows;
  waiting = h.waiting;
}

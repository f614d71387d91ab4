-- Which timers run after a call.
use Rattle.pilot_sets.proofs.Common.{candidate_pilots, candidate_timers, list_any-append, actives_without, next_subchannel, candidate_timed}
use Rattle.pilot_sets.proofs.Common.{CandidatePilot, if◌then◌else◌, active_pilots, actives_after, active_timers, timed_pilots, pilots_named}
use Rattle.pilot_sets.proofs.Common.{active_timed, timer_after, ActivePilot, map-append, handed_off, after_call, Parameters, NamedPilot, []}
use Rattle.pilot_sets.proofs.Common.{unwrap_or, is_strong, energy_in, moving_up, RunsSince, Neighbors, PilotSets, eqb-true, timer_of, false}
use Rattle.pilot_sets.proofs.Common.{all_left, measured, Standing, began_in, Accepted, cleared, dropped, due_for, IsAmong, ⊎_elim, filter}
use Rattle.pilot_sets.proofs.Common.{nat_eq, Option, eq-eqb, Starts, Direct, subst, lacks, fresh, timed, stays, Bool, true, cond, ◌||◌, ◌≡◌}
use Rattle.pilot_sets.proofs.Common.{List, ◌++◌, Some, None, refl, left, Call, Step, ◌⊎◌, inl, inr, ◌∷◌, map, sym, ◌∙◌, has, Due, ap, ℕ}
use Rattle.pilot_sets.proofs.Refusals.{some_none}
use Rattle.pilot_sets.proofs.Steps.{left_is, due_is, directed_is}

-- LISTS OF TIMERS
among-append : (x : ℕ × Option ℕ) (xs ys : List (ℕ × Option ℕ)) → IsAmong x (xs ++ ys) → IsAmong x xs ⊎ IsAmong x ys
among-append x [] ys h = inr h
among-append x (y ∷ xs) ys (inl e) = inl (inl e)
among-append x (y ∷ xs) ys (inr h) = by_cases (among-append x xs ys h)
  where
    by_cases : IsAmong x xs ⊎ IsAmong x ys → ((x ≡ y) ⊎ IsAmong x xs) ⊎ IsAmong x ys
    by_cases (inl h) = inl (inr h)
    by_cases (inr h) = inr h

among_left : (x : ℕ × Option ℕ) (xs ys : List (ℕ × Option ℕ)) → IsAmong x xs → IsAmong x (xs ++ ys)
among_left x [] ys h = elim h [ ]
among_left x (y ∷ xs) ys (inl e) = inl e
among_left x (y ∷ xs) ys (inr h) = inr (among_left x xs ys h)

among_right : (x : ℕ × Option ℕ) (xs ys : List (ℕ × Option ℕ)) → IsAmong x ys → IsAmong x (xs ++ ys)
among_right x [] ys h = h
among_right x (y ∷ xs) ys h = inr (among_right x xs ys h)

-- what is known of a timer that hasn't started now
or_now : {A B : Type 0} {start time : ℕ} → (A → B) → A ⊎ (start ≡ time) → B ⊎ (start ≡ time)
or_now before (inl a) = inl (before a)
or_now before (inr now) = inr now

candidates-append : (x : ℕ × Option ℕ) (xs ys : List CandidatePilot) → IsAmong x (candidate_timers (xs ++ ys)) →
    IsAmong x (candidate_timers xs) ⊎ IsAmong x (candidate_timers ys)
candidates-append x xs ys h =
    among-append x (candidate_timers xs) (candidate_timers ys)
    (subst (IsAmong x) (map-append (λ (c : CandidatePilot). (c.pilot, c.timer)) xs ys) h)

candidates-filter : (x : ℕ × Option ℕ) (test : CandidatePilot → Bool) (xs : List CandidatePilot) →
    IsAmong x (candidate_timers (filter test xs)) → IsAmong x (candidate_timers xs)
candidates-filter x test [] h = elim h [ ]
candidates-filter x test (c ∷ xs) h = by_cases (test c) (candidates-filter x test xs) h
  where
    by_cases : (b : Bool) → (IsAmong x (candidate_timers (filter test xs)) → IsAmong x (candidate_timers xs)) →
        IsAmong x (candidate_timers (cond b (c ∷ filter test xs) (filter test xs))) →
        (x ≡ (c.pilot, c.timer)) ⊎ IsAmong x (candidate_timers xs)
    by_cases true rest (inl e) = inl e
    by_cases true rest (inr h) = inr (rest h)
    by_cases false rest h = inr (rest h)

-- a new candidate's timer doesn't run
none_fresh : (pilot start : ℕ) (xs : List ℕ) → IsAmong (pilot, Some start) (candidate_timers (map fresh xs)) → ⊥
none_fresh pilot start [] h = elim h [ ]
none_fresh pilot start (x ∷ xs) (inl e) = some_none (ap (λ t. t.1) e)
none_fresh pilot start (x ∷ xs) (inr h) = none_fresh pilot start xs h

-- HANDOFF
timer_among : (pilot start : ℕ) (old : List ActivePilot) → timer_of old pilot ≡ Some start →
    IsAmong (pilot, Some start) (active_timers old)
timer_among pilot start [] e = some_none (sym e)
timer_among pilot start (a ∷ old) e =
    by_cases (nat_eq a.pilot pilot) refl (timer_among pilot start old) e
  where
    by_cases : (b : Bool) → nat_eq a.pilot pilot ≡ b →
        (timer_of old pilot ≡ Some start → IsAmong (pilot, Some start) (active_timers old)) →
        (if b then a.timer else timer_of old pilot) ≡ Some start →
        (◌≡◌ {A = ℕ × Option ℕ} (pilot, Some start) (a.pilot, a.timer))
        ⊎ IsAmong (pilot, Some start) (active_timers old)
    by_cases true same rest e = inl (
        ap (λ p. (p, Some start)) (sym (eqb-true a.pilot pilot same))
        ∙ ap (λ t. (a.pilot, t)) (sym e)
        )
    by_cases false other rest e = inr (rest e)

-- a pilot of the new active set has the timer that it had
after_among : (pilot start : ℕ) (old : List ActivePilot) (subchannel : ℕ) (named : List NamedPilot) →
    IsAmong (pilot, Some start) (active_timers (actives_after old subchannel named)) →
    IsAmong (pilot, Some start) (active_timers old)
after_among pilot start old subchannel [] h = elim h [ ]
after_among pilot start old subchannel (n ∷ named) (inl e) =
    timer_among pilot start old (ap (timer_of old) (ap (λ t. t.0) e) ∙ sym (ap (λ t. t.1) e))
after_among pilot start old subchannel (n ∷ named) (inr h) =
    after_among pilot start old (next_subchannel subchannel named) named h

left_among : (pilot start time : ℕ) (a : ActivePilot) (s : PilotSets) →
    IsAmong (pilot, Some start) (candidate_timers (left time a s).candidates) →
    IsAmong (pilot, Some start) (candidate_timers s.candidates)
left_among pilot start time a s =
    left_is (λ (t : PilotSets). IsAmong (pilot, Some start) (candidate_timers t.candidates) →
    IsAmong (pilot, Some start) (candidate_timers s.candidates)) time a s
    (λ free h. ⊎_elim (λ old. old) (λ new. absurd (none_fresh pilot start (a.pilot ∷ []) new))
    (candidates-append (pilot, Some start) s.candidates (fresh a.pilot ∷ []) h))
    (λ free h. h) (λ h. h)

all_left_among : (pilot start time : ℕ) (xs : List ActivePilot) (s : PilotSets) →
    IsAmong (pilot, Some start) (candidate_timers (all_left time xs s).candidates) →
    IsAmong (pilot, Some start) (candidate_timers s.candidates)
all_left_among pilot start time [] s h = h
all_left_among pilot start time (a ∷ xs) s h =
    left_among pilot start time a s (all_left_among pilot start time xs (left time a s) h)

abbrev leaving_of : Accepted → PilotSets → List ActivePilot
leaving_of direction s = actives_without (pilots_named direction.named) s.active

abbrev others_of : ℕ → Accepted → PilotSets → PilotSets
others_of time direction s = all_left time (leaving_of direction s) (cleared direction s)

handed_off_runs : (pilot start time : ℕ) (direction : Accepted) (s : PilotSets) →
    RunsSince pilot start (handed_off time direction s) → RunsSince pilot start s
handed_off_runs pilot start time direction s h =
    by_cases (among-append (pilot, Some start) (active_timers (actives_after s.active 0 direction.named))
    (candidate_timers (others_of time direction s).candidates) h)
  where
    by_cases : IsAmong (pilot, Some start) (active_timers (actives_after s.active 0 direction.named))
        ⊎ IsAmong (pilot, Some start) (candidate_timers (others_of time direction s).candidates) →
        RunsSince pilot start s
    by_cases (inl h) =
        among_left (pilot, Some start) (active_timers s.active) (candidate_timers s.candidates)
        (after_among pilot start s.active 0 direction.named h)
    by_cases (inr h) =
        among_right (pilot, Some start) (active_timers s.active) (candidate_timers s.candidates) (
        candidates-filter (pilot, Some start)
        (λ (c : CandidatePilot). lacks (pilots_named direction.named) c.pilot) s.candidates
        (all_left_among pilot start time (leaving_of direction s) (cleared direction s) h)
        )

due_runs : (pilot start time : ℕ) (s : Standing) →
    RunsSince pilot start (due_for s.sets.waiting time s).sets → RunsSince pilot start s.sets
due_runs pilot start time s =
    due_is (λ (t : PilotSets). RunsSince pilot start t → RunsSince pilot start s.sets)
    s.sets.waiting time s (λ direction is. handed_off_runs pilot start time direction s.sets) (λ h. h)

-- A MOMENT
-- a timer that runs after a moment ran before, or started at it
timer_started : (strong : Bool) (time start : ℕ) (timer : Option ℕ) →
    timer_after strong time timer ≡ Some start → (timer ≡ Some start) ⊎ (start ≡ time)
timer_started true time start timer e = absurd (some_none (sym e))
timer_started false time start None e = inr (sym (ap (λ t. unwrap_or t 0) e))
timer_started false time start (Some before) e = inl e

one_started : (strong : Bool) (time start pilot p : ℕ) (timer : Option ℕ) →
    ◌≡◌ {A = ℕ × Option ℕ} (pilot, Some start) (p, timer_after strong time timer) →
    (◌≡◌ {A = ℕ × Option ℕ} (pilot, Some start) (p, timer)) ⊎ (start ≡ time)
one_started strong time start pilot p timer e =
    or_now (λ same. ap (λ q. (q, Some start)) (ap (λ t. t.0) e) ∙ ap (λ t. (p, t)) (sym same))
    (timer_started strong time start timer (sym (ap (λ t. t.1) e)))

-- so that of a list of pilots with timers
started : {X : Type 0} (timer_in : X → ℕ × Option ℕ) (f : X → X) (pilot start time : ℕ) →
    ((x : X) → (pilot, Some start) ≡ timer_in (f x) →
    ((pilot, Some start) ≡ timer_in x) ⊎ (start ≡ time)) →
    (xs : List X) → IsAmong (pilot, Some start) (map timer_in (map f xs)) →
    IsAmong (pilot, Some start) (map timer_in xs) ⊎ (start ≡ time)
started timer_in f pilot start time each [] h = elim h [ ]
started timer_in f pilot start time each (x ∷ xs) (inl e) = or_now (λ same. inl same) (each x e)
started timer_in f pilot start time each (x ∷ xs) (inr h) =
    or_now (λ among. inr among) (started timer_in f pilot start time each xs h)

actives_measured : (energy : ℕ → ℕ) (power time pilot start : ℕ) (s : PilotSets) →
    IsAmong (pilot, Some start) (active_timers (timed energy power time s).active) →
    RunsSince pilot start s ⊎ (start ≡ time)
actives_measured energy power time pilot start s h =
    let k = s.thresholds.t_drop in
    or_now (among_left (pilot, Some start) (active_timers s.active) (candidate_timers s.candidates))
    (started (λ (a : ActivePilot). (a.pilot, a.timer)) (active_timed energy k power time) pilot start time
    (λ a. one_started (is_strong k power (energy a.pilot)) time start pilot a.pilot a.timer) s.active h)

candidates_measured : (energy : ℕ → ℕ) (power time pilot start : ℕ) (s : PilotSets) →
    IsAmong (pilot, Some start) (candidate_timers (dropped energy power time s).candidates) →
    RunsSince pilot start s ⊎ (start ≡ time)
candidates_measured energy power time pilot start s h =
    let k = s.thresholds.t_drop in
    or_now (among_right (pilot, Some start) (active_timers s.active) (candidate_timers s.candidates))
    (started (λ (c : CandidatePilot). (c.pilot, c.timer)) (candidate_timed energy k power time) pilot start time
    (λ c. one_started (is_strong k power (energy c.pilot)) time start pilot c.pilot c.timer) s.candidates
    (candidates-filter (pilot, Some start) (stays s.thresholds time) (timed energy power time s).candidates h))

measured_runs : (energy : ℕ → ℕ) (power time : ℕ) (began : List ℕ) (pilot start : ℕ)
    (s : PilotSets) → RunsSince pilot start (measured energy power time began s) →
    RunsSince pilot start s ⊎ (start ≡ time)
measured_runs energy power time began pilot start s h =
    parted (among-append (pilot, Some start) (active_timers (timed energy power time s).active)
    (candidate_timers (measured energy power time began s).candidates) h)
  where
    joined : IsAmong (pilot, Some start) (candidate_timers (dropped energy power time s).candidates)
        ⊎ IsAmong (pilot, Some start) (candidate_timers (map fresh (moving_up energy power time began s))) →
        RunsSince pilot start s ⊎ (start ≡ time)
    joined (inl h) = candidates_measured energy power time pilot start s h
    joined (inr h) = absurd (none_fresh pilot start (moving_up energy power time began s) h)

    parted : IsAmong (pilot, Some start) (active_timers (timed energy power time s).active)
        ⊎ IsAmong (pilot, Some start) (candidate_timers (measured energy power time began s).candidates) →
        RunsSince pilot start s ⊎ (start ≡ time)
    parted (inl h) = actives_measured energy power time pilot start s h
    parted (inr h) = joined (
        candidates-append (pilot, Some start) (dropped energy power time s).candidates
        (map fresh (moving_up energy power time began s)) h
        )

-- CALLS
pub keeps : (call : Call) (pilot start : ℕ) (s : Standing) →
    RunsSince pilot start (after_call call s).sets → RunsSince pilot start s.sets ⊎ Starts start call
keeps (Parameters t) pilot start s h = inl h
keeps (Neighbors heard) pilot start s h = inl h
keeps (Direct first d) pilot start s h = inl (
    directed_is (λ (t : PilotSets). RunsSince pilot start t → RunsSince pilot start s.sets) first d s
    (λ accepted runs. runs) (λ runs. runs) h
    )
keeps (Due time) pilot start s h = inl (due_runs pilot start time s h)
keeps (Step strengths power time) pilot start s h =
    measured_runs (energy_in strengths) power time (began_in s).neighbors pilot start s.sets h

-- THE SETS OF A TIMER
timer_has : {X : Type 0} (pilot_in : X → ℕ) (timer_in : X → Option ℕ) (pilot : ℕ) (timer : Option ℕ) (xs : List X) →
    IsAmong (pilot, timer) (map (λ x. (pilot_in x, timer_in x)) xs) → has (map pilot_in xs) pilot ≡ true
timer_has pilot_in timer_in pilot timer [] h = elim h [ ]
timer_has pilot_in timer_in pilot timer (x ∷ xs) (inl e) =
    ap (λ b. b || has (map pilot_in xs) pilot) (eq-eqb pilot (pilot_in x) (ap (λ t. t.0) e))
timer_has pilot_in timer_in pilot timer (x ∷ xs) (inr h) =
    ap (λ b. nat_eq pilot (pilot_in x) || b) (timer_has pilot_in timer_in pilot timer xs h)
    ∙ or_true (nat_eq pilot (pilot_in x))
  where
    or_true : (b : Bool) → (b || true) ≡ true
    or_true true = refl
    or_true false = refl

pub only : (pilot start : ℕ) (s : PilotSets) → RunsSince pilot start s → has (timed_pilots s) pilot ≡ true
only pilot start s h =
    list_any-append (nat_eq pilot) (active_pilots s) (candidate_pilots s)
    ∙ by_cases (among-append (pilot, Some start) (active_timers s.active) (candidate_timers s.candidates) h)
  where
    by_cases : IsAmong (pilot, Some start) (active_timers s.active)
        ⊎ IsAmong (pilot, Some start) (candidate_timers s.candidates) →
        (has (active_pilots s) pilot || has (candidate_pilots s) pilot) ≡ true
    by_cases (inl h) =
        ap (λ b. b || has (candidate_pilots s) pilot)
        (timer_has (λ (a : ActivePilot). a.pilot) (λ a. a.timer) pilot (Some start) s.active h)
    by_cases (inr h) =
        right (has (active_pilots s) pilot)
        (timer_has (λ (c : CandidatePilot). c.pilot) (λ c. c.timer) pilot (Some start) s.candidates h)
      where
        right : (b : Bool) → has (candidate_pilots s) pilot ≡ true → (b || has (candidate_pilots s) pilot) ≡ true
        right true e = refl
        right false e = e

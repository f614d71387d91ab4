-- What lasts over any sequence of calls.
use Rattle.pilot_sets.proofs.Common.{◌≡◌, ◌≢◌, ◌<◌, ◌≤◌, ◌-◌, ℕ, Bool, true, false, cond, if◌then◌else◌, List, [], ◌∷◌, ◌++◌, length, map}
use Rattle.pilot_sets.proofs.Common.{filter, take, suc, Option, Some, None, ap, sym, ◌∙◌, subst, arith, length-append, length-map, ne_eqb}
use Rattle.pilot_sets.proofs.Common.{length-take, All-head, All-tail, All, DirectionFields, lacks, without, firsts, timed_pilots, fresh}
use Rattle.pilot_sets.proofs.Common.{IsDirection, direction_fault, named_pilots, accepted_of, pilots_named, actives_without, left, all_left}
use Rattle.pilot_sets.proofs.Common.{cleared, handed_off, energy_in, active_timed, candidate_timed, timed, stays, pilots_going, rises, Call}
use Rattle.pilot_sets.proofs.Common.{dropped, moving_up, measured, IsActiveSetIfAny, IsOrderly, Standing, new_standing, unless_refused, Due}
use Rattle.pilot_sets.proofs.Common.{directed, began_in, due_for, due_at, after_call, after_all, IsLawfulCall, AreApart, LeavesWaiting}
use Rattle.pilot_sets.proofs.Common.{Parameters, Neighbors, Direct, Step, DirectionFault, ActivePilot, CandidatePilot, Accepted, PilotSets}
use Rattle.pilot_sets.proofs.Refusals.{accepted_few}
use Rattle.pilot_sets.proofs.Steps.{left_is, due_is, directed_is}
use Rattle.pilot_sets.proofs.Times.{once_at_most}
use Rattle.pilot_sets.proofs.Orders.{new_orderly, neighbors_orderly, thresholds_orderly, waiting_orderly, accepted_active_set, length-after}
use Rattle.pilot_sets.proofs.Orders.{handed_off_orderly, measured_orderly, handed_off-waiting}

-- IN ORDER
directed_orderly : (first : ℕ) (d : DirectionFields) (s : Standing) → IsDirection d →
    IsOrderly s.sets → IsOrderly (directed first d s).sets
directed_orderly first d s lawful h =
    directed_is IsOrderly first d s
    (λ e. waiting_orderly (accepted_of first d) s.sets (accepted_active_set first d lawful e) h) h

orderly_after : (call : Call) (s : Standing) → IsLawfulCall call → IsOrderly s.sets → IsOrderly (after_call call s).sets
orderly_after (Parameters t) s lawful h = thresholds_orderly t s.sets h
orderly_after (Neighbors heard) s lawful h = neighbors_orderly heard s.sets lawful h
orderly_after (Direct first d) s lawful h = directed_orderly first d s lawful h
orderly_after (Due time) s lawful h =
    due_is IsOrderly s.sets.waiting time s
    (λ direction is. handed_off_orderly time direction s.sets h (subst IsActiveSetIfAny is h.waiting)) h
orderly_after (Step strengths power time) s lawful h =
    measured_orderly (energy_in strengths) power time (began_in s).neighbors s.sets h

-- WITHIN LIMITS
abbrev IsFewIfAny : Option Accepted → Type 0
IsFewIfAny None = Unit {0}
IsFewIfAny (Some direction) = length direction.named ≤ 6

record AreFew (s : PilotSets) : Type 0 where
  active : length s.active ≤ 6
  candidates : length s.candidates ≤ 10
  neighbors : length s.neighbors ≤ 20
  waiting : IsFewIfAny s.waiting

length-filter_le : {X : Type 0} (test : X → Bool) (xs : List X) → length (filter test xs) ≤ length xs
length-filter_le test [] = omega arith
length-filter_le {X} test (x ∷ xs) = by_cases (test x) (length-filter_le test xs)
  where
    by_cases : (b : Bool) → length (filter test xs) ≤ length xs →
        length (cond b (x ∷ filter test xs) (filter test xs)) ≤ suc (length xs)
    by_cases true ih = omega (arith, ih)
    by_cases false ih = omega (arith, ih)

length-take_within : {X : Type 0} (n : ℕ) (xs : List X) → length (take n xs) ≤ n
length-take_within n xs = omega (arith, length-take n xs)

length-named : (ps cs rs : List ℕ) → length (named_pilots ps cs rs) ≤ length ps
length-named [] cs rs = omega arith
length-named (p ∷ ps) [] rs = omega arith
length-named (p ∷ ps) (c ∷ cs) [] = omega arith
length-named (p ∷ ps) (c ∷ cs) (r ∷ rs) = omega (arith, length-named ps cs rs)

left_few : (time : ℕ) (a : ActivePilot) (s : PilotSets) → length s.candidates ≤ 10 → length s.neighbors ≤ 20 →
    (length (left time a s).candidates ≤ 10) × (length (left time a s).neighbors ≤ 20)
left_few time a s few some =
    left_is (λ (t : PilotSets). (length t.candidates ≤ 10) × (length t.neighbors ≤ 20)) time a s
    (λ free. (omega (arith, free, length-append s.candidates (fresh a.pilot ∷ [])), some))
    (λ free. (few, omega (arith, free, length-append s.neighbors (a.pilot ∷ [])))) (few, some)

all_left_few : (time : ℕ) (xs : List ActivePilot) (s : PilotSets) → length s.candidates ≤ 10 → length s.neighbors ≤ 20 →
    (length (all_left time xs s).candidates ≤ 10) × (length (all_left time xs s).neighbors ≤ 20)
all_left_few time [] s few some = (few, some)
all_left_few time (a ∷ xs) s few some =
    let one = left_few time a s few some in
    all_left_few time xs (left time a s) one.0 one.1

handed_off_few : (time : ℕ) (direction : Accepted) (s : PilotSets) → AreFew s →
    length direction.named ≤ 6 → AreFew (handed_off time direction s)
handed_off_few time direction s h few = record {
  active = omega (arith, length-after s.active 0 direction.named, few);
  candidates = others.0;
  neighbors = others.1;
  waiting = subst IsFewIfAny (sym (handed_off-waiting time direction s)) tt;
}
  where
    others : (length (handed_off time direction s).candidates ≤ 10)
        × (length (handed_off time direction s).neighbors ≤ 20)
    others =
        all_left_few time (actives_without (pilots_named direction.named) s.active) (cleared direction s)
        (omega (
          arith,
          h.candidates,
          length-filter_le (λ (c : CandidatePilot). lacks (pilots_named direction.named) c.pilot)
              s.candidates,
        ))
        (omega (arith, h.neighbors, length-filter_le (lacks (pilots_named direction.named)) s.neighbors))

directed_few : (first : ℕ) (d : DirectionFields) (s : Standing) → AreFew s.sets → AreFew (directed first d s).sets
directed_few first d s h =
    directed_is AreFew first d s
    (λ e. record {
      active = h.active;
      candidates = h.candidates;
      neighbors = h.neighbors;
      waiting = omega (arith, length-named d.pns d.combs d.rows, accepted_few d.pns d.rows e);
    }) h

dropped_few : (energy : ℕ → ℕ) (power time : ℕ) (s : PilotSets) → length s.candidates ≤ 10 →
    length (dropped energy power time s).candidates ≤ 10
dropped_few energy power time s few =
    let t : PilotSets = timed energy power time s in
    omega (
      arith,
      few,
      length-filter_le (stays s.thresholds time) t.candidates,
      length-map s.candidates (candidate_timed energy s.thresholds.t_drop power time),
    )

measured_few : (energy : ℕ → ℕ) (power time : ℕ) (began : List ℕ) (s : PilotSets) → AreFew s →
    AreFew (measured energy power time began s)
measured_few energy power time began s h = record {
  active = omega (arith, h.active, length-map s.active (active_timed energy s.thresholds.t_drop power time));
  candidates =
      let d : PilotSets = dropped energy power time s in
      let up : List ℕ = moving_up energy power time began s in
      omega (
        arith,
        dropped_few energy power time s h.candidates,
        length-append d.candidates (map fresh up),
        length-map up fresh,
        length-take_within (10 - length d.candidates)
            (filter (rises energy s.thresholds.t_add power began) d.neighbors),
      );
  neighbors =
      let t : PilotSets = timed energy power time s in
      let d : PilotSets = dropped energy power time s in
      let up : List ℕ = moving_up energy power time began s in
      omega (
        arith,
        length-filter_le (lacks up) d.neighbors,
        length-take_within 20 (s.neighbors ++ pilots_going s.thresholds time t.candidates),
      );
  waiting = h.waiting;
}

few_after : (call : Call) (s : Standing) → AreFew s.sets → AreFew (after_call call s).sets
few_after (Parameters t) s h = record {
  active = h.active;
  candidates = h.candidates;
  neighbors = h.neighbors;
  waiting = h.waiting;
}
few_after (Neighbors heard) s h = record {
  active = h.active;
  candidates = h.candidates;
  neighbors = length-take_within 20 (without (timed_pilots s.sets) (firsts [] heard));
  waiting = h.waiting;
}
few_after (Direct first d) s h = directed_few first d s h
few_after (Due time) s h =
    due_is AreFew s.sets.waiting time s
    (λ direction is. handed_off_few time direction s.sets h (subst IsFewIfAny is h.waiting)) h
few_after (Step strengths power time) s h =
    measured_few (energy_in strengths) power time (began_in s).neighbors s.sets h

-- APART
all_apart : (calls : List Call) (s : Standing) → All IsLawfulCall calls → IsOrderly s.sets →
    AreFew s.sets → AreApart (after_all calls s).sets
all_apart [] s lawful h few = record {
  once = λ p. omega (arith, h.once p, once_at_most p);
  some = h.some;
  active = few.active;
  candidates = few.candidates;
  neighbors = few.neighbors;
}
all_apart (call ∷ calls) s lawful h few =
    all_apart calls (after_call call s) (All-tail IsLawfulCall call calls lawful)
    (orderly_after call s (All-head IsLawfulCall call calls lawful) h) (few_after call s few)

pub sets_stay_apart : (pilot row : ℕ) (calls : List Call) → pilot < 512 → row < 64 → All IsLawfulCall calls →
    AreApart (after_all calls (new_standing pilot row)).sets
sets_stay_apart pilot row calls offset on_row lawful =
    all_apart calls (new_standing pilot row) lawful (new_orderly pilot row offset on_row) (record {
      active = omega arith;
      candidates = omega arith;
      neighbors = omega arith;
      waiting = tt;
    })

-- A DIRECTION WAITS
pub refused_same : (first : ℕ) (d : DirectionFields) (fault : DirectionFault) (s : Standing) →
    direction_fault d ≡ Some fault → directed first d s ≡ s
refused_same first d fault s e = ap (λ f. unless_refused f (accepted_of first d) s) e

pub not_before : (time : ℕ) (direction : Accepted) (s : Standing) →
    s.sets.waiting ≡ Some direction → time ≢ direction.time → due_at time s ≡ s
not_before time direction s e other =
    ap (λ w. due_for w time s) e
    ∙ ap (λ b. if b
    then record s { sets = handed_off time direction s.sets; began = Some (began_in s) }
    else s) (ne_eqb direction.time time (λ same. other (sym same)))

waits_after : (call : Call) (direction : Accepted) (s : Standing) →
    s.sets.waiting ≡ Some direction → LeavesWaiting direction call → (after_call call s).sets.waiting ≡ Some direction
waits_after (Parameters t) direction s e leaves = e
waits_after (Neighbors heard) direction s e leaves = e
waits_after (Direct first d) direction s e leaves =
    ap (λ (u : Standing). u.sets.waiting) (refused_same first d leaves.0 s leaves.1) ∙ e
waits_after (Due time) direction s e leaves =
    ap (λ (u : Standing). u.sets.waiting) (not_before time direction s e leaves) ∙ e
waits_after (Step strengths power time) direction s e leaves = e

pub waits : (calls : List Call) (direction : Accepted) (s : Standing) →
    s.sets.waiting ≡ Some direction → All (LeavesWaiting direction) calls →
    (after_all calls s).sets.waiting ≡ Some direction
waits [] direction s e leave = e
waits (call ∷ calls) direction s e leave =
    waits calls direction (after_call call s)
    (waits_after call direction s e (All-head (LeavesWaiting direction) call calls leave))
    (All-tail (LeavesWaiting direction) call calls leave)

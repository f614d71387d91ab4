-- Worked values of the pilot sets.
use Rattle.pilot_sets.specs.Common.{DirectionFields, SetChange, TooMany, Unknown, Twice, PilotSets}
use Rattle.pilot_sets.specs.Common.{ActivePilot, Thresholds}
use Rattle.std.specs.Prelude.{◌≡◌, refl, ℕ, Bool, true, false, List, [], ◌∷◌, ◌++◌, length, map}
use Rattle.std.specs.Prelude.{pos, Option, Some, None}
use Rattle.std.specs.List.{range_with_len}
use Rattle.pilot_sets.specs.PilotSets.{first_thresholds, candidate_pilots}
use Rattle.pilot_sets.specs.Handoffs.{fresh, left}
use Rattle.pilot_sets.specs.Directions.{direction_fault, direction_time}
use Rattle.pilot_sets.specs.Standing.{Standing, new_standing, stepped, change_at}
use Rattle.pilot_sets.specs.Histories.{Call, after_call, after_all, timers}
use Rattle.pilot_sets.specs.Histories.Call.{Parameters, Neighbors, Direct, Due, Step}
use Rattle.pilot_sets.specs.declared.strengths.Strength.{Strength}

strength : ℕ → ℕ → Strength
strength pilot energy = record { pilot = pilot; energy = energy; delta = pos 0 }

-- T_ADD, T_DROP, T_COMP, T_TDROP
thresholds : ℕ → ℕ → ℕ → ℕ → Thresholds
thresholds add drop comp tdrop = record first_thresholds {
  t_add = add;
  t_drop = drop;
  t_comp = comp;
  t_tdrop = tdrop;
}

-- the pilot, the combination bit and the row of a direction's record
record Leg : Type 0 where
  pilot : ℕ
  combined : ℕ
  row : ℕ

leg : ℕ → ℕ → ℕ → Leg
leg pilot combined row = record { pilot = pilot; combined = combined; row = row }

direction : ℕ → ℕ → List Leg → DirectionFields
direction use_time action legs = record {
  use_time = use_time;
  action = action;
  hdm = 0;
  search = None;
  extra = [];
  pns = map (λ (l : Leg). l.pilot) legs;
  combs = map (λ (l : Leg). l.combined) legs;
  rows = map (λ (l : Leg). l.row) legs;
  rest = [];
}

-- a direction that carries thresholds with this T_TDROP
searching : ℕ → DirectionFields → DirectionFields
searching ttdrop d =
    record d {
      search = Some (record { wina = 6; tadd = 1; tdrop = 2; tcomp = 3; ttdrop = ttdrop });
    }

-- WHEN A TIMER STARTS
home : Standing
home = new_standing 7 10

one : Standing
one = record home { sets = record home.sets { thresholds = thresholds 28 0 5 3 } }

timers_at_1 : ℕ → ℕ → List (ℕ × Option ℕ)
timers_at_1 energy power = timers (stepped (strength 7 energy ∷ []) power 1 one).sets

strong : timers_at_1 1048576 1024 ≡ (7, None) ∷ []
unfolding timers_at_1 one home strength thresholds
strong = refl

weak : timers_at_1 1048575 1024 ≡ (7, Some 1) ∷ []
unfolding timers_at_1 one home strength thresholds
weak = refl

silent : timers_at_1 0 0 ≡ (7, Some 1) ∷ []
unfolding timers_at_1 one home strength thresholds
silent = refl

-- REFUSED DIRECTIONS
refused : map (λ legs. direction_fault (direction 0 0 legs)) (
    map (λ k. leg k 0 10) (range_with_len 0 7)
    ∷ (leg 1 0 10 ∷ leg 1 0 32 ∷ leg 3 0 64 ∷ [])
    ∷ (leg 5 0 10 ∷ leg 6 0 11 ∷ leg 6 0 12 ∷ leg 5 0 13 ∷ [])
    ∷ map (λ k. leg k 0 63) (range_with_len 0 6)
    ∷ []
    )
    ≡ Some (TooMany 7) ∷ Some (Unknown 32) ∷ Some (Twice 6) ∷ None ∷ []
unfolding direction leg
refused = refl

-- WHEN A DIRECTION TAKES EFFECT
takes_effect : map (λ (action : ℕ). direction_time 1008 (direction 1 action [])) (47 ∷ 48 ∷ 49 ∷ [])
    ≡ 1071 ∷ 1008 ∷ 1009 ∷ []
unfolding direction leg
takes_effect = refl

takes_effect_next : direction_time 1008 (direction 0 49 []) ≡ 1009
unfolding direction leg
takes_effect_next = refl

-- WHERE AN ACTIVE PILOT GOES
crowded : ℕ → ℕ → PilotSets
crowded candidates neighbors = record home.sets {
  candidates = map fresh (range_with_len 100 candidates);
  neighbors = range_with_len 200 neighbors;
}

leaving : Option ℕ → ActivePilot
leaving timer = record { pilot = 7; row = 10; subchannel = 0; timer = timer }

-- the numbers of candidates and neighbors after it has left, if its timer has run for 49 or 50
-- moments of 80 ms or doesn't run; the drop timer is 4,000 ms
numbers : List (ℕ × ℕ × Option ℕ) → List (ℕ × ℕ)
numbers [] = []
numbers ((candidates, neighbors, timer) ∷ cases) =
    let after : PilotSets = left 60 (leaving timer) (crowded candidates neighbors) in
    (length after.candidates, length after.neighbors) ∷ numbers cases

room : numbers (
    (9, 19, None)
    ∷ (9, 19, Some 11)
    ∷ (9, 19, Some 10)
    ∷ (10, 19, None)
    ∷ (10, 20, None)
    ∷ (9, 20, Some 10)
    ∷ []
    )
    ≡ (10, 19) ∷ (10, 19) ∷ (9, 20) ∷ (10, 20) ∷ (10, 20) ∷ (9, 20) ∷ []
unfolding numbers crowded leaving home
room = refl

-- HISTORIES
-- the state after calls on new sets of pilot 7 on row 10: the active set as pilot, row and
-- subchannel, the candidates, the neighbors and the running timers; and for each step, whether the
-- lists have changed and whether a report is due
abbrev running : List (ℕ × Option ℕ) → List (ℕ × ℕ)
running [] = []
running ((p, None) ∷ ts) = running ts
running ((p, Some start) ∷ ts) = (p, start) ∷ running ts

abbrev shown_change : SetChange → Bool × Bool
shown_change c = (c.changed, c.report)

abbrev change_of : Call → Standing → List (Bool × Bool)
change_of (Parameters t) s = []
change_of (Neighbors heard) s = []
change_of (Direct first d) s = []
change_of (Due time) s = []
change_of (Step strengths power time) s = shown_change (change_at strengths power time s) ∷ []

abbrev changes : List Call → Standing → List (Bool × Bool)
changes [] s = []
changes (call ∷ calls) s = change_of call s ++ changes calls (after_call call s)

abbrev Story : Type 0
Story = List (ℕ × ℕ × ℕ) × List ℕ × List ℕ × List (ℕ × ℕ) × List (Bool × Bool)

abbrev left_by : Standing → List (Bool × Bool) → Story
left_by s seen = (
  map (λ (a : ActivePilot). (a.pilot, a.row, a.subchannel)) s.sets.active,
  candidate_pilots s.sets,
  s.sets.neighbors,
  running (timers s.sets),
  seen,
)

story : List Call → Story
story calls = left_by (after_all calls (new_standing 7 10)) (changes calls (new_standing 7 10))

-- a neighbor list loses its repeats, and the pilots of the other sets
heard : story
    (Neighbors (9 ∷ 7 ∷ 9 ∷ 8 ∷ 300 ∷ 8 ∷ [])
    ∷ [])
    ≡ ((7, 10, 0) ∷ [], [], 9 ∷ 8 ∷ 300 ∷ [], [], [])
unfolding story strength thresholds direction searching leg
heard = refl

-- a strong neighbor becomes a candidate, which is reported; at equality it is strong
rises : story
    (Parameters (thresholds 0 0 15 15)
    ∷ Neighbors (8 ∷ 9 ∷ [])
    ∷ Step (strength 7 1024 ∷ strength 8 1024 ∷ strength 9 1023 ∷ []) 1 1
    ∷ [])
    ≡ ((7, 10, 0) ∷ [], 8 ∷ [], 9 ∷ [], [], (true, true) ∷ [])
unfolding story strength thresholds direction searching leg
rises = refl

-- a timer starts when its pilot is weak, continues, and stops when the pilot is strong
stops : story
    (Parameters (thresholds 0 0 15 15)
    ∷ Step (strength 7 1023 ∷ []) 1 1
    ∷ Step (strength 7 5 ∷ []) 1 2
    ∷ Step (strength 7 1024 ∷ []) 1 3
    ∷ Step (strength 7 0 ∷ []) 1 4
    ∷ [])
    ≡ (
      (7, 10, 0) ∷ [],
      [],
      [],
      (7, 4) ∷ [],
      (false, false) ∷ (false, false) ∷ (false, false) ∷ (false, false) ∷ [],
    )
unfolding story strength thresholds direction searching leg
stops = refl

-- a candidate whose timer has run for 100 ms becomes the last neighbor
expires : story
    (Parameters (thresholds 0 0 15 0)
    ∷ Neighbors (8 ∷ 9 ∷ [])
    ∷ Step (strength 7 1024 ∷ strength 8 1024 ∷ strength 9 0 ∷ []) 1 1
    ∷ Step (strength 7 1024 ∷ strength 8 1 ∷ strength 9 0 ∷ []) 1 2
    ∷ Step (strength 7 1024 ∷ strength 8 1 ∷ strength 9 0 ∷ []) 1 3
    ∷ Step (strength 7 1024 ∷ strength 8 1 ∷ strength 9 0 ∷ []) 1 4
    ∷ [])
    ≡ (
      (7, 10, 0) ∷ [],
      [],
      9 ∷ 8 ∷ [],
      [],
      (true, true) ∷ (false, false) ∷ (false, false) ∷ (true, false) ∷ [],
    )
unfolding story strength thresholds direction searching leg
expires = refl

-- a pilot that became a neighbor in this moment rises at the next one
waits_once : story
    (Parameters (thresholds 63 0 15 0)
    ∷ Neighbors (8 ∷ [])
    ∷ Step (strength 7 1024 ∷ strength 8 1023 ∷ []) 1 1
    ∷ Step (strength 7 1024 ∷ strength 8 1023 ∷ []) 1 2
    ∷ Step (strength 7 1024 ∷ strength 8 1023 ∷ []) 1 3
    ∷ Step (strength 7 1024 ∷ strength 8 1023 ∷ []) 1 4
    ∷ Step (strength 7 1024 ∷ strength 8 1023 ∷ []) 1 5
    ∷ [])
    ≡ (
      (7, 10, 0) ∷ [],
      8 ∷ [],
      [],
      [],
      (true, true) ∷ (false, false) ∷ (false, false) ∷ (true, false) ∷ (true, true) ∷ [],
    )
unfolding story strength thresholds direction searching leg
waits_once = refl

-- an expired timer of an active pilot is reported at every moment
reported : story
    (Parameters (thresholds 0 0 15 0)
    ∷ Step (strength 7 0 ∷ []) 1 1
    ∷ Step (strength 7 0 ∷ []) 1 2
    ∷ Step (strength 7 0 ∷ []) 1 3
    ∷ Step (strength 7 0 ∷ []) 1 4
    ∷ [])
    ≡ (
      (7, 10, 0) ∷ [],
      [],
      [],
      (7, 1) ∷ [],
      (false, false) ∷ (false, false) ∷ (false, true) ∷ (false, true) ∷ [],
    )
unfolding story strength thresholds direction searching leg
reported = refl

-- a candidate that is above an active pilot is reported; one that is level with it isn't
above : story
    (Parameters (thresholds 0 0 0 15)
    ∷ Neighbors (8 ∷ [])
    ∷ Step (strength 7 2000 ∷ strength 8 1500 ∷ []) 1 1
    ∷ Step (strength 7 2000 ∷ strength 8 2000 ∷ []) 1 2
    ∷ Step (strength 7 2000 ∷ strength 8 2001 ∷ []) 1 3
    ∷ [])
    ≡ ((7, 10, 0) ∷ [], 8 ∷ [], [], [], (true, true) ∷ (false, false) ∷ (false, true) ∷ [])
unfolding story strength thresholds direction searching leg
above = refl

-- a direction moves a candidate up; an active pilot that stays keeps its timer
takes_over : story
    (Parameters (thresholds 0 0 15 15)
    ∷ Neighbors (8 ∷ 9 ∷ [])
    ∷ Step (strength 7 5 ∷ strength 8 1024 ∷ strength 9 0 ∷ []) 1 1
    ∷ Direct 1 (direction 0 0 (leg 8 0 11 ∷ leg 7 1 12 ∷ leg 9 0 13 ∷ []))
    ∷ Due 2
    ∷ Step (strength 8 1024 ∷ strength 7 5 ∷ strength 9 1024 ∷ []) 1 2
    ∷ [])
    ≡ (
      (8, 11, 0) ∷ (7, 12, 0) ∷ (9, 13, 1) ∷ [],
      [],
      [],
      (7, 1) ∷ [],
      (true, true) ∷ (true, false) ∷ [],
    )
unfolding story strength thresholds direction searching leg
takes_over = refl

-- a direction that changes only rows changes the active list
changes_rows : story
    (Direct 5 (direction 0 0 (leg 7 0 20 ∷ []))
    ∷ Due 6
    ∷ Step (strength 7 0 ∷ []) 0 6
    ∷ [])
    ≡ ((7, 20, 0) ∷ [], [], [], (7, 6) ∷ [], (true, false) ∷ [])
unfolding story strength thresholds direction searching leg
changes_rows = refl

-- an active pilot that a direction leaves out becomes a candidate without a timer, and no report is
-- due
leaves : story
    (Parameters (thresholds 0 0 15 15)
    ∷ Neighbors (8 ∷ [])
    ∷ Step (strength 7 5 ∷ strength 8 3 ∷ []) 1 1
    ∷ Direct 1 (direction 0 0 (leg 8 0 11 ∷ []))
    ∷ Due 2
    ∷ Step (strength 8 1024 ∷ strength 7 1024 ∷ []) 1 2
    ∷ [])
    ≡ ((8, 11, 0) ∷ [], 7 ∷ [], [], [], (false, false) ∷ (true, false) ∷ [])
unfolding story strength thresholds direction searching leg
leaves = refl

-- but it becomes a neighbor if its timer has expired by the direction's own drop time
leaves_late : story
    (Parameters (thresholds 0 0 15 15)
    ∷ Neighbors (8 ∷ [])
    ∷ Step (strength 7 5 ∷ strength 8 0 ∷ []) 1 1
    ∷ Step (strength 7 5 ∷ strength 8 0 ∷ []) 1 2
    ∷ Direct 2 (searching 0 (direction 0 0 (leg 8 0 11 ∷ [])))
    ∷ Due 3
    ∷ Step (strength 8 1024 ∷ strength 7 0 ∷ []) 1 3
    ∷ [])
    ≡ ((8, 11, 0) ∷ [], [], 7 ∷ [], [], (false, false) ∷ (false, false) ∷ (true, false) ∷ [])
unfolding story strength thresholds direction searching leg
leaves_late = refl

-- and a candidate if the direction's drop time is longer
leaves_in_time : story
    (Parameters (thresholds 0 0 15 0)
    ∷ Neighbors (8 ∷ [])
    ∷ Step (strength 7 5 ∷ strength 8 0 ∷ []) 1 1
    ∷ Step (strength 7 5 ∷ strength 8 0 ∷ []) 1 2
    ∷ Direct 2 (searching 1 (direction 0 0 (leg 8 0 11 ∷ [])))
    ∷ Due 3
    ∷ Step (strength 8 1024 ∷ strength 7 0 ∷ []) 1 3
    ∷ [])
    ≡ (
      (8, 11, 0) ∷ [],
      7 ∷ [],
      [],
      (7, 3) ∷ [],
      (false, false) ∷ (false, false) ∷ (true, false) ∷ [],
    )
unfolding story strength thresholds direction searching leg
leaves_in_time = refl

-- the first combination bit has no effect; each later one joins a pilot to the one before it
subchannels : story
    (Direct 0 (direction 0 0 (leg 1 1 1 ∷ leg 2 1 2 ∷ leg 3 0 3 ∷ leg 4 1 4 ∷ leg 5 0 5
    ∷ leg 6 0 6 ∷ []))
    ∷ Due 1
    ∷ Step (strength 1 0 ∷ strength 2 0 ∷ strength 3 0 ∷ strength 4 0 ∷ strength 5 0
    ∷ strength 6 0 ∷ strength 7 0 ∷ []) 0 1
    ∷ [])
    ≡ (
      (1, 1, 0) ∷ (2, 2, 0) ∷ (3, 3, 1) ∷ (4, 4, 1) ∷ (5, 5, 2) ∷ (6, 6, 3) ∷ [],
      7 ∷ [],
      [],
      (1, 1) ∷ (2, 1) ∷ (3, 1) ∷ (4, 1) ∷ (5, 1) ∷ (6, 1) ∷ (7, 1) ∷ [],
      (true, false) ∷ [],
    )
unfolding story strength thresholds direction searching leg
subchannels = refl

-- a direction waits for its action time
action_time : story
    (Neighbors (8 ∷ [])
    ∷ Direct 1008 (direction 1 49 (leg 8 0 20 ∷ []))
    ∷ Due 1008
    ∷ Step (strength 7 0 ∷ strength 8 0 ∷ []) 0 1008
    ∷ Due 1009
    ∷ Step (strength 8 0 ∷ strength 7 0 ∷ []) 0 1009
    ∷ [])
    ≡ ((8, 20, 0) ∷ [], 7 ∷ [], [], (8, 1009) ∷ (7, 1009) ∷ [], (false, false) ∷ (true, false) ∷ [])
unfolding story strength thresholds direction searching leg
action_time = refl

-- a later direction replaces a waiting one
replaced : story
    (Direct 10 (direction 1 20 (leg 8 0 20 ∷ []))
    ∷ Direct 12 (direction 0 0 (leg 9 0 21 ∷ []))
    ∷ Due 13
    ∷ Step (strength 9 0 ∷ strength 7 0 ∷ []) 0 13
    ∷ Due 20
    ∷ Step (strength 9 0 ∷ strength 7 0 ∷ []) 0 20
    ∷ [])
    ≡ ((9, 21, 0) ∷ [], 7 ∷ [], [], (9, 13) ∷ (7, 13) ∷ [], (true, false) ∷ (false, false) ∷ [])
unfolding story strength thresholds direction searching leg
replaced = refl

-- a refused direction doesn't
refused_waits : story
    (Direct 10 (direction 0 0 (leg 8 0 20 ∷ []))
    ∷ Direct 10 (direction 0 0 (leg 9 0 32 ∷ []))
    ∷ Due 11
    ∷ Step (strength 8 0 ∷ strength 7 0 ∷ []) 0 11
    ∷ [])
    ≡ ((8, 20, 0) ∷ [], 7 ∷ [], [], (8, 11) ∷ (7, 11) ∷ [], (true, false) ∷ [])
unfolding story strength thresholds direction searching leg
refused_waits = refl

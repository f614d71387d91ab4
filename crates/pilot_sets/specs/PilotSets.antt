-- The pilot sets of a handset (after TIA/EIA-95-B, 6.6.6.2) as lists, and how they change between
-- moments.
use Rattle.pilot_sets.specs.Common.{Thresholds, ActivePilot, CandidatePilot, PilotSets}
use Rattle.std.specs.Prelude.{ℕ, List, [], ◌∷◌, ◌++◌, map, take, None}
use Rattle.pilot_sets.specs.Pilots.{firsts, without}

abbrev pub pilots_of_actives : List ActivePilot → List ℕ
pilots_of_actives actives = map (λ (a : ActivePilot). a.pilot) actives

abbrev pub pilots_of_candidates : List CandidatePilot → List ℕ
pilots_of_candidates candidates = map (λ (c : CandidatePilot). c.pilot) candidates

abbrev pub active_pilots : PilotSets → List ℕ
active_pilots s = pilots_of_actives s.active

abbrev pub candidate_pilots : PilotSets → List ℕ
candidate_pilots s = pilots_of_candidates s.candidates

-- the pilots that have a timer
abbrev pub timed_pilots : PilotSets → List ℕ
timed_pilots s = active_pilots s ++ candidate_pilots s

-- the pilots that are measured, in order
abbrev pub pilots : PilotSets → List ℕ
pilots s = timed_pilots s ++ s.neighbors

-- THE START
abbrev pub first_thresholds : Thresholds
first_thresholds = record { win_a = 5; win_n = 7; t_add = 28; t_drop = 32; t_comp = 5; t_tdrop = 3 }

-- one active pilot, on the row of a traffic channel
abbrev pub new_sets : ℕ → ℕ → PilotSets
new_sets pilot row = record {
  active = record { pilot = pilot; row = row; subchannel = 0; timer = None } ∷ [];
  candidates = [];
  neighbors = [];
  thresholds = first_thresholds;
  waiting = None;
}

-- BETWEEN MOMENTS
-- the new neighbors: the first 20 distinct pilots of a list that have no timer
abbrev pub neighbors_heard : List ℕ → PilotSets → PilotSets
neighbors_heard heard s =
    record s { neighbors = take 20 (without (timed_pilots s) (firsts [] heard)) }

abbrev pub thresholds_heard : Thresholds → PilotSets → PilotSets
thresholds_heard t s = record s { thresholds = t }

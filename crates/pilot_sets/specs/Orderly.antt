-- Sets in order: no pilot is in two sets or twice in one, each is an offset below 512, at least one
-- is active, and a waiting direction orders such an active set.
use Rattle.pilot_sets.specs.Common.{ActivePilot, NamedPilot, Accepted, PilotSets}
use Rattle.std.specs.Prelude.{ℕ, ℤ, ◌+◌, ◌<◌, ◌≤◌, ◌≡◌, cond, List, [], ◌∷◌, length, nat_eq, nat_lt}
use Rattle.std.specs.Prelude.{Option, Some, None}
use Rattle.std.specs.List.{All}
use Rattle.pilot_sets.specs.PilotSets.{active_pilots, candidate_pilots}
use Rattle.pilot_sets.specs.Handoffs.{pilots_named}

-- the number of times that a pilot occurs in a list
abbrev pub times_listed : ℕ → List ℕ → ℕ
times_listed p [] = 0
times_listed p (x ∷ xs) = cond (nat_eq p x) 1 0 + times_listed p xs

-- the number of times that it occurs in the three sets
abbrev pub times_in : ℕ → PilotSets → ℕ
times_in p s = times_listed p (active_pilots s)
    + (times_listed p (candidate_pilots s) + times_listed p s.neighbors)

-- the number of times that a number may occur there: 1 if it is an offset, otherwise 0
abbrev pub places_for : ℕ → ℕ
places_for p = cond (nat_lt p 512) 1 0

abbrev pub IsOnceEach : List ℕ → Type 0
IsOnceEach pilots = (p : ℕ) → times_listed p pilots ≤ places_for p

-- active pilots have the row of a traffic channel, and one of 6 power control subchannels
abbrev pub AreOnRows : List ActivePilot → Type 0
AreOnRows actives = All (λ (a : ActivePilot). (a.row < 64) × (a.subchannel < 6)) actives

pub record IsActiveSet (named : List NamedPilot) : Type 0 where
  pub some : 1 ≤ length named
  pub few : length named ≤ 6
  pub rows : All (λ (n : NamedPilot). n.row < 64) named
  pub once : IsOnceEach (pilots_named named)

abbrev pub IsActiveSetIfAny : Option Accepted → Type 0
IsActiveSetIfAny None = Unit {0}
IsActiveSetIfAny (Some direction) = IsActiveSet direction.named

pub record IsOrderly (s : PilotSets) : Type 0 where
  pub some : 1 ≤ length s.active
  pub once : (p : ℕ) → times_in p s ≤ places_for p
  pub rows : AreOnRows s.active
  pub waiting : IsActiveSetIfAny s.waiting

-- orderly sets with a delta for each offset
pub record IsStanding (s : PilotSets) (deltas : List ℤ) : Type 0 where
  pub sets : IsOrderly s
  pub long : length deltas ≡ 512

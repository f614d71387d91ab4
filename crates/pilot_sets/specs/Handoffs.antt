-- The first step of a moment: the direction for its time takes effect.
use Rattle.pilot_sets.specs.Common.{Thresholds, ActivePilot, CandidatePilot, NamedPilot, Accepted}
use Rattle.pilot_sets.specs.Common.{PilotSets}
use Rattle.std.specs.Prelude.{ℕ, ◌+◌, Bool, false, cond, not, if◌then◌else◌, ◌&&◌, ◌==◌, List, []}
use Rattle.std.specs.Prelude.{◌∷◌, ◌++◌, length, map, filter, nat_lt, Option, Some, None}
use Rattle.pilot_sets.specs.Pilots.{lacks, without}
use Rattle.pilot_sets.specs.Timers.{is_expired}
use Rattle.traffic_message.specs.declared.fields.Search.{Search}

-- whether a direction waits for this time
abbrev pub is_for : ℕ → Option Accepted → Bool
is_for time None = false
is_for time (Some direction) = direction.time == time

-- the thresholds updated by those that a direction carries, which never include SRCH_WIN_N
abbrev pub with_search : Option Search → Thresholds → Thresholds
with_search None t = t
with_search (Some s) t = record t {
  win_a = s.wina;
  t_add = s.tadd;
  t_drop = s.tdrop;
  t_comp = s.tcomp;
  t_tdrop = s.ttdrop;
}

abbrev pub pilots_named : List NamedPilot → List ℕ
pilots_named named = map (λ (n : NamedPilot). n.pilot) named

abbrev pub candidates_without : List ℕ → List CandidatePilot → List CandidatePilot
candidates_without named cs = filter (λ (c : CandidatePilot). lacks named c.pilot) cs

abbrev pub actives_without : List ℕ → List ActivePilot → List ActivePilot
actives_without named actives = filter (λ (a : ActivePilot). lacks named a.pilot) actives

-- THE NEW ACTIVE SET
-- the timer of a pilot that was active
abbrev pub timer_of : List ActivePilot → ℕ → Option ℕ
timer_of [] pilot = None
timer_of (a ∷ actives) pilot = if a.pilot == pilot then a.timer else timer_of actives pilot

abbrev pub active_of : List ActivePilot → ℕ → NamedPilot → ActivePilot
active_of old subchannel n =
    record { pilot = n.pilot; row = n.row; subchannel = subchannel; timer = timer_of old n.pilot }

-- the first pilot has subchannel 0; a later one that of the pilot before it, or the next number
abbrev pub subchannel_after : ℕ → Bool → ℕ
subchannel_after before combined = cond combined before (before + 1)

abbrev pub next_subchannel : ℕ → List NamedPilot → ℕ
next_subchannel subchannel [] = 0
next_subchannel subchannel (n ∷ named) = subchannel_after subchannel n.combined

abbrev pub actives_after : List ActivePilot → ℕ → List NamedPilot → List ActivePilot
actives_after old subchannel [] = []
actives_after old subchannel (n ∷ named) =
    active_of old subchannel n ∷ actives_after old (next_subchannel subchannel named) named

-- THE OTHER SETS
abbrev pub fresh : ℕ → CandidatePilot
fresh pilot = record { pilot = pilot; timer = None }

-- an active pilot that the direction doesn't name leaves the active set: it moves to the candidates
-- if they have room and its timer has not expired, otherwise to the neighbors if they have room
abbrev pub left : ℕ → ActivePilot → PilotSets → PilotSets
left time a s =
    if nat_lt (length s.candidates) 10 && not (is_expired s.thresholds time a.timer)
    then record s { candidates = s.candidates ++ fresh a.pilot ∷ [] }
    else if nat_lt (length s.neighbors) 20
    then record s { neighbors = s.neighbors ++ a.pilot ∷ [] }
    else s

abbrev pub all_left : ℕ → List ActivePilot → PilotSets → PilotSets
all_left time [] s = s
all_left time (a ∷ actives) s = all_left time actives (left time a s)

-- with the direction's thresholds, and without its pilots in the other sets
abbrev pub cleared : Accepted → PilotSets → PilotSets
cleared direction s = record s {
  thresholds = with_search direction.search s.thresholds;
  candidates = candidates_without (pilots_named direction.named) s.candidates;
  neighbors = without (pilots_named direction.named) s.neighbors;
  waiting = None;
}

abbrev pub handed_off : ℕ → Accepted → PilotSets → PilotSets
handed_off time direction s =
    let leaving = actives_without (pilots_named direction.named) s.active in
    record (all_left time leaving (cleared direction s)) {
      active = actives_after s.active 0 direction.named;
    }

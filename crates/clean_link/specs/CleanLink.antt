-- A clean link: a file that holds what one cell sends over one path, without noise, and what a
-- handset has to receive in it.
use Rattle.clean_link.specs.Common.{superframe_chips, after, sync_capsule, SyncFields, IsFreeOf}
use Rattle.clean_link.specs.Common.{message_of, phase_at, CellPlan, SyncPlan, TrafficBody, Tuning}
use Rattle.clean_link.specs.Common.{Event, Sync, Mark, Traffic, heard_after, sending_ends}
use Rattle.clean_link.specs.Common.{whole_sendings}
use Rattle.std.specs.Prelude.{ℕ, ◌+◌, ◌-◌, ◌*◌, ◌≤◌, ◌≡◌, List, [], ◌∷◌, map, pos, Option, None}
use Rattle.std.specs.Prelude.{Some}
use Rattle.heard_events.specs.declared.event.Event.TheVariants.{Traffic as OnTraffic}
use Rattle.traffic_message.specs.declared.body.TrafficBody.TheVariants as bodies

-- ---- handoff

-- a message of a traffic channel that isn't an Extended Handoff Direction Message, or is one that
-- is kept as bits (TIA/EIA-95-B, 7.7.3.3)
abbrev pub IsNoDirection : TrafficBody → Type 0
IsNoDirection (bodies.Handoff f) = ⊥
IsNoDirection body = Unit {0}

-- an event that isn't a handoff direction
abbrev pub IsNotDirected : Event → Type 0
IsNotDirected (OnTraffic n capsule message) = IsNoDirection message.body
IsNotDirected event = Unit {0}

-- ---- the link

-- a handset with one finger, on the cell's path, where the search found this energy; it follows a
-- paging channel, and a traffic channel or none
abbrev pub tuning_to : CellPlan → ℕ → ℕ → Option Traffic → Tuning
tuning_to plan energy paging traffic = record {
  count = plan.link.samples;
  phase = phase_at plan plan.link.start;
  energy = energy;
  deltas = pos 0 ∷ [];
  check30 = plan.cell.check30;
  check16 = plan.cell.check16;
  paging = paging;
  traffic = traffic;
}

-- a handset with one finger, which lies on the cell's path
pub record IsOnPath (plan : CellPlan) (t : Tuning) : Type 0 where
  pub count : t.count ≡ plan.link.samples
  pub checks_of_30 : t.check30 ≡ plan.cell.check30
  pub checks_of_16 : t.check16 ≡ plan.cell.check16
  pub phase : t.phase ≡ phase_at plan plan.link.start
  pub alone : t.deltas ≡ pos 0 ∷ []

-- such a handset that follows a paging channel whose row no traffic channel has
pub record IsTunedToPlan (plan : CellPlan) (t : Tuning) : Type 0 where
  pub path : IsOnPath plan t
  pub first_channel : 1 ≤ t.paging
  pub last_channel : t.paging ≤ 7
  pub free : IsFreeOf plan.traffic t.paging

-- ---- whole transmissions

-- the event for a transmission, when the handset knows its last frame
abbrev pub sending_event : CellPlan → SyncFields → ℕ → Event
sending_event plan m sending =
    Sync
    (heard_after 32768 plan.link.samples (sending_ends plan m sending - plan.link.start))
    (sync_capsule plan.cell.check30 (message_of plan.cell m sending))
    (message_of plan.cell m sending)

-- the events for all whole transmissions, in order
abbrev pub events_of_channel : CellPlan → Option SyncPlan → List Event
events_of_channel plan None = []
events_of_channel plan (Some sync) =
    map (sending_event plan sync.message) (whole_sendings plan sync.message)

unfoldable pub sync_sent : CellPlan → List Event
sync_sent plan = events_of_channel plan plan.sync

-- ---- the mark

-- A mark at the start of one of the cell's superframes, which are counted from local chip 0: its
-- time and its long-code state are the cell's.
pub record IsTrueMark (plan : CellPlan) (mark : Mark) (superframes : ℕ) : Type 0 where
  pub place : plan.link.start + mark.sample ≡ superframe_chips * superframes
  pub time : mark.time ≡ plan.cell.time + superframes
  pub pn : mark.pilot ≡ plan.cell.pn
  pub state : (chips : ℕ) →
      after mark.state chips ≡ after plan.cell.lc (superframe_chips * superframes + chips)

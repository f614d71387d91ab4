-- The states of the channels that a handset follows from the mark on.
use Rattle.mobile_core.specs.Common.{Traffic, Sample, IsDueAt, Tuning, Event, Mark}
use Rattle.std.specs.Prelude.{◌≡◌, ◌⊎◌, ℕ, ◌+◌, ◌<◌, ◌≤◌, List, [], ◌++◌, take, pos, slice_get}
use Rattle.std.specs.Prelude.{Option, Some}
use Rattle.std.specs.Option.{ForSome, IsSomeAnd, MatchOption, option_map_or}
use Rattle.mobile_core.specs.AfterMark.{FollowsPages, FollowsTraffic, IsSoundAssignment, IsUnheard}
use Rattle.mobile_core.specs.AfterMark.{IsUnpaged, paging_due, paging_left, traffic_left}
use Rattle.mobile_core.specs.PagingReceiving.{IsSoundPaging, bits_heard}
use Rattle.mobile_core.specs.TrafficReceiving.{IsSoundHandoff, IsTrafficDue, WaitsAt, next_end}
use Rattle.mobile_core.specs.TrafficReceiving.{traffic_due, traffic_heard}
use Rattle.mobile_core.specs.declared.followed.Followed.{Followed}
use Rattle.mobile_core.specs.declared.paging_receiver.PagingReceiver.{PagingReceiver}
use Rattle.mobile_core.specs.declared.soft_handoff.SoftHandoff.{SoftHandoff}

-- the state of each receiver; there is no receiver if its channel is not received or not assigned
abbrev pub HearsPages : Tuning → Option Mark → Option PagingReceiver → List Sample → Type 0
HearsPages t mark receiver heard =
    MatchOption receiver (IsUnpaged mark) (λ r. FollowsPages t mark r heard)

abbrev pub HearsFrames : Tuning → Option Traffic → Option Mark → Option SoftHandoff →
    List Sample → List Event → Type 0
HearsFrames t assigned mark receiver heard pages =
    MatchOption receiver (IsUnheard assigned mark)
    (λ r. FollowsTraffic t assigned mark r heard pages)

-- the events at the end of these samples that each receiver has not returned yet
abbrev pub paging_events_left : Tuning → Option Mark → List Sample → Option PagingReceiver →
    List Event
paging_events_left t mark samples receiver = option_map_or (paging_left t mark samples) receiver []

abbrev pub traffic_events_left : Tuning → Option Traffic → Option Mark → List Sample →
    Option SoftHandoff → List Event
traffic_events_left t assigned mark samples receiver =
    option_map_or (traffic_left t assigned mark samples) receiver []

-- receivers that have taken these samples, in which sync messages set this mark, or none
pub record HearsFollowed (t : Tuning) (f : Followed) (mark : Option Mark)
    (heard : List Sample) : Type 0 where
  pub channel_is : f.channel ≡ t.paging
  pub assigned_is : f.assigned ≡ t.traffic
  pub phase_is : f.phase ≡ t.phase
  pub deltas_are : take f.near.count f.near.deltas ≡ t.deltas
  pub check_is : f.check ≡ t.check16
  pub paging : HearsPages t mark f.paging heard
  pub traffic :
      HearsFrames t t.traffic mark f.traffic heard (paging_events_left t mark heard f.paging)

-- the events at the end of these samples that are not returned yet, first the paging channel's
abbrev pub followed_events_left : Tuning → Option Mark → List Sample → Followed → List Event
followed_events_left t mark samples f =
    paging_events_left t mark samples f.paging
    ++ traffic_events_left t t.traffic mark samples f.traffic

-- whether a known frame of one of the channels is not decoded completely, or a moment has come
abbrev pub IsFollowedDue : ℕ → Followed → Type 0
IsFollowedDue count f =
    IsSomeAnd f.paging (λ r. IsDueAt count r.received.clock) ⊎ IsSomeAnd f.traffic IsTrafficDue

-- how much has been decoded: bits of the paging channel, frames of the traffic channel, the
-- messages that they complete, and moments
abbrev pub followed_heard : Followed → ℕ
followed_heard f = option_map_or bits_heard f.paging 0 + option_map_or traffic_heard f.traffic 0

-- how much has come that is not decoded yet
abbrev pub followed_due : Followed → ℕ
followed_due f = option_map_or paging_due f.paging 0 + option_map_or traffic_due f.traffic 0

-- the next frame of each channel ends after `taken` samples, and so does the next moment
pub record WaitFrom (taken : ℕ) (f : Followed) : Type 0 where
  pub paging : ForSome f.paging (λ r. taken < r.received.clock.end)
  pub traffic : ForSome f.traffic (WaitsAt taken)

-- the next frame of each channel ends at n samples or later
pub record EndFrom (n : ℕ) (f : Followed) : Type 0 where
  pub paging : ForSome f.paging (λ r. n ≤ r.received.clock.end)
  pub traffic : ForSome f.traffic (λ r. n ≤ next_end r)

-- a valid paging channel, an assignable traffic channel, and paths of the shape that a search
-- returns
pub record IsSoundFollowed (f : Followed) : Type 0 where
  pub first_channel : 1 ≤ f.channel
  pub last_channel : f.channel ≤ 7
  pub assigned : ForSome f.assigned IsSoundAssignment
  pub least : 1 ≤ f.near.count
  pub most : f.near.count ≤ 3
  pub first : slice_get f.near.deltas 0 ≡ Some (pos 0)
  pub paging : ForSome f.paging IsSoundPaging
  pub traffic : ForSome f.traffic IsSoundHandoff

-- The states of the receivers that a mark opens.
use Rattle.mobile_core.specs.Common.{Traffic, Sample, pages_left, Tuning, Event, Mark, SpelledPage}
use Rattle.std.specs.Prelude.{◌≡◌, ◌⊎◌, ℕ, ◌-◌, ◌*◌, ◌<◌, ◌≤◌, Bool, true, false, nat_lt, List, map}
use Rattle.std.specs.Prelude.{length, Option, Some, None, []}
use Rattle.std.specs.Option.{ForSome}
use Rattle.heard_events.specs.PagingEvents.{page_event}
use Rattle.mobile_core.specs.PagingReceiving.{HearsPaging, bits_heard}
use Rattle.heard_events.specs.TrafficEvents.{if_followed}
use Rattle.mobile_core.specs.TrafficReceiving.{HearsTraffic, traffic_left_of}
use Rattle.mobile_core.specs.declared.paging_receiver.PagingReceiver.{PagingReceiver}
use Rattle.mobile_core.specs.declared.soft_handoff.SoftHandoff.{SoftHandoff}

-- The events up to n samples leave the mark as it was, or set one that lies after these samples.
abbrev pub SetsMark : ℕ → Option Mark → Option Mark → Type 0
SetsMark n before after = (after ≡ before) ⊎ ((before ≡ None) × ForSome after (λ m. n < m.sample))

-- THE PAGING CHANNEL
-- whether the channel is received: a mark is set, and its PRAT is not reserved
abbrev pub is_paged : Option Mark → Bool
is_paged None = false
is_paged (Some m) = nat_lt m.prat 2

abbrev pub IsUnpaged : Option Mark → Type 0
IsUnpaged mark = is_paged mark ≡ false

-- a receiver that follows the channel from the mark on
pub record FollowsPages (t : Tuning) (mark : Option Mark) (r : PagingReceiver)
    (heard : List Sample) : Type 0 where
  pub set : Mark
  pub set_is : mark ≡ Some set
  pub rate : nat_lt set.prat 2 ≡ true
  pub hears : HearsPaging t t.paging set r heard

-- the messages at the end of these samples that it has not returned yet, and their events
abbrev pub pages_left_after : Tuning → Option Mark → List Sample → PagingReceiver → List SpelledPage
pages_left_after t None samples r = []
pages_left_after t (Some m) samples r =
    pages_left t t.paging m samples r.received.clock.next r.place

abbrev pub paging_left : Tuning → Option Mark → List Sample → PagingReceiver → List Event
paging_left t mark samples r = map (page_event (length samples)) (pages_left_after t mark samples r)

-- the number of bits that have come but are not decoded yet, counting 192 for each frame
abbrev pub paging_due : PagingReceiver → ℕ
paging_due r = 192 * r.received.clock.have - bits_heard r

-- THE TRAFFIC CHANNEL
-- a channel that a base station may assign
pub record IsSoundAssignment (traffic : Traffic) : Type 0 where
  pub row : traffic.row < 64
  pub offset : traffic.offset ≤ 15

-- no traffic channel is received: none is assigned, or no mark is set
abbrev pub IsUnheard : Option Traffic → Option Mark → Type 0
IsUnheard None mark = Unit {0}
IsUnheard (Some traffic) mark = mark ≡ None

-- A receiver that follows the assigned channel from the mark on. Its pilot sets have not noted the
-- events `pages` of the paging channel yet.
pub record FollowsTraffic (t : Tuning) (assigned : Option Traffic) (mark : Option Mark)
    (r : SoftHandoff) (heard : List Sample) (pages : List Event) : Type 0 where
  pub traffic : Traffic
  pub traffic_is : assigned ≡ Some traffic
  pub set : Mark
  pub set_is : mark ≡ Some set
  pub hears : HearsTraffic t traffic set r heard pages

-- the events at the end of these samples that it has not returned yet
abbrev pub traffic_left : Tuning → Option Traffic → Option Mark → List Sample → SoftHandoff →
    List Event
traffic_left t assigned mark samples r =
    if_followed (λ traffic m. traffic_left_of t traffic m samples r) assigned mark

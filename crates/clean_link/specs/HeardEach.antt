-- What a handset receives from the cell of a clean link, and over a link with bounded noise,
-- channel by channel and frame by frame.
use Rattle.clean_link.specs.Common.{superframe_chips, Width, Decoded, IsFreeOf, made_samples, Event}
use Rattle.clean_link.specs.Common.{frames_of, cycled_frame, CellPlan, PagingPlan, TrafficPlan}
use Rattle.clean_link.specs.Common.{SetOneFrame, events, frame_event, Tuning, Frame, Paging, Sync}
use Rattle.clean_link.specs.Common.{Traffic, IsReceivable, frame_ends, is_received, received_frames}
use Rattle.clean_link.specs.Common.{replaced_of, sent_power_bits, AreDistinct, IsAssigned, Bears}
use Rattle.clean_link.specs.Common.{IsDistinctFrame, SendsSetOne, told_with_sync}
use Rattle.std.specs.Prelude.{◌≡◌, ◌≤◌, ℕ, ◌*◌, true, false, All, Bool, List, [], ◌∷◌, map, filter}
use Rattle.std.specs.Prelude.{None, Option, Some}
use Rattle.std.specs.List.{Contains}
use Rattle.heard_events.specs.declared.event.Event.TheVariants.{Traffic as OnTraffic}
use Rattle.clean_link.specs.CleanLink.{IsNotDirected, IsOnPath, sync_sent}
use Rattle.clean_link.specs.HeardFrames.{sent_frame_event, messages_of_channel}
use Rattle.clean_link.specs.SentEvents.{paging_sent}

-- ---- events of a kind

abbrev pub is_sync : Event → Bool
is_sync (Sync n capsule message) = true
is_sync event = false

abbrev pub is_page : Event → Bool
is_page (Paging n capsule message) = true
is_page event = false

abbrev pub is_frame : Event → Bool
is_frame (Frame n rate good bits power_bits) = true
is_frame event = false

abbrev pub is_message : Event → Bool
is_message (OnTraffic n capsule message) = true
is_message event = false

-- ---- a traffic channel's frames

-- The event of frame `frame` of a channel, which is f: it has the frame's end and the power control
-- bits that were sent. If the frame is distinct, it also has its rate and its information bits, as
-- a good frame.
pub record IsSentFrame (plan : CellPlan) (p : TrafficPlan) (frame : ℕ) (f : SetOneFrame)
    (event : Event) : Type 0 where
  pub decoded : Decoded
  pub powered : event ≡ frame_event (frame_ends plan p frame) decoded (sent_power_bits f)
  pub back : IsDistinctFrame (replaced_of plan p frame) f →
      event ≡ sent_frame_event (frame_ends plan p frame) f

-- the frame that is sent at a number has this event
abbrev pub IsEventOf : CellPlan → TrafficPlan → ℕ → Event → Type 0
IsEventOf plan p frame event = (f : SetOneFrame)
    × (cycled_frame (frames_of plan p) frame ≡ f ∷ []) × IsSentFrame plan p frame f event

-- One event, in order, for each frame of a channel that begins at the mark or later and lies in the
-- file. The mark is `superframes` superframes after local chip 0.
pub record AreEventsOf (plan : CellPlan) (p : TrafficPlan) (superframes : ℕ)
    (frames : List Event) : Type 0 where
  pub event : ℕ → Event
  pub each : frames ≡ map event (received_frames plan p (superframe_chips * superframes))
  pub are : (frame : ℕ) → is_received plan p (superframe_chips * superframes) frame ≡ true →
      IsEventOf plan p frame (event frame)

-- these events, or none if no mark is set
abbrev pub AreFramesAfter : CellPlan → TrafficPlan → Option ℕ → List Event → Type 0
AreFramesAfter plan p None frames = frames ≡ []
AreFramesAfter plan p (Some superframes) frames = AreEventsOf plan p superframes frames

-- ---- its messages

-- If each of these frames is distinct, exactly the messages that the signaling in them spells, as
-- they are sent; none if no mark is set.
abbrev pub AreMessagesAfter : CellPlan → TrafficPlan → Option ℕ → List Event → Type 0
AreMessagesAfter plan p None messages = messages ≡ []
AreMessagesAfter plan p (Some superframes) messages =
    AreDistinct plan p (superframe_chips * superframes) →
    messages ≡ messages_of_channel plan p (superframe_chips * superframes)

-- ---- all channels

-- the handset follows this one of the cell's traffic channels, whose frames are of rate set 1
pub record FollowsOne (plan : CellPlan) (followed : Option Traffic) (p : TrafficPlan) : Type 0 where
  pub traffic : Traffic
  pub follows : followed ≡ Some traffic
  pub sent : Contains plan.traffic p
  pub assigned : IsAssigned p traffic
  pub one : SendsSetOne p

-- What a handset receives if it follows a paging channel, and a traffic channel or none:
-- - on the sync channel exactly the whole transmissions;
-- - on the paging channel exactly the whole pages, if the cell sends it or its row is free;
-- - on the traffic channel, if the cell sends it with frames of rate set 1, one event for each
--   frame from the mark on, and the messages in these frames.
pub record HearsEach (plan : CellPlan) (paging : ℕ) (followed : Option Traffic)
    (heard : List Event) : Type 0 where
  pub sync : filter is_sync heard ≡ sync_sent plan
  pub pages : Contains (map (λ (p : PagingPlan). p.number) plan.paging) paging →
      filter is_page heard ≡ paging_sent plan paging
  pub free : IsFreeOf plan.traffic paging → filter is_page heard ≡ paging_sent plan paging
  pub frames : (p : TrafficPlan) → FollowsOne plan followed p →
      AreFramesAfter plan p (told_with_sync plan plan.sync) (filter is_frame heard)
  pub messages : (p : TrafficPlan) → FollowsOne plan followed p →
      AreMessagesAfter plan p (told_with_sync plan plan.sync) (filter is_message heard)

-- This holds for a handset with one finger on the cell's path, in a file of what the cell sends, if
-- no handoff is directed.
abbrev pub EachChannelComesBack : Type 0
EachChannelComesBack = (width : Width) (plan : CellPlan) (t : Tuning) →
    IsReceivable width plan → IsOnPath plan t → 1 ≤ t.paging → t.paging ≤ 7 →
    All IsNotDirected (events t (made_samples plan)) →
    HearsEach plan t.paging t.traffic (events t (made_samples plan))

-- ---- a link with bounded noise

-- Exactly the whole transmissions are received on the sync channel. If the cell sends the followed
-- paging channel, and it bears the noise, exactly its whole pages are received. If the cell sends
-- the followed traffic channel with frames of rate set 1, and it bears the noise, there is one
-- event for each of its frames from the mark on, and the messages are those in them.
pub record HearsBearing (plan : CellPlan) (e paging : ℕ) (followed : Option Traffic)
    (heard : List Event) : Type 0 where
  pub sync : filter is_sync heard ≡ sync_sent plan
  pub pages : (q : PagingPlan) → Contains plan.paging q → q.number ≡ paging →
      Bears plan q.gain e → filter is_page heard ≡ paging_sent plan paging
  pub frames : (p : TrafficPlan) → FollowsOne plan followed p → Bears plan p.gain e →
      AreFramesAfter plan p (told_with_sync plan plan.sync) (filter is_frame heard)
  pub messages : (p : TrafficPlan) → FollowsOne plan followed p → Bears plan p.gain e →
      AreMessagesAfter plan p (told_with_sync plan plan.sync) (filter is_message heard)

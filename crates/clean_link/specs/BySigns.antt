-- What comes back in a file of any origin, channel by channel and frame by frame: exactly what a
-- cell sends, on each channel whose soft values have the signs of what is sent.
use Rattle.clean_link.specs.Common.{is_received, received_frames, told_with_sync, superframe_chips}
use Rattle.clean_link.specs.Common.{CellPlan, PagingPlan, TrafficPlan, Event, IsReceivable, Sample}
use Rattle.clean_link.specs.Common.{Traffic, Tuning, Width, events, mark}
use Rattle.std.specs.Prelude.{◌≡◌, ℕ, ◌*◌, true, All, List, [], filter, length, map, None, Option}
use Rattle.std.specs.Prelude.{Some}
use Rattle.std.specs.List.{Contains}
use Rattle.clean_link.specs.CleanLink.{sync_sent, IsNotDirected, IsOnPath}
use Rattle.clean_link.specs.HeardEach.{is_frame, is_message, is_page, is_sync, AreMessagesAfter}
use Rattle.clean_link.specs.HeardEach.{FollowsOne, IsEventOf}
use Rattle.clean_link.specs.SentEvents.{pages_after, sent_events}
use Rattle.clean_link.specs.SentSigns.{FromMark, HasSyncSigns, MarkIsAt, MarksAreAt}
use Rattle.clean_link.specs.SentSigns.{PagingFrameHasSigns, TrafficFrameHasSigns}

-- ---- what is heard

-- One event for each frame of a traffic channel that begins at the mark or later and lies in the
-- file, in order. If a frame has the sent signs, its event is that of what is sent, whatever the
-- other frames are.
pub record AreEventsBySigns (plan : CellPlan) (p : TrafficPlan) (samples : List Sample)
    (superframes : ℕ) (frames : List Event) : Type 0 where
  pub event : ℕ → Event
  pub each : frames ≡ map event (received_frames plan p (superframe_chips * superframes))
  pub are : (frame : ℕ) → is_received plan p (superframe_chips * superframes) frame ≡ true →
      TrafficFrameHasSigns plan p samples frame → IsEventOf plan p frame (event frame)

-- these events, or none if no mark is set
abbrev pub AreFramesBySigns : CellPlan → TrafficPlan → List Sample → Option ℕ → List Event → Type 0
AreFramesBySigns plan p samples None frames = frames ≡ []
AreFramesBySigns plan p samples (Some superframes) frames =
    AreEventsBySigns plan p samples superframes frames

-- What a handset receives after a mark that is the cell's:
-- - on the sync channel only the whole transmissions, if each of its frames has the sent signs;
-- - on the followed paging channel only the whole pages from the mark on, if the cell sends the
--   channel and each of its frames from the mark on has the sent signs;
-- - on the followed traffic channel, if the cell sends it with frames of rate set 1, one event for
--   each frame, and if each frame from the mark on has the sent signs and is distinct, only the
--   messages that the signaling in these frames spells.
pub record HearsBySigns (width : Width) (plan : CellPlan) (samples : List Sample) (at : Option ℕ)
    (paging : ℕ) (followed : Option Traffic) (heard : List Event) : Type 0 where
  pub sync : HasSyncSigns width plan samples → filter is_sync heard ≡ sync_sent plan
  pub pages : (q : PagingPlan) → Contains plan.paging q → q.number ≡ paging →
      FromMark (PagingFrameHasSigns plan q samples) at →
      filter is_page heard ≡ pages_after plan paging at plan.sync
  pub frames : (p : TrafficPlan) → FollowsOne plan followed p →
      AreFramesBySigns plan p samples at (filter is_frame heard)
  pub messages : (p : TrafficPlan) → FollowsOne plan followed p →
      FromMark (TrafficFrameHasSigns plan p samples) at →
      AreMessagesAfter plan p at (filter is_message heard)

-- ---- the laws

-- If each frame of the sync channel has the sent signs, the mark is the cell's, and it is the one
-- that the first whole transmission sets.
abbrev pub SyncTellsTheMark : Type 0
SyncTellsTheMark = (width : Width) (plan : CellPlan) (samples : List Sample) →
    HasSyncSigns width plan samples → MarksAreAt plan samples (told_with_sync plan plan.sync)

-- A handset with one finger on the cell's path hears each channel so, if its mark is the cell's and
-- no handoff is directed.
abbrev pub ChannelsComeBackBySigns : Type 0
ChannelsComeBackBySigns = (width : Width) (plan : CellPlan) (samples : List Sample) (t : Tuning)
    (at : Option ℕ) → IsReceivable width plan → length samples ≡ plan.link.samples →
    IsOnPath plan t → MarkIsAt plan (mark t samples plan.link.samples) at →
    All IsNotDirected (events t samples) →
    HearsBySigns width plan samples at t.paging t.traffic (events t samples)

-- If no traffic channel is followed, and each frame of the sync channel, and each of the followed
-- paging channel from the mark on, has the sent signs, exactly the pilot, the whole transmissions
-- and the whole pages are received, in the order in which they are known.
abbrev pub AllComesBackBySigns : Type 0
AllComesBackBySigns = (width : Width) (plan : CellPlan) (samples : List Sample) (t : Tuning)
    (q : PagingPlan) → HasSyncSigns width plan samples → IsOnPath plan t → t.traffic ≡ None →
    Contains plan.paging q → q.number ≡ t.paging →
    FromMark (PagingFrameHasSigns plan q samples) (told_with_sync plan plan.sync) →
    events t samples ≡ sent_events plan t.energy t.paging None

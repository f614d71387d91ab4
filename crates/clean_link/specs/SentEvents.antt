-- Everything that a handset receives from a clean link's cell, in the order in which it is known.
use Rattle.clean_link.specs.Common.{superframe_chips, places, Width, made_samples, phase_at, events}
use Rattle.clean_link.specs.Common.{CellPlan, SyncPlan, TrafficPlan, at_of, Tuning, Event, Paging}
use Rattle.clean_link.specs.Common.{Pilot, Traffic, IsReceivable, Sample, mark, frames_at, sets_at}
use Rattle.clean_link.specs.Common.{messages_at, page_event, pages_if_marked, if_followed}
use Rattle.clean_link.specs.Common.{told_with_sync, AreDistinct, IsAssigned, SendsSetOne}
use Rattle.std.specs.Prelude.{ℕ, ◌+◌, ◌*◌, ◌==◌, ◌≡◌, Bool, if◌then◌else◌, nat_lt, List, [], ◌∷◌}
use Rattle.std.specs.Prelude.{◌++◌, map, filter, All, Option, None, Some}
use Rattle.std.specs.List.{Contains, flat_map}
use Rattle.clean_link.specs.CleanLink.{sync_sent, IsNotDirected, IsOnPath, IsTunedToPlan, tuning_to}
use Rattle.clean_link.specs.HeardFrames.{frames_sent, messages_sent}
use Rattle.clean_link.specs.SentSigns.{FromMark, HasSyncSigns, TrafficFrameHasSigns}
use Rattle.clean_frames.specs.WholePages.{KnownPage, pages_sent}

-- the events of the paging channel that end when exactly n samples have been taken
unfoldable pub paging_events_at : Tuning → List Sample → ℕ → List Event
paging_events_at t samples n =
    map (page_event n) (pages_if_marked t t.paging (mark t samples n) samples n)

-- the events of the traffic channel's frames at n samples
unfoldable pub frame_events_at : Tuning → List Sample → ℕ → List Event
frame_events_at t samples n =
    if_followed (λ traffic m. frames_at t traffic m samples n) t.traffic (mark t samples n)

-- the events of the messages that these frames complete
unfoldable pub message_events_at : Tuning → List Sample → ℕ → List Event
message_events_at t samples n =
    if_followed (λ traffic m. messages_at t traffic m samples n) t.traffic (mark t samples n)

-- the event of the pilot sets at n samples
unfoldable pub sets_events_at : Tuning → List Sample → ℕ → List Event
sets_events_at t samples n =
    if_followed (λ traffic m. sets_at t traffic m samples n) t.traffic (mark t samples n)

-- ---- the paging channel

-- the event for a page
abbrev pub known_event : KnownPage → Event
known_event page = Paging page.at page.capsule page.message

-- the events for the whole pages of a channel after the mark, if one is set
abbrev pub pages_after_mark : CellPlan → ℕ → Option ℕ → List Event
pages_after_mark plan channel None = []
pages_after_mark plan channel (Some superframes) =
    map known_event (pages_sent plan channel (superframe_chips * superframes))

-- these events, or none if the cell sends no sync channel or its PRAT is 2 or 3
abbrev pub pages_after : CellPlan → ℕ → Option ℕ → Option SyncPlan → List Event
pages_after plan channel at None = []
pages_after plan channel at (Some sync) =
    if nat_lt sync.message.prat 2 then pages_after_mark plan channel at else []

unfoldable pub paging_sent : CellPlan → ℕ → List Event
paging_sent plan channel = pages_after plan channel (told_with_sync plan plan.sync) plan.sync

-- ---- the traffic channel

-- the events for the traffic channel that is followed, by the channel's row and the mark's local
-- chip, if a mark is set
abbrev pub told_followed : (ℕ → ℕ → List Event) → Option Traffic → Option ℕ → List Event
told_followed sent None told = []
told_followed sent (Some traffic) None = []
told_followed sent (Some traffic) (Some superframes) =
    sent traffic.row (superframe_chips * superframes)

-- its frames after the mark
unfoldable pub traffic_sent : CellPlan → Option Traffic → List Event
traffic_sent plan followed =
    told_followed (frames_sent plan) followed (told_with_sync plan plan.sync)

-- and the messages that their signaling spells
unfoldable pub signaling_sent : CellPlan → Option Traffic → List Event
signaling_sent plan followed =
    told_followed (messages_sent plan) followed (told_with_sync plan plan.sync)

-- The followed channel is one of the cell's, of rate set 1, and each of its frames from the mark on
-- that lies in the file is distinct.
pub record IsFollowed (plan : CellPlan) (traffic : Traffic) (p : TrafficPlan) : Type 0 where
  pub sent : Contains plan.traffic p
  pub assigned : IsAssigned p traffic
  pub one : SendsSetOne p
  pub distinct : (superframes : ℕ) → told_with_sync plan plan.sync ≡ Some superframes →
      AreDistinct plan p (superframe_chips * superframes)

-- a handset follows no traffic channel, or one that satisfies `IsFollowed`
abbrev pub FollowsSent : CellPlan → Option Traffic → Type 0
FollowsSent plan None = Unit {0}
FollowsSent plan (Some traffic) = (p : TrafficPlan) × IsFollowed plan traffic p

-- ---- the pilot sets

-- The events of the pilot sets are those of the handset's definition, at each number of samples,
-- with the strengths that it measures in the cell's samples.
unfoldable pub sets_heard : CellPlan → ℕ → ℕ → Option Traffic → List Event
sets_heard plan energy channel followed =
    flat_map (sets_events_at (tuning_to plan energy channel followed) (made_samples plan))
    (places (plan.link.samples + 1))

-- ---- all channels

abbrev pub is_at : ℕ → Event → Bool
is_at n event = at_of event == n

-- Events by the number of samples at which they are known, up to `count` samples. At the same
-- number, those of the first list come first.
abbrev pub by_places : ℕ → List Event → List Event → List Event
by_places count one other =
    flat_map (λ n. filter (is_at n) one ++ filter (is_at n) other) (places (count + 1))

-- The pilot at the cell's phase, where the search found this energy; then the whole transmissions,
-- the whole pages of a paging channel, the frames of the followed traffic channel with the messages
-- that they complete, and the events of its pilot sets.
unfoldable pub sent_events : CellPlan → ℕ → ℕ → Option Traffic → List Event
sent_events plan energy channel followed =
    let count = plan.link.samples in
    Pilot (phase_at plan plan.link.start) energy
    ∷ by_places count (sync_sent plan)
    (by_places count (paging_sent plan channel)
    (by_places count (traffic_sent plan followed)
    (by_places count (signaling_sent plan followed) (sets_heard plan energy channel followed))))

-- ---- the laws

-- If a handset follows a traffic channel, each of that channel's frames from the mark on has the
-- sent signs.
abbrev pub FollowedHaveSigns : CellPlan → List Sample → Option Traffic → Type 0
FollowedHaveSigns plan samples followed = (p : TrafficPlan) (traffic : Traffic) →
    followed ≡ Some traffic → Contains plan.traffic p → IsAssigned p traffic →
    FromMark (TrafficFrameHasSigns plan p samples) (told_with_sync plan plan.sync)

-- No event directs a handoff if no message that is sent on the followed channel directs one, or if
-- no channel is followed.
abbrev pub NoEventIsDirected : Type 0
NoEventIsDirected = (width : Width) (plan : CellPlan) (samples : List Sample) (t : Tuning) →
    HasSyncSigns width plan samples → IsOnPath plan t → FollowsSent plan t.traffic →
    FollowedHaveSigns plan samples t.traffic → All IsNotDirected (signaling_sent plan t.traffic) →
    All IsNotDirected (events t samples)

-- If no handoff is directed, a handset receives exactly these events, in this order.
abbrev pub WholeMessagesComeBack : Type 0
WholeMessagesComeBack = (width : Width) (plan : CellPlan) (t : Tuning) →
    IsReceivable width plan → IsTunedToPlan plan t → FollowsSent plan t.traffic →
    All IsNotDirected (events t (made_samples plan)) →
    events t (made_samples plan) ≡ sent_events plan t.energy t.paging t.traffic

-- The events at the end of the samples taken that are not returned yet.
use Rattle.heard_events.specs.Common.{superframe_chips, places, Traffic, Sample, is_in_file, Event}
use Rattle.heard_events.specs.Common.{known_at, Pilot, Leg, Mark}
use Rattle.std.specs.Prelude.{ℕ, ◌+◌, ◌==◌, ◌&&◌, nat_le, List, [], ◌∷◌, length, map, filter, None}
use Rattle.std.specs.Prelude.{Option, Some, if◌then◌else◌}
use Rattle.std.specs.List.{flat_map}
use Rattle.pilot_search.specs.declared.sweeping.Best.{Best}
use Rattle.heard_events.specs.Moments.{heard_from, kept_to, moment_place, sets_events}
use Rattle.heard_events.specs.PagingEvents.{pages_from}
use Rattle.heard_events.specs.PagingStreams.{paging_bound, paging_stream}
use Rattle.heard_events.specs.Signaling.{message_heard}
use Rattle.heard_events.specs.Streams.{Stream}
use Rattle.heard_events.specs.SyncEvents.{heard_at, events_of}
use Rattle.heard_events.specs.TrafficEvents.{frame_heard}
use Rattle.heard_events.specs.TrafficStreams.{ends_now, frames_bound}
use Rattle.heard_events.specs.Tuning.{Tuning, sync_stream, sync_bound}
use Rattle.heard_events.specs.SpelledMessages.{SpelledPage}

-- the event of the pilot that the search found, if it has not been returned yet
abbrev pub pilot_left : Option Best → List Event
pilot_left None = []
pilot_left (Some best) = Pilot best.phase best.energy ∷ []

-- THE SYNC CHANNEL, AND A PAGING CHANNEL
-- the frames from frame `next` on that become known at n samples
abbrev pub frames_left : ℕ → Stream → ℕ → ℕ → ℕ → List ℕ
frames_left count s next n bound =
    filter (λ k. nat_le next k && (is_in_file count s k && known_at count s k == n)) (places bound)

-- the events at the end of these samples, of the frames from frame `next` on
unfoldable pub sync_events_left : Tuning → List Sample → ℕ → List Event
sync_events_left t samples next =
    let n = length samples in
    flat_map (λ k. events_of n (heard_at t samples k))
    (frames_left t.count (sync_stream t) next n (sync_bound n))

-- the messages at the end of these samples whose last bit is bit `place` of frame `next` or later
unfoldable pub pages_left : Tuning → ℕ → Mark → List Sample → ℕ → ℕ → List SpelledPage
pages_left t channel m samples next place =
    let n = length samples in
    flat_map (λ k. pages_from t channel m samples k (if k == next then place else 0))
    (frames_left t.count (paging_stream t channel m) next n (paging_bound n))

-- A TRAFFIC CHANNEL, AND THE PILOT SETS
-- the frames from frame `next` on that become known at n samples
abbrev pub later_frames : Tuning → Traffic → Mark → (ℕ → List Leg) → ℕ → ℕ → List ℕ
later_frames t traffic m legs next n =
    filter (λ k. nat_le next k && ends_now t traffic m legs n k) (places (frames_bound n))

-- the events of the frames from frame `next` on that end with these samples
unfoldable pub frames_left_of : Tuning → Traffic → Mark → (ℕ → List Leg) → List Sample → ℕ →
    List Event
frames_left_of t traffic m legs samples next =
    let n = length samples in
    map (frame_heard t traffic m legs samples n) (later_frames t traffic m legs next n)

-- the events of the messages that these frames complete
unfoldable pub messages_left_of : Tuning → Traffic → Mark → (ℕ → List Leg) → List Sample → ℕ →
    List Event
messages_left_of t traffic m legs samples next =
    let n = length samples in
    flat_map (message_heard t traffic m legs samples n) (later_frames t traffic m legs next n)

-- the event of moment j + 1, if the moment lies at the end of these samples
unfoldable pub sets_left_of : Tuning → Traffic → Mark → List Sample → ℕ → List Event
sets_left_of t traffic m samples j =
    if moment_place m (j + 1) == length samples
    then sets_events m samples (j + 1)
    (heard_from t traffic m (kept_to t traffic m samples j) samples j superframe_chips)
    else []

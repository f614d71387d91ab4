-- The events of the sync channel.
use Rattle.heard_events.specs.Common.{places, CheckForm, Sample, piece, capsule_ending, SyncFields}
use Rattle.heard_events.specs.Common.{is_in_file, known_now, Event, Sync}
use Rattle.std.specs.Prelude.{ℕ, ◌+◌, Bool, List, [], ◌∷◌, map, filter, Option, Some, None}
use Rattle.std.specs.List.{flat_map}
use Rattle.sync_message.specs.Reading.{sync_reading}
use Rattle.heard_events.specs.Streams.{frame_own_bits}
use Rattle.heard_events.specs.Tuning.{Tuning, sync_stream, sync_bound}
use Rattle.heard_events.specs.SpelledMessages.{SpelledMessage, as_spelled, spelled_in}

-- the frames in the file before frame `next`
unfoldable pub frames_before : Tuning → List Sample → ℕ → List (List Bool)
frames_before t samples next =
    map (frame_own_bits t.count samples (sync_stream t))
    (filter (is_in_file t.count (sync_stream t)) (places next))

-- the capsule whose last bit lies in frame k
unfoldable pub sync_capsule_at : Tuning → List Sample → ℕ → Option (List Bool)
sync_capsule_at t samples k = capsule_ending (map piece (frames_before t samples (k + 1)))

-- a capsule, and the message that it spells
abbrev pub with_message : List Bool → Option SyncFields → Option SpelledMessage
with_message = as_spelled

abbrev pub heard_in : CheckForm → Option (List Bool) → Option SpelledMessage
heard_in form = spelled_in (sync_reading form)

-- the message that frame k completes
unfoldable pub heard_at : Tuning → List Sample → ℕ → Option SpelledMessage
heard_at t samples k = heard_in t.check30 (sync_capsule_at t samples k)

-- the event of a message that is known at n samples, if there is one
abbrev pub events_of : ℕ → Option SpelledMessage → List Event
events_of n None = []
events_of n (Some heard) = Sync n heard.capsule heard.message ∷ []

-- the events that end at n samples
unfoldable pub sync_events_at : Tuning → List Sample → ℕ → List Event
sync_events_at t samples n =
    flat_map (λ k. events_of n (heard_at t samples k))
    (known_now t.count (sync_stream t) n (sync_bound n))

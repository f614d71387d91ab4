-- The messages that the signaling in a traffic channel's frames spells (TIA/EIA-95-B, 7.1.3.5.11
-- and 7.7.3).
use Rattle.heard_events.specs.Common.{places, CheckForm, Sample, Decoded, piece, capsule_ending}
use Rattle.heard_events.specs.Common.{Event, Leg, Mark, Traffic}
use Rattle.std.specs.Prelude.{ℕ, Bool, List, [], ◌∷◌, ◌++◌, map, filter, Option, Some, None}
use Rattle.std.specs.Prelude.{if◌then◌else◌}
use Rattle.std.specs.List.{flat_map}
use Rattle.std.specs.Option.{option_to_list}
use Rattle.traffic_message.specs.Multiplex.{split}
use Rattle.traffic_message.specs.Reading.{traffic_reading}
use Rattle.heard_events.specs.TrafficEvents.{decoded_at}
use Rattle.heard_events.specs.TrafficStreams.{frames_now, has_frame}
use Rattle.heard_events.specs.Tuning.{Tuning}
use Rattle.heard_events.specs.SpelledMessages.{SpelledSignal, spelled_in}
use Rattle.heard_events.specs.declared.event.Event.TheVariants as events

-- the message of a capsule; none if the capsule has a fault
abbrev pub signal_in : CheckForm → Option (List Bool) → Option SpelledSignal
signal_in form = spelled_in (traffic_reading form)

-- a frame's signaling, if the frame is good and has any
abbrev pub signal_of : Decoded → Option (List Bool)
signal_of frame = if frame.good then (split frame.rate frame.bits).signal else None

-- the signaling of frame k
unfoldable pub signal_at : Tuning → Traffic → Mark → (ℕ → List Leg) → List Sample → ℕ →
    Option (List Bool)
signal_at t traffic m legs samples k = signal_of (decoded_at t traffic m legs samples k)

-- the signaling parts of the frames in the file before frame `next`, in order
unfoldable pub signals_before : Tuning → Traffic → Mark → (ℕ → List Leg) → List Sample → ℕ →
    List (List Bool)
signals_before t traffic m legs samples next =
    flat_map (λ k. option_to_list (signal_at t traffic m legs samples k))
    (filter (has_frame t traffic m legs) (places next))

-- the capsule whose last bit lies in a signaling part that follows those of `before`, if any
abbrev pub capsule_with : List (List Bool) → Option (List Bool) → Option (List Bool)
capsule_with before None = None
capsule_with before (Some signal) = capsule_ending (map piece (before ++ signal ∷ []))

-- the message that frame k completes
unfoldable pub signaling_message_at : Tuning → Traffic → Mark → (ℕ → List Leg) → List Sample → ℕ →
    Option SpelledSignal
signaling_message_at t traffic m legs samples k =
    signal_in t.check16
    (capsule_with (signals_before t traffic m legs samples k)
    (signal_at t traffic m legs samples k))

-- the event of a message that is known at n samples, if there is one
abbrev pub message_events : ℕ → Option SpelledSignal → List Event
message_events n None = []
message_events n (Some heard) = events.Traffic n heard.capsule heard.message ∷ []

abbrev pub message_heard : Tuning → Traffic → Mark → (ℕ → List Leg) → List Sample → ℕ → ℕ →
    List Event
message_heard t traffic m legs samples n k =
    message_events n (signaling_message_at t traffic m legs samples k)

-- the events of the messages that are completed by the frames that end at n samples
unfoldable pub messages_by : Tuning → Traffic → Mark → (ℕ → List Leg) → List Sample → ℕ → List Event
messages_by t traffic m legs samples n =
    flat_map (message_heard t traffic m legs samples n) (frames_now t traffic m legs n)

-- The events of a traffic channel (TIA/EIA-95-B, 7.1.3.5), from the active pilots of each frame.
use Rattle.heard_events.specs.Common.{places, Sample, power_bit, decoded, group_sums, Decoded, Data}
use Rattle.heard_events.specs.Common.{softs, frame_softs, Event, Frame, Leg, Mark, Traffic}
use Rattle.std.specs.Prelude.{ℕ, Bool, List, [], map, ℤ, Option, Some, None}
use Rattle.heard_events.specs.Legs.{all_fingers, on_subchannel, subchannels}
use Rattle.heard_events.specs.TrafficStreams.{frames_now, replaced_in, stream_of, traffic_start}
use Rattle.heard_events.specs.Tuning.{Tuning}

-- frame k, decoded from its descrambled soft values
unfoldable pub decoded_at : Tuning → Traffic → Mark → (ℕ → List Leg) → List Sample → ℕ → Decoded
decoded_at t traffic m legs samples k =
    decoded (replaced_in traffic m k) (frame_softs samples (stream_of t traffic m legs k) k)

-- frame k's raw soft values, from the fingers of some of its pilots
abbrev pub raw_by : Tuning → Traffic → Mark → List Sample → ℕ → List Leg → List ℤ
raw_by t traffic m samples k some =
    softs samples (all_fingers t.phase t.deltas some) Data (traffic_start traffic m k)

abbrev pub raw_softs : Tuning → Traffic → Mark → (ℕ → List Leg) → List Sample → ℕ → List ℤ
raw_softs t traffic m legs samples k = raw_by t traffic m samples k (legs k)

-- the sums of frame k's power control bits on a subchannel; their symbols aren't scrambled
abbrev pub subchannel_sums : Tuning → Traffic → Mark → List Sample → ℕ → List Leg → ℕ → List ℤ
subchannel_sums t traffic m samples k pilots c =
    group_sums (replaced_in traffic m k)
    (raw_by t traffic m samples k (on_subchannel c pilots))

-- the sums of every subchannel
abbrev pub all_sums : Tuning → Traffic → Mark → (ℕ → List Leg) → List Sample → ℕ → List (List ℤ)
all_sums t traffic m legs samples k =
    map (subchannel_sums t traffic m samples k (legs k)) (subchannels (legs k))

-- frame k's 16 power control bits
unfoldable pub power_bits_at : Tuning → Traffic → Mark → (ℕ → List Leg) → List Sample → ℕ →
    List Bool
power_bits_at t traffic m legs samples k =
    map (power_bit (all_sums t traffic m legs samples k)) (places 16)

-- the event of a frame that ends at n samples
abbrev pub frame_event : ℕ → Decoded → List Bool → Event
frame_event n frame power_bits = Frame n frame.rate frame.good frame.bits power_bits

abbrev pub frame_heard : Tuning → Traffic → Mark → (ℕ → List Leg) → List Sample → ℕ → ℕ → Event
frame_heard t traffic m legs samples n k =
    frame_event n (decoded_at t traffic m legs samples k) (power_bits_at t traffic m legs samples k)

-- the events of the frames that end at n samples
unfoldable pub frames_by : Tuning → Traffic → Mark → (ℕ → List Leg) → List Sample → ℕ → List Event
frames_by t traffic m legs samples n =
    map (frame_heard t traffic m legs samples n) (frames_now t traffic m legs n)

-- the events of a channel, if one is followed, after the mark, if it is set
abbrev pub if_followed : {C : Type 0} → (C → Mark → List Event) → Option C → Option Mark →
    List Event
if_followed heard None mark = []
if_followed heard (Some channel) None = []
if_followed heard (Some channel) (Some m) = heard channel m

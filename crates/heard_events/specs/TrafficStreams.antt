-- The frames of a traffic channel, from the mark on (TIA/EIA-95-B, 7.1.3.5).
use Rattle.heard_events.specs.Common.{data_frame_chips, frame_offset_chips, places, paging_channel}
use Rattle.heard_events.specs.Common.{after, traffic_mask, Finger, Data, power_places, scrambling}
use Rattle.heard_events.specs.Common.{R9600, frame_start, is_in_file, known_at, Leg, Mark, Traffic}
use Rattle.std.specs.Prelude.{ℕ, ◌+◌, ◌*◌, ◌/◌, ◌==◌, ◌&&◌, Bool, false, List, [], filter}
use Rattle.heard_events.specs.Legs.{all_fingers}
use Rattle.heard_events.specs.Streams.{Stream}
use Rattle.heard_events.specs.Tuning.{Tuning}

-- the number of chips from the mark to frame k; the channel's offset is in units of 1,536 chips
abbrev pub chips_after : Traffic → ℕ → ℕ
chips_after traffic k = frame_offset_chips * traffic.offset + data_frame_chips * k

-- the long code's state at the first chip of frame k
abbrev pub frame_state : Traffic → Mark → ℕ → ℕ
frame_state traffic m k = after m.state (chips_after traffic k)

-- Frame 0 begins at the channel's offset after the mark. A frame is encoded on its own, so its
-- decoding doesn't wait for the next one. At 9,600 bits a second it has as many bits and symbols as
-- a frame of a paging channel, and is scrambled like one, under the channel's mask.
abbrev pub traffic_stream : Traffic → Mark → List Finger → Stream
traffic_stream traffic m fingers = record {
  channel = paging_channel R9600;
  form = Data;
  fingers = fingers;
  first = m.sample + frame_offset_chips * traffic.offset;
  scrambling = λ k. scrambling (frame_state traffic m k) (traffic_mask traffic.esn);
  waits = false;
}

-- the reference sample at which frame k begins
abbrev pub traffic_start : Traffic → Mark → ℕ → ℕ
traffic_start traffic m k = frame_start (traffic_stream traffic m []) k

-- the places in frame k of the symbols that power control bits replace
abbrev pub replaced_in : Traffic → Mark → ℕ → List ℕ
replaced_in traffic m k = power_places (frame_state traffic m k) (traffic_mask traffic.esn)

-- FRAME BY FRAME
-- The frames depend on the active pilots, which may change from frame to frame; `legs k` are those
-- of frame k.
abbrev pub stream_of : Tuning → Traffic → Mark → (ℕ → List Leg) → ℕ → Stream
stream_of t traffic m legs k = traffic_stream traffic m (all_fingers t.phase t.deltas (legs k))

-- whether frame k lies in the file, and the number of samples at which it is known, its own end
abbrev pub has_frame : Tuning → Traffic → Mark → (ℕ → List Leg) → ℕ → Bool
has_frame t traffic m legs k = is_in_file t.count (stream_of t traffic m legs k) k

abbrev pub frame_known : Tuning → Traffic → Mark → (ℕ → List Leg) → ℕ → ℕ
frame_known t traffic m legs k = known_at t.count (stream_of t traffic m legs k) k

-- whether frame k becomes known at n samples
abbrev pub ends_now : Tuning → Traffic → Mark → (ℕ → List Leg) → ℕ → ℕ → Bool
ends_now t traffic m legs n k = has_frame t traffic m legs k && frame_known t traffic m legs k == n

-- a bound above the number of frames that end within n samples
abbrev pub frames_bound : ℕ → ℕ
frames_bound n = n / data_frame_chips + 1

abbrev pub frames_now : Tuning → Traffic → Mark → (ℕ → List Leg) → ℕ → List ℕ
frames_now t traffic m legs n = filter (ends_now t traffic m legs n) (places (frames_bound n))

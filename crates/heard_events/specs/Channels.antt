-- The channels of the reference base station whose frames are received from the mark on.
use Rattle.heard_events.specs.Common.{data_frame_chips, frame_offset_chips, after, paging_mask}
use Rattle.heard_events.specs.Common.{traffic_mask, R9600, fingers_of, Data, scrambling, Mark}
use Rattle.std.specs.Prelude.{ℕ, ◌+◌, ◌*◌, ◌<◌, ◌≤◌, Bool, true, false}
use Rattle.heard_events.specs.PagingStreams.{paging_rate}
use Rattle.heard_events.specs.Streams.{Stream}
use Rattle.heard_events.specs.TrafficStreams.{frame_state}
use Rattle.heard_events.specs.Tuning.{Tuning}
use Rattle.heard_events.specs.declared.channel.CodeChannel.{CodeChannel}
use Rattle.heard_events.specs.declared.channel.CodeChannel.TheVariants.{Paging, Traffic}
use Rattle.frame_decoder.specs.Spans as spans

-- a paging channel has a number from 1 to 7, a traffic channel a Walsh row and one of 16 offsets
abbrev pub IsLawful : CodeChannel → Type 0
IsLawful (Paging number) = (1 ≤ number) × (number ≤ 7)
IsLawful (Traffic traffic) = (traffic.row < 64) × (traffic.offset ≤ 15)

-- the Walsh row on which a channel is sent
abbrev pub row_of : CodeChannel → ℕ
row_of (Paging number) = number
row_of (Traffic traffic) = traffic.row

-- the number of chips from the mark to the start of its frame 0
abbrev pub offset_of : CodeChannel → ℕ
offset_of (Paging number) = 0
offset_of (Traffic traffic) = frame_offset_chips * traffic.offset

-- whether power control bits replace some of its symbols
abbrev pub has_power_control : CodeChannel → Bool
has_power_control (Paging number) = false
has_power_control (Traffic traffic) = true

-- the long code's state at the first chip of frame k, and the channel's mask
abbrev pub state_at : CodeChannel → Mark → ℕ → ℕ
state_at (Paging number) m k = after m.state (data_frame_chips * k)
state_at (Traffic traffic) m k = frame_state traffic m k

abbrev pub mask_of : CodeChannel → Mark → ℕ
mask_of (Paging number) m = paging_mask number m.pilot
mask_of (Traffic traffic) m = traffic_mask traffic.esn

-- how its frames are sent, and the reference sample at which its frame 0 begins
abbrev pub sent_as : CodeChannel → Mark → spans.Channel
sent_as (Paging number) m = spans.paging_channel (paging_rate m.prat)
sent_as (Traffic traffic) m = spans.paging_channel R9600

abbrev pub start_of : CodeChannel → Mark → ℕ
start_of (Paging number) m = m.sample
start_of (Traffic traffic) m = m.sample + frame_offset_chips * traffic.offset

-- A channel's frames on the reference base station's paths, each known at its own end.
abbrev pub channel_stream : Tuning → CodeChannel → Mark → Stream
channel_stream t channel m = record {
  channel = sent_as channel m;
  form = Data;
  fingers = fingers_of (row_of channel) t.phase t.deltas;
  first = start_of channel m;
  scrambling = λ k. scrambling (state_at channel m k) (mask_of channel m);
  waits = false;
}

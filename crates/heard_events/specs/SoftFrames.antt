-- The frames of a channel from the mark on, before they are decoded.
use Rattle.heard_events.specs.Common.{places, Sample, power_bit, group_sums, softs, frame_end, Mark}
use Rattle.heard_events.specs.Common.{frame_start, known_by}
use Rattle.std.specs.Prelude.{ℕ, [], ◌∷◌, List, map, ℤ, Option, Some, None, length}
use Rattle.heard_events.specs.Channels.{channel_stream}
use Rattle.heard_events.specs.PagingStreams.{paging_bound}
use Rattle.rake_finger.specs.Scrambled.{unscrambled}
use Rattle.heard_events.specs.TrafficStreams.{replaced_in}
use Rattle.heard_events.specs.Tuning.{Tuning}
use Rattle.heard_events.specs.declared.channel.CodeChannel.{CodeChannel}
use Rattle.heard_events.specs.declared.channel.CodeChannel.TheVariants.{Paging, Traffic}
use Rattle.heard_events.specs.declared.soft_frame.PowerControl.{PowerControl}
use Rattle.heard_events.specs.declared.soft_frame.SoftFrame.{SoftFrame}

-- the power control bits of frame k of a traffic channel, from its raw soft values
abbrev pub power_of : CodeChannel → Mark → ℕ → List ℤ → Option PowerControl
power_of (Paging number) m k raw = None
power_of (Traffic traffic) m k raw = Some (record {
  replaced = replaced_in traffic m k;
  power_bits = map (power_bit (group_sums (replaced_in traffic m k) raw ∷ [])) (places 16);
})

-- frame k's raw soft values, received on the paths of the reference base station
abbrev pub raw_at : Tuning → CodeChannel → Mark → List Sample → ℕ → List ℤ
raw_at t channel m samples k =
    let s = channel_stream t channel m in
    softs samples s.fingers s.form (frame_start s k)

-- frame k as received, from its raw soft values
abbrev pub soft_frame_of : Tuning → CodeChannel → Mark → ℕ → List ℤ → SoftFrame
soft_frame_of t channel m k raw =
    let s = channel_stream t channel m in
    record {
      number = k;
      end = frame_end s.fingers s.form (frame_start s k);
      descrambled = unscrambled (s.scrambling k) raw;
      power = power_of channel m k raw;
    }

abbrev pub soft_frame : Tuning → CodeChannel → Mark → List Sample → ℕ → SoftFrame
soft_frame t channel m samples k = soft_frame_of t channel m k (raw_at t channel m samples k)

-- the frames in the file that end within the first n samples, in order
unfoldable pub frames_within : Tuning → CodeChannel → Mark → List Sample → ℕ → List SoftFrame
frames_within t channel m samples n =
    map (soft_frame t channel m samples)
    (known_by t.count (channel_stream t channel m) n (paging_bound n))

-- the frames that end within these samples
abbrev pub soft_frames : Tuning → CodeChannel → Mark → List Sample → List SoftFrame
soft_frames t channel m samples = frames_within t channel m samples (length samples)

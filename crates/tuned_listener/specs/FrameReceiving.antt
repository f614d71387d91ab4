-- The state of the receiver of a channel's frames, each received by itself.
use Rattle.tuned_listener.specs.Common.{data_frame_chips, after, Tuning, CodeChannel, Mark, Held}
use Rattle.std.specs.Prelude.{◌≡◌, ℕ, ◌*◌, ◌<◌, ◌≤◌, length}
use Rattle.heard_events.specs.Channels.{channel_stream, has_power_control, mask_of, state_at}
use Rattle.tuned_listener.specs.declared.channel_receiver.ChannelReceiver.{ChannelReceiver}
use Rattle.reception.specs.Clocks.{IsAt, frame_come, clock_after_frame}
use Rattle.reception.specs.Sound.{IsSoundReceiver}

-- the receiver has one to three fingers, and has returned each frame that has ended
pub record IsSoundChannelReceiver (r : ChannelReceiver) : Type 0 where
  pub frames : IsSoundReceiver r.frames
  pub given : r.frames.clock.have ≡ r.frames.clock.next
  pub few : length r.frames.fingers ≤ 3

-- The receiver of this channel after this mark has returned the frames that end within `taken`
-- samples of a file.
pub record HasGiven (t : Tuning) (channel : CodeChannel) (m : Mark) (r : ChannelReceiver)
    (taken : ℕ) : Type 0 where
  pub clocked : IsAt t.count (channel_stream t channel m) r.frames.clock taken
  pub fingers_are : r.frames.fingers ≡ (channel_stream t channel m).fingers
  pub state_is : (k : ℕ) →
      after r.frames.scrambling.state (data_frame_chips * k) ≡ state_at channel m k
  pub mask_is : r.frames.scrambling.mask ≡ mask_of channel m
  pub power_is : r.power ≡ has_power_control channel

-- the receiver after another frame has ended and been returned
abbrev pub frame_passed : ChannelReceiver → ChannelReceiver
frame_passed r =
    record r {
      frames = record r.frames { clock = clock_after_frame (frame_come r.frames.clock) };
    }

-- the ring has room for two frames, and the next frame ends after the last sample taken
pub record IsSoundTuner (count : ℕ) (ring : Held) (receiver : ChannelReceiver) : Type 0 where
  pub few : count ≤ 67108864
  pub within : ring.taken ≤ count
  pub room : ring.room ≡ 65536
  pub receives : IsSoundChannelReceiver receiver
  pub waits : ring.taken < receiver.frames.clock.end

-- The state of the receiver of a paging channel.
use Rattle.mobile_core.specs.Common.{Sample, paging_mask, Data, IsDueAt, clock_after_frame, Tuning}
use Rattle.mobile_core.specs.Common.{pages_left, Scrambling, IsSoundChannel, Mark, SpelledPage}
use Rattle.std.specs.Prelude.{◌≡◌, ℕ, ◌*◌, ◌+◌, ◌<◌, ◌≤◌, ◌^◌, if◌then◌else◌, List, ◌++◌, length}
use Rattle.std.specs.Prelude.{nat_lt, take, Option}
use Rattle.std.specs.Option.{option_to_list}
use Rattle.heard_events.specs.PagingEvents.{paging_bits_before}
use Rattle.heard_events.specs.PagingStreams.{paging_rate, paging_stream}
use Rattle.reception.specs.Receiving.{Receives}
use Rattle.quality_bits.specs.declared.rate.Rate.{Rate}
use Rattle.heard_events.specs.Streams.{frame_own_bits}
use Rattle.mobile_core.specs.declared.paging_receiver.PagingReceiver.{PagingReceiver}
use Rattle.paging_message.specs.HalfFrames as half_frames

-- the next frame is due, and `frame` holds its bits, of which the framer has taken some
pub record IsUnderWay (t : Tuning) (channel : ℕ) (m : Mark) (r : PagingReceiver)
    (heard : List Sample) : Type 0 where
  pub due : IsDueAt t.count r.received.clock
  pub own : r.frame ≡ frame_own_bits t.count heard (paging_stream t channel m) r.received.clock.next

-- the parts that no step changes are those of the channel after the mark
pub record IsOfChannel (channel : ℕ) (m : Mark) (scrambling : Scrambling) (rate : Rate)
    (size : ℕ) : Type 0 where
  pub state_is : scrambling.state ≡ m.state
  pub mask_is : scrambling.mask ≡ paging_mask channel m.pilot
  pub rate_is : rate ≡ paging_rate m.prat
  pub size_is : size ≡ half_frames.half_frame_body (paging_rate m.prat)

-- The receiver has taken these samples. Its framer has taken the bits of the frames before the next
-- one, and the first `place` bits of that one.
pub record HearsPaging (t : Tuning) (channel : ℕ) (m : Mark) (r : PagingReceiver)
    (heard : List Sample) : Type 0 where
  pub receives : Receives t.count (paging_stream t channel m) r.received heard
  pub tuned : IsOfChannel channel m r.scrambling r.rate r.framer.size
  pub under_way : 0 < r.place → IsUnderWay t channel m r heard
  pub framed : half_frames.HalfFramesStandFor r.framer
      (paging_bits_before t.count heard (paging_stream t channel m) r.received.clock.next
      ++ take r.place
      (frame_own_bits t.count heard (paging_stream t channel m) r.received.clock.next))

-- The receiver has decoded one bit of the due frame, and returns the message that it completes.
pub record HearsBit (t : Tuning) (channel : ℕ) (m : Mark) (heard : List Sample)
    (before after : PagingReceiver) (page : Option SpelledPage) : Type 0 where
  pub hears : HearsPaging t channel m after heard
  pub left : option_to_list page
      ++ pages_left t channel m heard after.received.clock.next after.place
      ≡ pages_left t channel m heard before.received.clock.next before.place

-- the receiver after another bit of the next frame; the last bit completes the frame
abbrev pub bit_passed : PagingReceiver → PagingReceiver
bit_passed r =
    if nat_lt (r.place + 1) (length r.frame) then record r { place = r.place + 1 }
    else record r {
      received = record r.received { clock = clock_after_frame r.received.clock };
      place = 0;
    }

-- the number of bits that have been decoded, counting 192 for each frame
abbrev pub bits_heard : PagingReceiver → ℕ
bits_heard r = 192 * r.received.clock.next + r.place

-- frames of a paging channel; if one is under way, some of its bits are left
pub record IsSoundPaging (r : PagingReceiver) : Type 0 where
  pub channel : IsSoundChannel r.received
  pub form_is : r.received.clock.form ≡ Data
  pub masked : r.scrambling.mask < 2 ^ 42
  pub within : 0 < r.place → r.place < length r.frame
  pub most : length r.frame ≤ 192

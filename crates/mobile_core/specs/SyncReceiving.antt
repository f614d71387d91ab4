-- The state of the receiver of the sync channel.
use Rattle.mobile_core.specs.Common.{Sample, Sync, event_list, sync_events_left, IsSoundChannel}
use Rattle.mobile_core.specs.Common.{IsSoundMark, Tuning, sync_stream, Event}
use Rattle.std.specs.Prelude.{◌≡◌, ◌≤◌, ℕ, ◌-◌, ◌*◌, ◌^◌, ◌||◌, List, ◌++◌, is_some, Option}
use Rattle.std.specs.List.{list_any}
use Rattle.std.specs.Option.{ForSome}
use Rattle.rake_finger.specs.Soft.{frame_chips}
use Rattle.heard_events.specs.Marks.{frames_open, mark_before, sets_mark}
use Rattle.reception.specs.Receiving.{Receives}
use Rattle.heard_events.specs.SyncEvents.{frames_before}
use Rattle.mobile_core.specs.declared.sync_receiver.SyncReceiver.{SyncReceiver}
use Rattle.sync_message.specs.Framing as framing

-- The receiver has taken these samples, and decoded the frames in them before the next one.
pub record HearsSync (t : Tuning) (r : SyncReceiver) (heard : List Sample) : Type 0 where
  pub receives : Receives t.count (sync_stream t) r.received heard
  pub framed : framing.CapsuleStandsFor r.framer (frames_before t heard r.received.clock.next)
  pub opened : r.message_frames ≡ frames_open t heard r.received.clock.next
  pub marked : r.mark ≡ mark_before t heard r.received.clock.next

-- the sample at which the message under way begins
abbrev pub message_start : SyncReceiver → ℕ
message_start r =
    let clock = r.received.clock in
    clock.start - frame_chips clock.form * (clock.have - (clock.next - r.message_frames))

-- The receiver has decoded the frame that was due, and returns the event that it completes.
pub record HearsNext (t : Tuning) (heard : List Sample) (before after : SyncReceiver)
    (event : Option Event) : Type 0 where
  pub hears : HearsSync t after heard
  pub left : event_list event ++ sync_events_left t heard after.received.clock.next
      ≡ sync_events_left t heard before.received.clock.next
  pub noted : is_some after.mark ≡ (is_some before.mark || list_any sets_mark (event_list event))

-- frames of the sync channel; the message under way has no more frames than have been decoded
pub record IsSoundSync (r : SyncReceiver) : Type 0 where
  pub channel : IsSoundChannel r.received
  pub form_is : r.received.clock.form ≡ Sync
  pub frames : r.message_frames ≤ r.received.clock.next
  pub early : r.received.clock.end ≤ 2 ^ 28
  pub marked : ForSome r.mark IsSoundMark

-- Names from other crates that the definitions of this crate use.
pub use Rattle.chip_core.specs.declared.assignment.Traffic.{Traffic}
pub use Rattle.chip_core.specs.declared.sample.Sample.{Sample}
pub use Rattle.heard_events.specs.Given.{at_of, event_list}
pub use Rattle.heard_events.specs.Left.{frames_left_of, messages_left_of, pages_left, pilot_left}
pub use Rattle.heard_events.specs.Left.{sets_left_of, sync_events_left}
pub use Rattle.heard_events.specs.SoundMarks.{IsSoundMark}
pub use Rattle.heard_events.specs.SpelledMessages.{SpelledPage, SpelledSignal}
pub use Rattle.heard_events.specs.Tuning.{Tuning, sync_stream}
pub use Rattle.heard_events.specs.declared.event.Event.{Event}
pub use Rattle.heard_events.specs.declared.mark.Mark.{Mark}
pub use Rattle.long_code.specs.LongCode.{paging_mask, traffic_mask}
pub use Rattle.rake_finger.specs.declared.form.Form.TheVariants.{Data, Sync}
pub use Rattle.reception.specs.Clocks.{IsDueAt, clock_after_frame, frame_come}
pub use Rattle.reception.specs.Sound.{IsSoundChannel, IsSoundReceiver}
pub use Rattle.reception.specs.declared.scrambling.Scrambling.{Scrambling}

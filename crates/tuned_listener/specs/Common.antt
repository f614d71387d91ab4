-- Names from other crates that the definitions of this crate use.
pub use Rattle.chip_core.specs.Air.{IsListLength, data_frame_chips, superframe_chips}
pub use Rattle.chip_core.specs.declared.check_form.CheckForm.{CheckForm}
pub use Rattle.chip_core.specs.declared.sample.Sample.{Sample}
pub use Rattle.event_tap.specs.Slots.{slot_after, slot_more, slot_text}
pub use Rattle.event_tap.specs.TunedTexts.{after_mark, listed_text, rate2_text, text_from}
pub use Rattle.event_tap.specs.TunedTexts.{tuned_frame_text, tuned_text}
pub use Rattle.heard_events.specs.Common.{Held, HoldsLast, after}
pub use Rattle.heard_events.specs.Marks.{mark, sets_mark}
pub use Rattle.heard_events.specs.SoftFrames.{soft_frames}
pub use Rattle.heard_events.specs.declared.channel.CodeChannel.{CodeChannel}
pub use Rattle.heard_events.specs.declared.mark.Mark.{Mark}
pub use Rattle.heard_events.specs.declared.soft_frame.SoftFrame.{SoftFrame}
pub use Rattle.mobile_core.specs.Common.{IsSoundMark, Tuning, sync_stream}
pub use Rattle.mobile_core.specs.Standing.{StandsFor, has_room, samples_taken}
pub use Rattle.mobile_core.specs.declared.mobile.Mobile.{Mobile}
pub use Rattle.pilot_search.specs.declared.paths.Near.{Near}
pub use Rattle.rake_finger.specs.Near.{AreNear}
pub use Rattle.reception.specs.Softs.{frame_most}

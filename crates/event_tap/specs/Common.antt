-- Names from other crates that the definitions of this crate use.
unfoldable pub use Rattle.chip_core.specs.Bits.{binary, places}
pub use Rattle.chip_core.specs.Fields.{FieldsFit, in_widths}
pub use Rattle.chip_core.specs.declared.check_form.CheckForm.{CheckForm}
pub use Rattle.chip_core.specs.declared.sample.Sample.{Sample}
pub use Rattle.heard_events.specs.Channels.{IsLawful, channel_stream}
pub use Rattle.heard_events.specs.Marks.{mark}
pub use Rattle.heard_events.specs.PagingStreams.{paging_rate}
pub use Rattle.heard_events.specs.Streams.{Stream}
pub use Rattle.heard_events.specs.Tuning.{Tuning}
pub use Rattle.heard_events.specs.declared.channel.CodeChannel.TheVariants.{Paging}
pub use Rattle.heard_events.specs.declared.event.Event.{Event}
pub use Rattle.heard_events.specs.declared.event.Event.TheVariants.{Frame, Pilot, Sets, Sync}
pub use Rattle.heard_events.specs.declared.event.Event.TheVariants.{Traffic}
pub use Rattle.heard_events.specs.declared.mark.Mark.{Mark}
pub use Rattle.heard_events.specs.declared.soft_frame.SoftFrame.{SoftFrame}
pub use Rattle.line_text.specs.Texts.{digit_of, spaced_key}
unfoldable pub use Rattle.line_text.specs.Texts.{bit_text, digits_of, packed_octets, padded}
unfoldable pub use Rattle.line_text.specs.Texts.{state_digits}
pub use Rattle.pilot_sets.specs.declared.lists.Active.{Active}
pub use Rattle.quality_bits.specs.declared.rate.Rate.{Rate}
pub use Rattle.slot_mode.specs.Frames.{slot_bits}
pub use Rattle.slot_mode.specs.Slots.{is_monitored}
pub use Rattle.sync_message.specs.declared.fields.SyncFields.{SyncFields}
pub use Rattle.traffic_message.specs.Messages.{Message, head_fields, head_values, kind_of}
pub use Rattle.traffic_message.specs.declared.fields.Head.{Head}

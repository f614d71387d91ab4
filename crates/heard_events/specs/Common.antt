-- Names that the definitions of this crate use, from other crates and of its own types.
pub use Rattle.chip_core.specs.Air.{data_frame_chips, frame_offset_chips, half_window_chips}
pub use Rattle.chip_core.specs.Air.{superframe_chips}
unfoldable pub use Rattle.chip_core.specs.Bits.{places}
pub use Rattle.chip_core.specs.declared.assignment.Traffic.{Traffic}
pub use Rattle.chip_core.specs.declared.check_form.CheckForm.{CheckForm}
pub use Rattle.chip_core.specs.declared.sample.Sample.{Sample}
pub use Rattle.frame_decoder.specs.Spans.{paging_channel}
pub use Rattle.frame_decoder.specs.TrafficFrames.{decoded, group_sums, power_bit}
pub use Rattle.frame_decoder.specs.TrafficFrames.{summed_subchannels}
pub use Rattle.frame_decoder.specs.declared.traffic.Decoded.{Decoded}
pub use Rattle.long_code.specs.LongCode.{IsState, after, paging_mask, traffic_mask}
pub use Rattle.paging_message.specs.declared.message.PagingMessage.{PagingMessage}
pub use Rattle.pilot_sets.specs.Standing.{with_thresholds, with_neighbors, window_number, change_at}
pub use Rattle.pilot_sets.specs.Standing.{new_standing, Standing, directed, stepped, due_at, shown}
pub use Rattle.quality_bits.specs.Pieces.{CapsuleStandsFor, capsule_ending, from_last_start, piece}
pub use Rattle.quality_bits.specs.declared.rate.Rate.TheVariants.{R9600}
pub use Rattle.rake_finger.specs.Held.{Held, HoldsLast}
pub use Rattle.rake_finger.specs.InRing.{HoldsBefore, IsInRing}
pub use Rattle.rake_finger.specs.Paths.{fingers_of, modulo_code}
pub use Rattle.rake_finger.specs.Soft.{softs}
pub use Rattle.rake_finger.specs.Streams.{frame_end, frame_softs, frame_start, is_in_file, known_at}
pub use Rattle.rake_finger.specs.Streams.{known_by, known_now, span_frames}
pub use Rattle.rake_finger.specs.declared.finger.Finger.{Finger}
pub use Rattle.rake_finger.specs.declared.form.Form.TheVariants.{Data}
pub use Rattle.symbol_path.specs.Scrambling.{power_places, scrambling}
pub use Rattle.sync_message.specs.declared.fields.SyncFields.{SyncFields}
pub use Rattle.heard_events.specs.declared.event.Event.{Event}
pub use Rattle.heard_events.specs.declared.event.Event.TheVariants.{Frame, Pilot, Sets, Sync}
pub use Rattle.heard_events.specs.declared.leg.Leg.{Leg}
pub use Rattle.heard_events.specs.declared.mark.Mark.{Mark}

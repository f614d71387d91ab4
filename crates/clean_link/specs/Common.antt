-- Names from other crates that the definitions of this crate use.
unfoldable pub use Rattle.cell_plan.specs.Common.{spelling, sync_body, sync_capsule}
pub use Rattle.cell_plan.specs.PageCycles.{Cycle, cycle_frame_bits}
pub use Rattle.cell_plan.specs.Plan.{IsFreeOf}
pub use Rattle.cell_plan.specs.Sendings.{message_of, sync_frame_bits, sync_symbols}
pub use Rattle.cell_plan.specs.Signal.{Carrier, carriers, cycle_of, frames_of}
pub use Rattle.cell_plan.specs.SomeMessage.{some_message, some_sync}
pub use Rattle.cell_plan.specs.Stated.{IsReceivable, IsStatedPaging}
pub use Rattle.cell_plan.specs.TrafficFrames.{FrameCycle, IsSetOneFrame, IsSetTwoFrame, SetTwoFrame}
pub use Rattle.cell_plan.specs.TrafficFrames.{frames_in_turn, planned}
pub use Rattle.cell_plan.specs.declared.plan.CellPlan.{CellPlan}
pub use Rattle.cell_plan.specs.declared.plan.Page.{Page}
pub use Rattle.cell_plan.specs.declared.plan.PagingPlan.{PagingPlan}
pub use Rattle.cell_plan.specs.declared.plan.SyncPlan.{SyncPlan}
pub use Rattle.cell_plan.specs.declared.plan.TrafficPlan.{TrafficPlan}
pub use Rattle.cell_plan.specs.declared.traffic_frame.FrameRate.TheVariants.{SetOne, SetTwo}
pub use Rattle.cell_plan.specs.declared.traffic_frame.TrafficFrame.{TrafficFrame}
unfoldable pub use Rattle.chip_core.specs.Bits.{binary, places}
pub use Rattle.chip_core.specs.declared.assignment.Traffic.{Traffic}
pub use Rattle.chip_core.specs.declared.check_form.CheckForm.TheVariants.{Complemented, Plain}
pub use Rattle.chip_core.specs.declared.sample.Sample.{Sample}
pub use Rattle.chip_core.specs.declared.width.Width.{Width}
pub use Rattle.chip_core.specs.declared.width.Width.TheVariants.{Sixteen}
pub use Rattle.clean_frames.specs.Common.{SetOneFrame, cycled_frame, number_at, sent_paging_rate}
pub use Rattle.clean_frames.specs.Common.{set_two, superframe_chips}
unfoldable pub use Rattle.clean_frames.specs.Common.{page_cycle}
pub use Rattle.clean_frames.specs.SentFrames.{AreDistinct, IsAssigned, IsDistinctFrame, SendsSetOne}
pub use Rattle.clean_frames.specs.SentFrames.{SendsSetTwo, SendsSymbols, ShowFrame, ShowPowerBits}
pub use Rattle.clean_frames.specs.SentFrames.{codeword_symbols, frame_ends, is_received}
pub use Rattle.clean_frames.specs.SentFrames.{received_frames, replaced_of, sent_power_bits}
pub use Rattle.clean_frames.specs.SentFrames.{signal_sent, signals_received}
unfoldable pub use Rattle.clean_frames.specs.SentFrames.{sent_bits}
pub use Rattle.clean_frames.specs.WholeSendings.{first_sync_frame, heard_after, sending_ends}
pub use Rattle.clean_frames.specs.WholeSendings.{told_with_sync, whole_sendings}
pub use Rattle.clean_signal.specs.BoundedNoise.{Bears, IsMargin, IsNear, with_added}
pub use Rattle.clean_signal.specs.Common.{Codeword, Form, HaveSigns, IsAllowed, best_phase, signed}
pub use Rattle.clean_signal.specs.Common.{continued_symbols, frame_softs, is_in_file, made_samples}
pub use Rattle.clean_signal.specs.Common.{phase_at, softs, span_first, span_frames, symbols, xor}
pub use Rattle.clean_signal.specs.Signals.{AreReadBy, IsFrameAt, IsFrameOf, IsHeardBy, IsOnlyBest}
pub use Rattle.clean_signal.specs.Signals.{path_finger, soft_strength, span_codeword}
pub use Rattle.clean_signal.specs.WorkedCells.{cell_of_frames, cell_with}
pub use Rattle.conv_code.specs.ConvCode.{code_symbols, g0, g1, symbol}
pub use Rattle.frame_decoder.specs.Formats.{bits_in, format_of, score_in}
pub use Rattle.frame_decoder.specs.Laws.{IsUnshared, ShowSymbols, frame_codeword, kept_count}
pub use Rattle.frame_decoder.specs.Signs.{KeepSigns}
pub use Rattle.frame_decoder.specs.TrafficFrames.{frame_bits, is_replaced, unreplaced}
pub use Rattle.frame_decoder.specs.declared.traffic.Decoded.{Decoded}
pub use Rattle.heard_events.specs.Events.{events}
pub use Rattle.heard_events.specs.FramesAlone.{traffic_channel}
pub use Rattle.heard_events.specs.Given.{at_of}
pub use Rattle.heard_events.specs.Marks.{mark}
pub use Rattle.heard_events.specs.Moments.{frames_at, legs_at, messages_at, sets_at}
pub use Rattle.heard_events.specs.PagingEvents.{as_spelled_page, page_event, pages_if_marked}
pub use Rattle.heard_events.specs.PagingStreams.{paging_stream}
pub use Rattle.heard_events.specs.Signaling.{capsule_with, message_events, signal_in}
pub use Rattle.heard_events.specs.SoftFrames.{raw_at, soft_frame, soft_frames}
pub use Rattle.heard_events.specs.Streams.{Stream, frame_own_bits}
pub use Rattle.heard_events.specs.SyncEvents.{sync_events_at}
pub use Rattle.heard_events.specs.TrafficEvents.{decoded_at, frame_event, frame_heard, if_followed}
pub use Rattle.heard_events.specs.TrafficEvents.{power_bits_at, raw_softs}
pub use Rattle.heard_events.specs.TrafficStreams.{has_frame, replaced_in, stream_of}
pub use Rattle.heard_events.specs.Tuning.{Tuning, sync_stream}
pub use Rattle.heard_events.specs.declared.event.Event.{Event}
pub use Rattle.heard_events.specs.declared.event.Event.TheVariants.{Frame, Paging, Pilot, Sync}
pub use Rattle.heard_events.specs.declared.leg.Leg.{Leg}
pub use Rattle.heard_events.specs.declared.mark.Mark.{Mark}
pub use Rattle.heard_events.specs.declared.soft_frame.SoftFrame.{SoftFrame}
pub use Rattle.long_code.specs.LongCode.{after, before}
unfoldable pub use Rattle.message_layout.specs.Reading.{fields_at, group_at, number_part, octets_at}
unfoldable pub use Rattle.message_layout.specs.Reading.{part_at, presence_at, reading, records_at}
unfoldable pub use Rattle.paging_message.specs.Laying.{fill, framed, half_frames_of, laid_on}
unfoldable pub use Rattle.quality_bits.specs.Capsules.{capsule, front_capsule, is_stated}
unfoldable pub use Rattle.quality_bits.specs.Pieces.{capsule_ending}
unfoldable pub use Rattle.quality_bits.specs.Quality.{check_bits}
pub use Rattle.quality_bits.specs.TrafficCodewords.{repeats_of, traffic_codeword}
pub use Rattle.quality_bits.specs.declared.format.FrameFormat.{FrameFormat}
pub use Rattle.quality_bits.specs.declared.kind.Kind.TheVariants.{M30}
pub use Rattle.quality_bits.specs.declared.rate.Rate.{Rate}
pub use Rattle.quality_bits.specs.declared.rate.Rate.TheVariants.{R1200, R2400, R4800, R9600}
pub use Rattle.rake_finger.specs.declared.finger.Finger.{Finger}
pub use Rattle.rake_finger.specs.declared.form.Form.TheVariants.{Data}
pub use Rattle.rate_set_two.specs.Laws.{IsUnshared2, good_frame2}
pub use Rattle.rate_set_two.specs.TrafficFrames.{decoded2, frame_codeword2, frame_symbols2}
pub use Rattle.rate_set_two.specs.declared.traffic.Decoded2.{Decoded2}
pub use Rattle.symbol_path.specs.FramesTwo.{codeword_bits}
pub use Rattle.symbol_path.specs.SentOrder.{address, data_shape, sent}
pub use Rattle.symbol_path.specs.SentOrderTwo.{is_dropped, repeated_symbol}
pub use Rattle.symbol_path.specs.declared.rate_two.Rate2.{Rate2}
pub use Rattle.symbol_path.specs.declared.rate_two.Rate2.TheVariants.{R14400, R1800, R3600, R7200}
pub use Rattle.sync_message.specs.declared.fields.SyncFields.{SyncFields}
pub use Rattle.traffic_message.specs.Messages.{Message}
unfoldable pub use Rattle.traffic_message.specs.Messages.{traffic_capsule, traffic_message_body}
unfoldable pub use Rattle.traffic_message.specs.Multiplex.{split, split_9600}
unfoldable pub use Rattle.traffic_message.specs.Reading.{head_at, head_of, is_traffic_body}
unfoldable pub use Rattle.traffic_message.specs.Reading.{part_reading, traffic_body_reading}
unfoldable pub use Rattle.traffic_message.specs.Reading.{traffic_reading}
pub use Rattle.traffic_message.specs.declared.body.TrafficBody.{TrafficBody}
pub use Rattle.traffic_message.specs.declared.body.TrafficBody.TheVariants.{Other}
pub use Rattle.viterbi.specs.Signs.{HasSign}
pub use Rattle.viterbi.specs.declared.codeword.Ends.TheVariants.{Zero}

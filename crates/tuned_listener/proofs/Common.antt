-- What the proofs of this crate cite of what lies below, and of its own definitions.
pub use Rattle.std.proofs.Common.{None, Option, Some, append_assoc, flat_map, sum_by, take-add, ◌%◌, ◌⊎◌}
pub use Rattle.std.proofs.KnownBytes.{Appends-nil, Appends-trans}
pub use Rattle.std.proofs.Math.Logic.{∥∥₁_map}
pub use Rattle.std.proofs.lemmas.Bool.{and_right, eqb-false, false_from_ne_true}
pub use Rattle.std.proofs.lemmas.Grind.{common_steps, not_there}
pub use Rattle.std.proofs.lemmas.List.{drop-drop, drop-take, map-append, nil_from_length, take-append-drop, take-take, take_all, take_rest}
pub use Rattle.std.proofs.lemmas.Slice.{between-put_mid, take-put_mid, take-put_mid_below}
pub use Rattle.std.specs.Io.{StartsWith}
pub use Rattle.std.specs.Prelude.{IfSome, if◌then◌else◌, int_le, is_some}
pub use Rattle.cdma_io.proofs.Common.{Appends, Bool, List, [], ap, append-nil, arith, drop, err_from_is_err_and, false, inl, inr, ints, suc}
pub use Rattle.cdma_io.proofs.Common.{length, length-append, length-take, refl, rules, subst, sym, take, true, zero, ℕ, ℤ, ◌*◌, ◌++◌, ◌+◌}
pub use Rattle.cdma_io.proofs.Common.{◌-◌, ◌<◌, ◌∙◌, ◌∷◌, ◌≡◌, ◌≤◌}
pub use Rattle.cdma_io.specs.Outside.{AppendsPrefix}
pub use Rattle.cdma_io.proofs.Prefixes.{begins_more, on_err, on_ok, prefix_after, prefix_before, taken_begins}
pub use Rattle.event_tap.specs.PagingLines.{paging_line, slot_line}
pub use Rattle.event_tap.specs.SlotLines.{frame_of_slot, frame_of_slot_end, is_heard, is_slot_within, lines_by_times, lines_if_marked}
pub use Rattle.event_tap.specs.SlotLines.{lines_of_slot, lines_of_slots, slot_bound, slot_lines}
unfoldable pub use Rattle.event_tap.specs.SlotLines.{slot_pages}
unfoldable pub use Rattle.event_tap.specs.Slots.{slot_after}
pub use Rattle.event_tap.specs.TunedTexts.{after_mark, frames_from, listed_text, rate2_text, text_from, text_if_marked, tuned_frame_text}
unfoldable pub use Rattle.event_tap.specs.TunedTexts.{frames_text, tuned_text}
pub use Rattle.event_tap.specs.declared.tuned_text.TunedText.{TunedText}
pub use Rattle.event_tap.specs.declared.tuned_text.TunedText.TheVariants.{Listed, RateSetTwo, Slots}
pub use Rattle.heard_events.proofs.Arrivals.{Arrivals, by_parts, frames_in, is_by, known_is}
pub use Rattle.heard_events.proofs.ChannelFrames.{channel_ordered, first_by, frame_same, frames_sooner}
pub use Rattle.heard_events.proofs.Common.{AgreeIn, and_parts, eqb-true, false≢true, filter, flat_map-append, flat_map-places-more, low_in}
pub use Rattle.heard_events.proofs.Common.{leb-true, length-take-le, low_of, range_with_len, slice_get_within, ◌&&◌, ◌-ℤ◌}
unfoldable pub use Rattle.heard_events.proofs.Common.{frames_within, mark, places, stream_end}
pub use Rattle.heard_events.proofs.Growth.{timed_of}
pub use Rattle.heard_events.proofs.MarkGrowth.{none_marked}
pub use Rattle.heard_events.proofs.MarkStays.{mark_after, mark_set, mark_sooner, mark_stays, paging_near}
pub use Rattle.heard_events.specs.Channels.{IsLawful, channel_stream, has_power_control, mask_of, state_at}
pub use Rattle.heard_events.specs.PagingStreams.{paging_bound, paging_rate}
pub use Rattle.heard_events.specs.SoftFrames.{power_of, soft_frame, soft_frames}
pub use Rattle.heard_events.specs.declared.channel.CodeChannel.TheVariants.{Paging, Traffic}
pub use Rattle.heard_events.specs.declared.event.Event.{Event}
pub use Rattle.heard_events.specs.declared.soft_frame.PowerControl.{PowerControl}
pub use Rattle.mobile_core.proofs.Common.{HalfFramesStandFor, IsTimed, Stream, Tuning, and_from, at_of, eq-eqb, event_list, events, le-leb}
pub use Rattle.mobile_core.proofs.Common.{half_frame_body, half_frame_capsule_ending, list_any, lt-leb, map, mark_later, nat_le, none-some}
pub use Rattle.mobile_core.proofs.Common.{option_to_list, scrambling, sets_mark, slice_get, sync_stream, taken_more, ◌/◌, ◌==◌}
pub use Rattle.mobile_core.proofs.MarkAhead.{marked_all}
pub use Rattle.mobile_core.specs.Standing.{StandsFor, Steps, has_room, samples_taken, steps_left}
pub use Rattle.mobile_core.specs.declared.mobile.Step.{Step}
unfoldable pub use Rattle.paging_message.specs.HalfFrames.{capsules_in}
pub use Rattle.paging_message.specs.Reading.{paging_reading}
pub use Rattle.paging_message.specs.declared.message.PagingMessage.{PagingMessage}
pub use Rattle.quality_bits.specs.declared.rate.Rate.{Rate}
pub use Rattle.rake_finger.proofs.CloseFingers.{close_begun, near_are_close, near_parts}
pub use Rattle.rake_finger.proofs.FrameTimes.{ends_lt, inside_from, inside_to, known_between, known_own, outside_low}
pub use Rattle.rake_finger.specs.declared.form.Form.TheVariants.{Data}
pub use Rattle.reception.proofs.Common.{AreNear, IsAt, IsDueAt, all_begun, all_near, cases_Bool, cases_lt, clock_from, finger_of, known_at}
pub use Rattle.reception.proofs.Common.{fingers_of, first_frame, flat_map_ext_places, frame_chips, frame_come, frame_softs, frame_start}
pub use Rattle.reception.proofs.Common.{has_reference, is_in_file, nat_lt, pos, softs, sum_by-append, timed_in, unscrambled, unsigned_abs}
pub use Rattle.reception.specs.declared.frame_clock.FrameClock.{FrameClock}
pub use Rattle.reception.specs.declared.scrambling.Scrambling.{Scrambling}
pub use Rattle.slot_mode.specs.Frames.{slot_bits, slot_span_softs}
pub use Rattle.slot_mode.specs.Slots.{is_monitored}
pub use borrow.Rule.Slice.PartMut.{put_mid}
pub use mir.Val.{bool_byte}
pub use Rattle.tuned_listener.specs.Common.{CodeChannel, CheckForm, IsSoundMark, Mark, Mobile, Near, Sample, SoftFrame, after, frame_most}
pub use Rattle.tuned_listener.specs.Common.{slot_more, slot_text}
pub use Rattle.tuned_listener.specs.FrameReceiving.{HasGiven, frame_passed}
pub use Rattle.tuned_listener.specs.FrameWriting.{HoldsFrames, IsReady, WritesFrames, WritesFramesPart, tuned_text_of}
pub use Rattle.tuned_listener.specs.Marking.{HasNoMark, HearsUntold, IsMarkedAt, IsUntold, ListensAhead}
pub use Rattle.tuned_listener.specs.SlotLaws.{AgreeInSlot, IsWrittenByTimes, NeedsMark, SleepsThroughTheRest}
pub use Rattle.tuned_listener.specs.SlotWriting.{HoldsSlot, IsReadyForSlots, page_list, pages_ending}
pub use Rattle.tuned_listener.specs.SoundListener.{CanOpen, CanOpenFor, IsSoundHearer}
pub use Rattle.tuned_listener.specs.TunedListening.{ListensAfter, ListensFrom, ListensTuned, OpensFor, TellsTuned, TellsTunedPart, WaitsFor}
pub use Rattle.tuned_listener.specs.TunedListening.{WasTold}
pub use Rattle.tuned_listener.specs.Tuners.{IsTunedTo, IsTunerStep, samples_left}
pub use Rattle.tuned_listener.specs.declared.channel_receiver.ChannelReceiver.{ChannelReceiver}
pub use Rattle.tuned_listener.specs.declared.frame_writer.FrameWriter.{FrameWriter}
pub use Rattle.tuned_listener.specs.declared.slot_writer.Page.{Page}
pub use Rattle.tuned_listener.specs.declared.slot_writer.SlotWriter.{SlotWriter}
pub use Rattle.tuned_listener.specs.declared.tuned.Hearer.{Hearer}
pub use Rattle.tuned_listener.specs.declared.tuned.Hearer.TheVariants.{After, Ahead}
pub use Rattle.tuned_listener.specs.declared.tuned.TunedListener.{TunedListener}
pub use Rattle.tuned_listener.specs.declared.tuner.Tuner.{Tuner}
pub use Rattle.tuned_listener.specs.declared.tuner.TunerStep.{TunerStep}

-- What the proofs of this crate cite of what lies below, and of its own definitions.
pub use Rattle.std.proofs.Common.{None, Option, Some, add-one, ap₂, filter, length-take, slice_get, slice_set}
pub use Rattle.std.proofs.lemmas.Bool.{cond_both, eq-eqb, eqb-true, false≢true, leb-false, lt-ltb, ne_eqb, or_left, or_right}
pub use Rattle.std.proofs.lemmas.Grind.{common_steps, elements, flat_map-append}
pub use Rattle.std.proofs.lemmas.List.{get_or-append-add, length-map, map_more, take-append-drop}
pub use Rattle.std.proofs.lemmas.List.Elements.{All-append, All-filter, All-map, All-push, All-take, filter-append}
pub use Rattle.std.proofs.lemmas.List.Folds.{list_all-append, list_all-map, list_any-append}
pub use Rattle.std.proofs.lemmas.List.Sums.{AllPass-from_list_all, count_by-le-length, length-filter, list_all-from_AllPass}
pub use Rattle.std.proofs.lemmas.Option.{cond_some, get_or_from_slice_get, none-some, slice_get-map, slice_get_within}
pub use Rattle.std.specs.Option.{option_map, option_or, option_to_list}
pub use Rattle.std.specs.Prelude.{IsTrue, if◌then◌else◌, is_some, nat_eq, unsigned_abs}
pub use Rattle.chip_core.proofs.Places.{places-more, places-none}
pub use Rattle.chip_core.proofs.Ranges.{map_ext_filter_places, flat_map-places-more, filter_first_places, flat_map_ext_filter, every}
pub use Rattle.chip_core.proofs.Ranges.{flat_map_ext_places, filter-places-more, filter_none_places, flat_map_ext_range, filter_ext_places}
pub use Rattle.frame_decoder.proofs.BestCodewords.{length-best_codeword}
pub use Rattle.frame_decoder.proofs.Common.{All, Codeword, best_codeword, cases_Bool, cases_lt, false, flat_map, format_of, length-drop}
pub use Rattle.frame_decoder.proofs.Common.{length-take-le, map, own_bits, range_with_len, score, sending, suc, take_all, zero, ◌&&◌, ◌||◌}
unfoldable pub use Rattle.frame_decoder.proofs.Common.{decoded}
pub use Rattle.frame_decoder.proofs.InformationBits.{frame_long}
pub use Rattle.frame_decoder.proofs.Parts.{within}
pub use Rattle.frame_decoder.specs.TrafficFrames.{group_sums, lower_rates, power_bit, summed_subchannels}
pub use Rattle.paging_message.proofs.Common.{IfSome, and_from, and_left, and_parts, append-nil, is_stated, le-leb, leb-true, list_all, ◌/◌}
pub use Rattle.paging_message.proofs.Common.{list_any, lt-leb, map-append, nat_le, nat_lt, stated_bits, take-append-le, ◌==◌}
unfoldable pub use Rattle.paging_message.proofs.Common.{front_capsule, places}
pub use Rattle.pilot_sets.proofs.Common.{Bool, List, [], ap, arith, cond, drop, get_or, handed_off, inl, inr, length, length-append, refl}
pub use Rattle.pilot_sets.proofs.Common.{pilots_of_actives, rules, subst, sym, take, true, ℕ, ◌++◌, ◌+◌, ◌-◌, ◌<◌, ◌∙◌, ◌∷◌, ◌≡◌, ◌≤◌}
pub use Rattle.pilot_sets.specs.Orderly.{IsOrderly, IsStanding, times_listed}
pub use Rattle.pilot_sets.specs.Standing.{Standing, began_in, deltas_with, due_at, due_for, new_standing, shown, shown_active}
pub use Rattle.pilot_sets.specs.declared.change.SetChange.{SetChange}
pub use Rattle.pilot_sets.specs.declared.lists.Active.{Active}
pub use Rattle.pilot_sets.specs.declared.standing.Accepted.{Accepted}
pub use Rattle.pilot_sets.specs.declared.standing.ActivePilot.{ActivePilot}
pub use Rattle.pilot_sets.specs.declared.standing.PilotSets.{PilotSets}
pub use Rattle.pilot_sets.specs.declared.strengths.Strength.{Strength}
pub use Rattle.quality_bits.specs.Pieces.{Piece, bodies, but_last, from_last_start, piece}
unfoldable pub use Rattle.quality_bits.specs.Pieces.{capsule_ending}
pub use Rattle.quality_bits.specs.TrafficCodewords.{information_of}
pub use Rattle.quality_bits.specs.declared.rate.Rate.{Rate}
pub use Rattle.quality_bits.specs.declared.rate.Rate.TheVariants.{R1200, R2400, R4800, R9600}
pub use Rattle.rake_finger.proofs.Common.{AgreeIn, All-cons, All-head, All-nil, All-replicate, All-set, All-tail, AreClose, AreNear, ints}
pub use Rattle.rake_finger.proofs.Common.{FitsSigned, HoldsLast, IsInRing, IsTimed, all_begun, all_close, all_near, get_or_append_left, pos}
pub use Rattle.rake_finger.proofs.Common.{has_reference, is_close, is_near, of_z, or_cases, to_z, unscrambled, w16, w64, ℤ, ◌-ℤ◌}
unfoldable pub use Rattle.rake_finger.proofs.Common.{softs, stream_end}
pub use Rattle.rake_finger.proofs.FingerTimes.{ends_bounds, timed_in, within_is}
pub use Rattle.rake_finger.proofs.FrameTimes.{known_between, known_le, outside_low}
pub use Rattle.rake_finger.proofs.Sooner.{AllFit, Fits, all_fit, softs_same, softs_sooner}
pub use Rattle.rake_finger.specs.Near.{have_rows, low_in}
pub use Rattle.rake_finger.specs.Paths.{finger_of, fingers_of, modulo_code}
pub use Rattle.rake_finger.specs.Streams.{frame_end, frame_softs, frame_start, is_in_file, known_at, known_now, span_first, span_frames}
pub use Rattle.rake_finger.specs.declared.form.Form.TheVariants.{Data, Sync}
pub use Rattle.sync_message.proofs.Bodies.{fixed_fit}
pub use Rattle.sync_message.proofs.Common.{FieldsFit, fixed_fields, ◌*◌, ◌^◌}
pub use Rattle.sync_message.proofs.Readings.{reading_is_message}
pub use Rattle.sync_message.specs.Reading.{sync_reading}
pub use Rattle.traffic_message.specs.Multiplex.{primary_bits}
unfoldable pub use Rattle.traffic_message.specs.Multiplex.{split, split_9600}
pub use Rattle.traffic_message.specs.declared.multiplex.Mux.{Mux}
pub use Rattle.viterbi.specs.declared.codeword.Ends.TheVariants.{Free}
pub use Rattle.heard_events.specs.Channels.{channel_stream, offset_of, start_of}
pub use Rattle.heard_events.specs.Close.{finger_places, fingers_in, legs_close, legs_rows, paths_close, places_in}
pub use Rattle.heard_events.specs.Common.{CheckForm, Decoded, Event, Finger, Leg, Mark, Pilot, Sample, SyncFields, Traffic}
pub use Rattle.heard_events.specs.Events.{channels, events_within, followed_after, told_after, told_on}
unfoldable pub use Rattle.heard_events.specs.Events.{events_at, heard_within}
pub use Rattle.heard_events.specs.FramesAlone.{reference_alone, traffic_channel}
pub use Rattle.heard_events.specs.Given.{at_of}
unfoldable pub use Rattle.heard_events.specs.Left.{frames_left_of, messages_left_of, pages_left, sync_events_left}
pub use Rattle.heard_events.specs.LegSofts.{sums_on}
pub use Rattle.heard_events.specs.Legs.{all_fingers, has_subchannel, is_on, leg_fingers, leg_of, legs_of, on_subchannel, pilot_finger}
pub use Rattle.heard_events.specs.Legs.{subchannels}
pub use Rattle.heard_events.specs.Marks.{first_of, frames_with, mark_at, marks_of, sets_mark}
unfoldable pub use Rattle.heard_events.specs.Marks.{frames_open, mark, mark_before, marks_at}
pub use Rattle.heard_events.specs.Moments.{frames_at, legs_at, legs_by, messages_at, moment_events, moment_place, moments_before}
pub use Rattle.heard_events.specs.Moments.{pilot_strength}
unfoldable pub use Rattle.heard_events.specs.Moments.{changed, heard_from, kept_to, passed, sets_at, told_by}
pub use Rattle.heard_events.specs.Near.{IsTuned, low_of}
pub use Rattle.heard_events.specs.Noted.{all_noted, noted}
pub use Rattle.heard_events.specs.PagingEvents.{page_event, pages_if_marked}
unfoldable pub use Rattle.heard_events.specs.PagingEvents.{bits_up_to, page_at, pages_at, pages_from, paging_bits_before}
pub use Rattle.heard_events.specs.PagingStreams.{paging_bound, paging_stream}
pub use Rattle.heard_events.specs.Signaling.{message_events, message_heard, signal_of}
unfoldable pub use Rattle.heard_events.specs.Signaling.{messages_by, signal_at, signaling_message_at, signals_before}
pub use Rattle.heard_events.specs.SoftFrames.{raw_at, soft_frame, soft_frame_of}
unfoldable pub use Rattle.heard_events.specs.SoftFrames.{frames_within}
pub use Rattle.heard_events.specs.SpelledMessages.{SpelledMessage, SpelledPage, SpelledSignal}
pub use Rattle.heard_events.specs.Streams.{Stream}
unfoldable pub use Rattle.heard_events.specs.Streams.{frame_own_bits}
pub use Rattle.heard_events.specs.SyncEvents.{events_of, heard_in, with_message}
unfoldable pub use Rattle.heard_events.specs.SyncEvents.{frames_before, heard_at, sync_capsule_at, sync_events_at}
pub use Rattle.heard_events.specs.TrafficEvents.{frame_heard, if_followed, subchannel_sums}
unfoldable pub use Rattle.heard_events.specs.TrafficEvents.{decoded_at, frames_by, power_bits_at}
pub use Rattle.heard_events.specs.TrafficStreams.{ends_now, frame_known, frames_bound, frames_now, has_frame, replaced_in, stream_of}
pub use Rattle.heard_events.specs.TrafficStreams.{traffic_start, traffic_stream}
pub use Rattle.heard_events.specs.Tuning.{Tuning, sync_bound, sync_stream}
pub use Rattle.heard_events.specs.declared.channel.CodeChannel.{CodeChannel}
pub use Rattle.heard_events.specs.declared.channel.CodeChannel.TheVariants.{Paging}

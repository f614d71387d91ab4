-- What the proofs of this crate cite of what lies below, and of its own definitions.
pub use Rattle.std.proofs.Common.{None, Option, Some, replicate, ◌%◌}
pub use Rattle.std.proofs.lemmas.List.{append_assoc, map-append, take_all, take_rest}
pub use Rattle.std.specs.Option.{ForSome, IsSomeAnd, option_map, option_map_or, option_or, option_to_list}
pub use Rattle.std.specs.Prelude.{IsTrue, if◌then◌else◌, is_some, sum_by, unsigned_abs}
pub use Rattle.chip_core.proofs.Ranges.{filter_ext_places, flat_map_ext_filter_places, flat_map_grown}
pub use Rattle.chip_core.specs.declared.check_form.CheckForm.{CheckForm}
pub use Rattle.frame_decoder.specs.declared.power.PowerSofts.{PowerSofts}
pub use Rattle.frame_decoder.specs.declared.traffic.Decoded.{Decoded}
pub use Rattle.heard_events.proofs.Arrivals.{AreKnown, AreLater, left_from, none_between}
pub use Rattle.heard_events.proofs.Common.{AreClose, IsInRing, IsTimed, SpelledPage, SpelledSignal, Stream, all_close, all_fingers, legs_of}
pub use Rattle.heard_events.proofs.Common.{events_of, first_of, frames_with, heard_in, legs_close, marks_of, none-some, paths_close}
pub use Rattle.heard_events.proofs.Common.{pilot_finger, power_bit, sets_mark, slice_get, subchannels}
unfoldable pub use Rattle.heard_events.proofs.Common.{bits_up_to, capsule_ending, decoded, decoded_at, events_at, frame_own_bits, frames_by}
unfoldable pub use Rattle.heard_events.proofs.Common.{frames_before, frames_open, heard_at, heard_from, heard_within, kept_to, mark, passed}
unfoldable pub use Rattle.heard_events.proofs.Common.{mark_before, marks_at, messages_by, page_at, pages_from, paging_bits_before, places}
unfoldable pub use Rattle.heard_events.proofs.Common.{power_bits_at, sets_at, signal_at, signaling_message_at, signals_before, softs}
unfoldable pub use Rattle.heard_events.proofs.Common.{sync_capsule_at, sync_events_at, told_by}
pub use Rattle.heard_events.proofs.FrameBounds.{AreCloseAll, has_here, known_high, known_is, known_later, known_low}
pub use Rattle.heard_events.proofs.GoesOn.{GoesOn, both, goes_as, joined, mapped, never, things_go}
pub use Rattle.heard_events.proofs.Growth.{IsSyncTimed, frames_before_more, frames_before_none, frames_before_sooner, left_next, none_known}
pub use Rattle.heard_events.proofs.Growth.{sync_frames, sync_goes, sync_known}
pub use Rattle.heard_events.proofs.LegFingers.{all_some, fingers_few, legs_are_close, paths_fingers}
pub use Rattle.heard_events.proofs.MarkGrowth.{frames_open-more, frames_open-none, mark_before_more, mark_before_none, mark_before_sooner}
pub use Rattle.heard_events.proofs.MarkGrowth.{mark_is}
pub use Rattle.heard_events.proofs.MarkLater.{mark_later}
pub use Rattle.heard_events.proofs.MarkStays.{mark_set, mark_told, pages_from_mark, pilot_alone}
pub use Rattle.heard_events.proofs.MarkTold.{among_before, ends_before, first_part, heard_split, is_before, noted_event}
pub use Rattle.heard_events.proofs.TrafficGrowth.{frames_of, heard_grown, heard_none, signals_more, signals_sooner, told_at, told_first}
pub use Rattle.heard_events.proofs.TrafficGrowth.{told_is, told_left, told_left_none, told_next, told_none}
pub use Rattle.heard_events.specs.Common.{CapsuleStandsFor, Held, HoldsLast, after, paging_channel, power_places, scrambling, traffic_mask}
pub use Rattle.heard_events.specs.Events.{events, followed_after, told_after}
unfoldable pub use Rattle.heard_events.specs.Left.{frames_left_of, messages_left_of, pages_left, sets_left_of, sync_events_left}
pub use Rattle.heard_events.specs.LegSofts.{IsHeldFrom, sums_on}
pub use Rattle.heard_events.specs.Moments.{frames_at, legs_at, legs_by, messages_at, moment_of, moment_place, moments_before, sets_events}
pub use Rattle.heard_events.specs.Noted.{all_noted, body_noted, moment_from, noted, noted_with, page_noted, system_thresholds}
pub use Rattle.heard_events.specs.PagingEvents.{page_event, page_in, pages_if_marked}
pub use Rattle.heard_events.specs.PagingStreams.{paging_rate, paging_stream}
pub use Rattle.heard_events.specs.SetsKeeping.{IsSoundKeeper, coming_place}
pub use Rattle.heard_events.specs.Signaling.{capsule_with, message_events, message_heard, signal_in, signal_of}
pub use Rattle.heard_events.specs.TrafficEvents.{all_sums, frame_event, frame_heard, raw_softs}
pub use Rattle.heard_events.specs.TrafficStreams.{chips_after, frame_known, frame_state, has_frame, replaced_in, traffic_start}
pub use Rattle.heard_events.specs.Tuning.{Tuning, sync_stream, tuning_by}
pub use Rattle.heard_events.specs.declared.channel.CodeChannel.TheVariants.{Paging}
pub use Rattle.heard_events.specs.declared.event.Event.TheVariants.{Pilot}
pub use Rattle.heard_events.specs.declared.leg.Leg.{Leg}
pub use Rattle.heard_events.specs.declared.sets_keeper.SetsKeeper.{SetsKeeper}
pub use Rattle.paging_message.proofs.Common.{All, Framing, HalfFramesStandFor, IfSome, and_from, append-nil, cases_order, drop, le-leb}
pub use Rattle.paging_message.proofs.Common.{false_from_ne_true, half_frame_body, half_frame_capsule_ending, le-ltb, length-append, lt-leb}
pub use Rattle.paging_message.proofs.Common.{length-drop, list_all, list_any-append, lt-ltb, nat_le, piece, take-add, taken_more}
pub use Rattle.paging_message.specs.declared.message.PagingMessage.{PagingMessage}
pub use Rattle.pilot_search.specs.declared.sweeping.Best.{Best}
pub use Rattle.pilot_sets.specs.Directions.{accepted_of, direction_fault}
pub use Rattle.pilot_sets.specs.Standing.{Standing, new_standing, unless_refused, with_neighbors, with_thresholds}
pub use Rattle.pilot_sets.specs.declared.fault.DirectionFault.{DirectionFault}
pub use Rattle.pilot_sets.specs.declared.standing.Accepted.{Accepted}
pub use Rattle.rake_finger.proofs.CloseFingers.{begun_in_ring, close_begun, close_ends}
pub use Rattle.rake_finger.specs.declared.finger.Finger.{Finger}
pub use Rattle.reception.proofs.ClockSteps.{before_next, due_inside, due_known, first_end, from_next, start_before}
pub use Rattle.reception.proofs.Common.{clock_after_frame, sum_by-replicate, common_steps, first_frame, frame_chips, frame_start, all_begun}
pub use Rattle.reception.proofs.Common.{length-take, unscrambled, clock_from, fingers_of, is_in_file, frame_end, Receives, AreNear, IsDueAt}
pub use Rattle.reception.proofs.Received.{receives_heard, receives_more, receives_new}
pub use Rattle.reception.specs.declared.continued.Continued.{Continued}
pub use Rattle.reception.specs.declared.frame_clock.FrameClock.{FrameClock}
pub use Rattle.symbol_path.proofs.Common.{Bool, List, [], after-after, ap, arith, cases_lt, eq-eqb, false, flat_map, get_or, inl, inr, ints}
pub use Rattle.symbol_path.proofs.Common.{length, list_any, map, nat_lt, ne_eqb, pos, refl, rules, subst, suc, sym, take, true, ℕ, ℤ, ◌*◌}
pub use Rattle.symbol_path.proofs.Common.{◌++◌, ◌+◌, ◌-◌, ◌/◌, ◌<◌, ◌==◌, ◌^◌, ◌||◌, ◌∙◌, ◌∷◌, ◌≡◌, ◌≤◌}
pub use Rattle.traffic_message.specs.declared.body.TrafficBody.{TrafficBody}
pub use Rattle.mobile_core.specs.AfterMark.{FollowsPages, FollowsTraffic, IsUnheard, IsUnpaged, SetsMark, paging_left, traffic_left}
pub use Rattle.mobile_core.specs.Common.{Data, Event, Mark, Sample, Scrambling, Sync, Traffic, at_of, event_list, pilot_left}
pub use Rattle.mobile_core.specs.FollowedChannels.{EndFrom, HearsFollowed, HearsFrames, HearsPages, IsFollowedDue, IsSoundFollowed}
pub use Rattle.mobile_core.specs.FollowedChannels.{WaitFrom, followed_events_left, followed_heard, paging_events_left, traffic_events_left}
pub use Rattle.mobile_core.specs.PagingReceiving.{HearsBit, HearsPaging, IsOfChannel, IsSoundPaging, bit_passed, bits_heard}
pub use Rattle.mobile_core.specs.Standing.{IsDueIn, Stands, StandsFor, Steps, Tells, due_parts, events_left, heard_of, left_of}
pub use Rattle.mobile_core.specs.SyncReceiving.{HearsNext, HearsSync, IsSoundSync}
pub use Rattle.mobile_core.specs.TrafficReceiving.{GivesFirst, HearsTraffic, HearsUntuned, HearsUpTo, HearsWith, IsSoundHandoff, IsTunedIn}
pub use Rattle.mobile_core.specs.TrafficReceiving.{IsSoundTraffic, IsTrafficDue, WaitsAt, beside, first_keeper, frame_taken, kept_in}
pub use Rattle.mobile_core.specs.TrafficReceiving.{next_end, noted_by, told_left_with, traffic_heard, traffic_left_of, tuned_to}
pub use Rattle.mobile_core.specs.declared.followed.Followed.{Followed}
pub use Rattle.mobile_core.specs.declared.mobile.Mobile.{Mobile}
pub use Rattle.mobile_core.specs.declared.paging_receiver.PagingReceiver.{PagingReceiver}
pub use Rattle.mobile_core.specs.declared.soft_handoff.SoftHandoff.{SoftHandoff}
pub use Rattle.mobile_core.specs.declared.sync_receiver.SyncReceiver.{SyncReceiver}
pub use Rattle.mobile_core.specs.declared.traffic_receiver.TrafficReceiver.{TrafficReceiver}

-- What the proofs of this crate cite of what lies below, and of its own definitions.
pub use Rattle.std.proofs.Common.{None, Option, Some, append_assoc, cond, filter, length-append, nat_eq, nat_lt, not, rules, ◌^◌, ◌||◌}
pub use Rattle.std.proofs.Math.Nat.{mul-div-le, mul-le-mul_left}
pub use Rattle.std.proofs.lemmas.Bool.{and_right, eqb-false, false_from_ne_true, ltb-true, not-true}
pub use Rattle.std.proofs.lemmas.Int.{by_lt_z, int_rem_euclid_is, ints}
pub use Rattle.std.proofs.lemmas.List.{append-nil, drop-drop, drop_at, length-map, length-take-le, map-append, take-append-drop, take-take}
pub use Rattle.std.proofs.lemmas.List.Elements.{All-contains_itself, All-same, filter-append}
pub use Rattle.std.proofs.lemmas.List.Folds.{flat_map-map, list_all-append, list_all-map, list_all_at, list_any-append, list_any_at}
pub use Rattle.std.specs.List.{AllZip, Contains, flat_map, list_all, list_any, range_with_len}
pub use Rattle.std.specs.Prelude.{if◌then◌else◌, int_lt, is_some, unwrap_or, ◌*ℤ◌, ◌+ℤ◌, ◌-ℤ◌, ◌<ℤ◌}
pub use Rattle.cdma_io.proofs.Common.{Bool, List, [], ap, arith, drop, false, flat_map-append, get_or, inl, inr, length, most_samples, refl}
pub use Rattle.cdma_io.proofs.Common.{subst, suc, sym, take, true, zero, ℕ, ◌%◌, ◌*◌, ◌++◌, ◌+◌, ◌-◌, ◌/◌, ◌<◌, ◌∙◌, ◌∷◌, ◌≡◌, ◌≤◌}
pub use Rattle.cell_plan.proofs.Common.{All-cons, All-nil, Carrier, IsSyncMessage, amplitude, amplitudes, code_point, level_of, loudness}
pub use Rattle.cell_plan.proofs.Common.{paging_carrier, pilot_carrier, rate_large, scaled, superframes_of, times, traffic_carrier, walsh}
pub use Rattle.cell_plan.proofs.SentMessages.{length-sending, length-sync, refilled_is, superframes_few, superframes_some, told_early}
pub use Rattle.cell_plan.proofs.SyncFrames.{length-sync_frame_bits}
pub use Rattle.cell_plan.proofs.TrafficFrames.{one_in_turn, two_in_turn}
pub use Rattle.cell_plan.specs.PageCycles.{Cycle, cycle_frame_bits, frame_scrambling, paging_frame_size}
unfoldable pub use Rattle.cell_plan.specs.PageCycles.{cycle_symbols, cycled}
pub use Rattle.cell_plan.specs.Pages.{AreSendable, laid_after, sent_paging_rate}
pub use Rattle.cell_plan.specs.Plan.{AreLawfulBeside, IsSyncPlan}
pub use Rattle.cell_plan.specs.Sendings.{superframes_a_sending, told_superframes}
unfoldable pub use Rattle.cell_plan.specs.Sendings.{continued_symbols, message_of, sync_frame_bits, sync_symbols}
pub use Rattle.cell_plan.specs.Signal.{cycle_of, frames_of, symbol_of}
pub use Rattle.cell_plan.specs.Stated.{AreHeard, IsReceivable, IsStatedPaging}
pub use Rattle.cell_plan.specs.TrafficFrames.{IsTrafficFrame, frames_in_turn, sent_frame_state, set_one}
pub use Rattle.cell_plan.specs.Transmitter.{IsSendable, phase_at}
pub use Rattle.chip_core.proofs.Places.{get_or-places, length-places, places-more, places-none}
pub use Rattle.chip_core.proofs.Ranges.{filter_all_places, filter_enough, flat_map_ext_filter_places, map_ext_places}
pub use Rattle.chip_core.specs.Bits.{common_parity, digit, number, sign, xor, zip_with}
pub use Rattle.chip_core.specs.declared.check_form.CheckForm.{CheckForm}
pub use Rattle.chip_core.specs.declared.sample.Pair.{Pair}
pub use Rattle.chip_core.specs.declared.width.Width.TheVariants.{Eight, Sixteen}
pub use Rattle.clean_frames.proofs.Common.{AreWholePages, FillsCapsule, Piece, Placed, and_from, capsules_with_frames, cases_lt, le-div}
pub use Rattle.clean_frames.proofs.Common.{cycle_half_frames, flat_map-zero, flat_map_ext_places, frame_capsules, from_last_start, le-leb}
pub use Rattle.clean_frames.proofs.Common.{half_frame_body, is_whole_page, le-ltb, length-capsule, length-map-places, lt-leb, lt-ltb, map}
pub use Rattle.clean_frames.proofs.Common.{map-map, nat_le, option_to_list, piece, placed, replicate, sending_of, ◌==◌}
pub use Rattle.clean_frames.specs.SentFrames.{frame_chip, signals_in}
pub use Rattle.clean_frames.specs.WholePages.{KnownPage, end_chip, message_in, page_told, pages_numbered, pages_of_channel, placed_pages}
pub use Rattle.clean_frames.specs.WholePages.{round_sent}
unfoldable pub use Rattle.clean_frames.specs.WholePages.{pages_sent}
pub use Rattle.clean_frames.specs.WholeSendings.{is_whole, sending_begins, told_by_first}
pub use Rattle.clean_signal.proofs.Common.{All-contains, All-weaker, AllZip-long, HaveOwnNumbers, HaveOwnTrafficRows, IsCloseSample}
pub use Rattle.clean_signal.proofs.Common.{IsLawfulPlan, IsPagingPlan, IsTrafficPlan, address-place, codewords_same, descrambled, no_sample}
pub use Rattle.clean_signal.proofs.Common.{place_lt, reference_finger, sample_with, scrambled_with, signal_of_carriers, sync_carrier}
unfoldable pub use Rattle.clean_signal.proofs.Common.{carriers, made_samples, sample_of, samples_of, softs}
pub use Rattle.clean_signal.proofs.noise.Near.{FrameRelates, IsSigned, Turns, length-near, less_borne, near-self, none_borne, signed_turn}
pub use Rattle.clean_signal.proofs.noise.Near.{signs_turn}
pub use Rattle.clean_signal.proofs.signal.Frames.{clean_relates, noisy_relates}
pub use Rattle.clean_signal.proofs.signal.Samples.{length-made, made_at}
pub use Rattle.conv_code.proofs.Continued.{before, following, length-state_after, pair, state_after-append, state_after-none}
pub use Rattle.conv_code.proofs.Pairs.{symbols_at}
pub use Rattle.conv_code.specs.ConvCode.{code_symbols, g0, g1, state_after, symbol}
pub use Rattle.frame_decoder.proofs.Common.{All-head, All-tail, beq, booleans_Decides, cases_Bool, correlation, eq-eqb, flat_map-next, ◌&&◌}
pub use Rattle.frame_decoder.proofs.Common.{ne_eqb, negsuc, option_map, pointwise, pointwise_decides, quality_indicator, ⊎_elim, ◌≢◌, ◌⊎◌}
pub use Rattle.frame_decoder.proofs.RateCodewords.{bits_least}
pub use Rattle.frame_decoder.proofs.SentFrames.{sent_frame, signs_frame}
pub use Rattle.frame_decoder.proofs.ShownSymbols.{le_false, lt_true}
pub use Rattle.frame_decoder.proofs.SignedScores.{agree_left}
pub use Rattle.frame_decoder.specs.Laws.{AgreeElsewhere, IsUnsharedIn, frame_codeword, sent_codeword}
pub use Rattle.frame_decoder.specs.Signs.{AreKept, KeepSigns}
pub use Rattle.frame_decoder.specs.TrafficFrames.{decoded, frame_symbols, group_sum, group_sums, power_bit}
pub use Rattle.heard_events.proofs.Common.{All-append, All-map, all_fingers, changed, ends_now, events_of, filter_ext_places, fingers_of}
pub use Rattle.heard_events.proofs.Common.{filter_none_places, first_of, flat_map_ext_filter, frames_bound, frames_now, heard_in, known_le}
pub use Rattle.heard_events.proofs.Common.{known_between, leg_of, legs_by, legs_of, map_ext_filter_places, marks_of, modulo_code, or_left}
pub use Rattle.heard_events.proofs.Common.{moment_events, moment_place, moments_before, or_right, paging_bound, pilot_finger, subchannels}
pub use Rattle.heard_events.proofs.Common.{sync_bound, traffic_start, traffic_stream, with_message}
unfoldable pub use Rattle.heard_events.proofs.Common.{bits_up_to, capsule_ending, decoded_at, events_at, frame_own_bits, frames_before}
unfoldable pub use Rattle.heard_events.proofs.Common.{frames_by, frames_open, frames_within, heard_at, heard_from, heard_within, kept_to}
unfoldable pub use Rattle.heard_events.proofs.Common.{mark, mark_before, marks_at, messages_by, page_at, pages_at, pages_from, passed}
unfoldable pub use Rattle.heard_events.proofs.Common.{places, power_bits_at, sets_at, signal_at, signaling_message_at, signals_before}
unfoldable pub use Rattle.heard_events.proofs.Common.{split_9600, sync_capsule_at, sync_events_at, told_by}
pub use Rattle.heard_events.proofs.EventPlaces.{AreAt, IsAt, all_at, all_each}
pub use Rattle.heard_events.proofs.FrameBounds.{AreCloseAll}
pub use Rattle.heard_events.proofs.LegLists.{map_same}
pub use Rattle.heard_events.proofs.MarkGrowth.{mark_is}
pub use Rattle.heard_events.proofs.MarkStays.{OpensAfter, by_one_mark, frames_later, messages_later, opens_followed, pages_from_mark}
pub use Rattle.heard_events.proofs.MarkStays.{pilot_alone}
pub use Rattle.heard_events.proofs.MomentGrowth.{kept_new, kept_old}
pub use Rattle.heard_events.proofs.TrafficGrowth.{frames_sooner, messages_sooner}
pub use Rattle.heard_events.specs.Events.{events, told_after}
pub use Rattle.heard_events.specs.Moments.{moment_of}
pub use Rattle.heard_events.specs.Noted.{all_noted, body_noted, noted, noted_with, page_noted, system_thresholds}
pub use Rattle.heard_events.specs.PagingEvents.{as_spelled_page, page_event, page_in, pages_if_marked}
pub use Rattle.heard_events.specs.Signaling.{capsule_with, message_events, message_heard, signal_in, signal_of}
pub use Rattle.heard_events.specs.TrafficEvents.{all_sums, frame_event, frame_heard, if_followed, raw_by, raw_softs, subchannel_sums}
pub use Rattle.heard_events.specs.TrafficStreams.{frame_state}
pub use Rattle.heard_events.specs.declared.soft_frame.PowerControl.{PowerControl}
pub use Rattle.long_code.proofs.After.{after-after, after_lt, after_none, after_one, stepped}
pub use Rattle.long_code.proofs.Common.{IsState, add, after, length_add, paging_mask}
unfoldable pub use Rattle.long_code.proofs.Common.{long_chip, traffic_mask}
pub use Rattle.long_code.proofs.Period.{IsState-after, IsState-before, after-injective}
pub use Rattle.paging_message.proofs.Common.{HasMessage, eqb-true, is_body, map-places-all, paging_reading}
unfoldable pub use Rattle.paging_message.proofs.Common.{body_reading, half_frame_capsule_ending, message_at, message_body, paging_capsule}
pub use Rattle.paging_message.proofs.Readings.{reads_body, reads_capsule}
pub use Rattle.paging_message.specs.declared.message.PagingMessage.{PagingMessage}
pub use Rattle.pilot_sets.specs.Moments.{active_timed, energy_in}
pub use Rattle.pilot_sets.specs.Standing.{Standing, due_at, due_for, new_standing, shown, shown_active, with_neighbors, with_thresholds}
pub use Rattle.pilot_sets.specs.declared.change.SetChange.{SetChange}
pub use Rattle.pilot_sets.specs.declared.lists.Active.{Active}
pub use Rattle.pilot_sets.specs.declared.standing.Accepted.{Accepted}
pub use Rattle.pilot_sets.specs.declared.standing.ActivePilot.{ActivePilot}
pub use Rattle.pilot_sets.specs.declared.strengths.Strength.{Strength}
pub use Rattle.quality_bits.proofs.TrafficCodewords.{codeword_fills}
pub use Rattle.quality_bits.specs.TrafficCodewords.{quality_of, repeats_of, traffic_codeword}
pub use Rattle.rake_finger.proofs.Common.{All, AreClose, AreNear, IsTimed, and_parts, cases_order, frame_chips, leb-true, norm, or_cases, ℤ}
pub use Rattle.rake_finger.proofs.Common.{pilot_chip, point, pos, unscrambled, unsigned_abs}
pub use Rattle.rake_finger.specs.Streams.{frame_end, frame_softs, frame_start, is_in_file, known_at, known_by, known_now}
pub use Rattle.rake_finger.specs.declared.form.Form.TheVariants.{Data, Sync}
pub use Rattle.symbol_path.proofs.Agreement.{get_or-sent_by, length-sent}
pub use Rattle.symbol_path.proofs.Common.{address, after-before, before_lt, data_shape, get_or-map-places, place, sent, sync_shape}
unfoldable pub use Rattle.symbol_path.proofs.Common.{binary, power_places, sent_by, with_power_bits}
pub use Rattle.symbol_path.proofs.PowerPlaces.{ArePairs, pairs_below, pairs_in_groups, pairs_neighbours, power_place_in_groups}
pub use Rattle.symbol_path.proofs.SentOnceTwo.{kept_once}
pub use Rattle.symbol_path.proofs.SentTwo.{length-sent2}
pub use Rattle.symbol_path.proofs.SymbolChips.{on_again}
pub use Rattle.symbol_path.specs.Scrambling.{group_scrambling, power_place, power_start, scrambling, symbol_or_power_bit}
pub use Rattle.viterbi.proofs.Zipped.{zipped_at}
pub use Rattle.clean_link.specs.BySigns.{AllComesBackBySigns, AreEventsBySigns, AreFramesBySigns, ChannelsComeBackBySigns, HearsBySigns}
pub use Rattle.clean_link.specs.BySigns.{SyncTellsTheMark}
pub use Rattle.clean_link.specs.CleanLaws.{AreZeroWithoutSync, ChannelFramesComeBack, FramesAreZeros, FramesComeBack, HaveSentSigns}
pub use Rattle.clean_link.specs.CleanLaws.{HearsSentSync, IsMarkedWhereHeard, MarksAreTrue, MarksTellTheRate, NearChannelsHaveSigns}
pub use Rattle.clean_link.specs.CleanLaws.{NearSyncHasSigns, PagingCodewordsAreTheOnlyBest, PagingFramesComeBack, PagingHaveSentSigns}
pub use Rattle.clean_link.specs.CleanLaws.{SentCodewordsAreTheOnlyBest, ShowsSync, SignedPagesComeBack, SilentPagingFramesAreZeros}
pub use Rattle.clean_link.specs.CleanLaws.{SilentPagingIsZero, UnmarkedWithoutSync, WholeSendingsComeBack, ordered_symbols}
pub use Rattle.clean_link.specs.CleanLink.{IsNoDirection, IsNotDirected, IsOnPath, IsTrueMark, IsTunedToPlan, events_of_channel, tuning_to}
pub use Rattle.clean_link.specs.CleanLink.{sending_event}
unfoldable pub use Rattle.clean_link.specs.CleanLink.{sync_sent}
pub use Rattle.clean_link.specs.Common.{AreDistinct, AreReadBy, Bears, CellPlan, Codeword, Decoded, Event, Finger, HasSign, IsAllowed, Leg}
pub use Rattle.clean_link.specs.Common.{IsAssigned, IsDistinctFrame, IsFrameOf, IsFreeOf, IsHeardBy, IsNear, IsSetOneFrame, IsSetTwoFrame}
pub use Rattle.clean_link.specs.Common.{M30, Mark, Page, PagingPlan, Pilot, Plain, R1200, R14400, R1800, R2400, R3600, R4800, R7200, R9600}
pub use Rattle.clean_link.specs.Common.{Rate, Rate2, Sample, SendsSetOne, SendsSetTwo, SendsSymbols, SetOne, SetOneFrame, SetTwo, ShowFrame}
pub use Rattle.clean_link.specs.Common.{SetTwoFrame, ShowPowerBits, SoftFrame, Stream, SyncFields, SyncPlan, Traffic, TrafficBody, Tuning}
pub use Rattle.clean_link.specs.Common.{TrafficFrame, TrafficPlan, Width, Zero, at_of, codeword_bits, codeword_symbols, cycled_frame}
pub use Rattle.clean_link.specs.Common.{first_sync_frame, frame_bits, frame_ends, frames_at, has_frame, heard_after, is_dropped, legs_at}
pub use Rattle.clean_link.specs.Common.{is_received, is_replaced, messages_at, paging_stream, path_finger, planned, raw_at, received_frames}
pub use Rattle.clean_link.specs.Common.{repeated_symbol, replaced_in, replaced_of, sending_ends, sent_power_bits, set_two, signal_sent}
pub use Rattle.clean_link.specs.Common.{signals_received, signed, soft_frame, soft_frames, soft_strength, stream_of, symbols, sync_stream}
pub use Rattle.clean_link.specs.Common.{told_with_sync, traffic_channel, unreplaced, whole_sendings, with_added}
unfoldable pub use Rattle.clean_link.specs.Common.{capsule, check_bits, fill, page_cycle, sent_bits, spelling, sync_body, sync_capsule}
pub use Rattle.clean_link.specs.DistinctFrames.{AFullRateFrameIsDistinct, AreDistinctBySharing, AreDistinctBySharing2, ZerosAreShared}
pub use Rattle.clean_link.specs.DistinctFrames.{FullRateFramesAreDistinct, full_rate_symbols, gives, is_hidden, is_kept, is_known2, is_seen}
pub use Rattle.clean_link.specs.DistinctFrames.{lost_symbols, lost_symbols2, replaced_places, sharing, sharing2, shows_full_rate}
pub use Rattle.clean_link.specs.DistinctFrames.{some_information, symbols_known_of, tells_all_bits}
unfoldable pub use Rattle.clean_link.specs.DistinctFrames.{codewords_giving, stays_apart}
pub use Rattle.clean_link.specs.DistinctPlan.{HasMark, HasSetOne, HasSetTwo, bits_of2, channel_on, distinct_bits_of, distinct_plan, on_row}
pub use Rattle.clean_link.specs.DistinctPlan.{first_channel, frame2_at, frame_at, second_channel, told_message}
pub use Rattle.clean_link.specs.HeardEach.{AreFramesAfter, AreMessagesAfter, EachChannelComesBack, FollowsOne, IsEventOf, is_frame, is_page}
pub use Rattle.clean_link.specs.HeardEach.{is_message, is_sync}
pub use Rattle.clean_link.specs.HeardFrames.{IsOnePilot, frame_told, frames_of_channel, message_told, messages_of_channel, sent_frame_event}
pub use Rattle.clean_link.specs.HeardFrames.{told_on_row}
unfoldable pub use Rattle.clean_link.specs.HeardFrames.{frames_sent, messages_sent}
pub use Rattle.clean_link.specs.HeardPages.{PagesComeBack, ReadPage, known_page, pages_within, type_within}
pub use Rattle.clean_link.specs.ReceivedFrames.{AreReceivedFrom, IsDistinctFrame2, IsReceived, codeword_symbols2, cycled_frame2}
pub use Rattle.clean_link.specs.ReceivedLaws.{EachFrameIsReceived, FramesAfterMark, FramesShowPowerBits, FramesShowSymbols, SetOneSends}
pub use Rattle.clean_link.specs.ReceivedLaws.{IsReceivedBySigns, IsSentFrame2BySigns, ReceivedAreTheOnlyBest, SetTwoAfterMark, SetTwoSends}
pub use Rattle.clean_link.specs.ReceivedLaws.{SetTwoAreTheOnlyBest, SetTwoFramesComeBack, SignedFramesAreReceived}
pub use Rattle.clean_link.specs.ReceivedLaws.{SignedSetTwoFramesComeBack}
pub use Rattle.clean_link.specs.SentEvents.{FollowedHaveSigns, FollowsSent, NoEventIsDirected, WholeMessagesComeBack, by_places, is_at}
pub use Rattle.clean_link.specs.SentEvents.{known_event, pages_after, pages_after_mark, told_followed}
unfoldable pub use Rattle.clean_link.specs.SentEvents.{frame_events_at, message_events_at, paging_events_at, paging_sent, sent_events}
unfoldable pub use Rattle.clean_link.specs.SentEvents.{sets_events_at, sets_heard, signaling_sent, traffic_sent}
pub use Rattle.clean_link.specs.SentSigns.{FrameHasSigns, FromMark, HasSyncSigns, IsCellMark, MarkIsAt, MarksAreAt, PagingFrameHasSigns}
pub use Rattle.clean_link.specs.SentSigns.{TrafficFrameHasSigns}
pub use Rattle.clean_link.specs.TrafficLaws.{ArePowered, EachFrameIsHeard, HavePowerSigns, HeardAreTheOnlyBest, HearsSentTraffic, IsHeardAs}
pub use Rattle.clean_link.specs.TrafficLaws.{HoldsOfDistinct, IsDecodedAs, IsOnlyBestIn, IsUndirected, NoisyFrame, NoneIsDirected}
pub use Rattle.clean_link.specs.TrafficLaws.{OnePilotIsHeard, PowerBitsComeBack, SentFramesComeBack, SentMessagesComeBack, ShowsTraffic}
pub use Rattle.clean_link.specs.TrafficLaws.{SignedFramesAreDecoded, SixteenPowerBitsAreSent, TrafficFramesComeBack, TrafficHaveSentSigns}
pub use Rattle.clean_link.specs.TrafficLaws.{TrafficShowsSigns}

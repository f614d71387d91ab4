-- What the proofs of this crate cite of what lies below, and of its own definitions.
pub use Rattle.std.proofs.Common.{ap₂, nat_eq, nat_le, nat_lt, unsigned_abs}
pub use Rattle.std.specs.Prelude.{codes}
pub use Rattle.cdma_io.proofs.ByteNumbers.{AreBytes, AreBytes-drop, AreBytes-from_all, AreBytes-take}
pub use Rattle.cdma_io.proofs.Opening.{opening-ok}
pub use Rattle.cdma_io.proofs.Spelling.{sample_bytes, sample_in}
pub use Rattle.cell_plan.proofs.Amplitudes.{part_fits}
pub use Rattle.cell_plan.proofs.Common.{integer_width_of, most_part}
pub use Rattle.cell_plan.specs.Transmitter.{version_of}
pub use Rattle.cell_script.proofs.NamedPlans.{named_plan}
pub use Rattle.chip_core.proofs.Unless.{free_taken, scanned}
pub use Rattle.chip_core.specs.Sums.{greatest_unless}
pub use Rattle.clean_link.proofs.Common.{All-cons, All-head, All-nil, All-tail, CellPlan, Eight, Event, FromMark, IsLawfulPlan, Mark, None}
pub use Rattle.clean_link.proofs.Common.{MarkIsAt, MarksAreAt, Option, PagingFrameHasSigns, PagingPlan, Pilot, Sample, Sixteen, Some, Width}
pub use Rattle.clean_link.proofs.Common.{SyncPlan, Traffic, TrafficFrameHasSigns, TrafficPlan, events_of_channel, get_or, less_borne}
pub use Rattle.clean_link.proofs.Common.{loudness, lt-ltb, made_at, most_samples, no_sample, sending_event, sent_frame_state, told_by_first}
unfoldable pub use Rattle.clean_link.proofs.Common.{paging_sent, places, spelling, sync_sent}
pub use Rattle.clean_link.proofs.frames.ChannelFrames.{near_frame, near_paging}
pub use Rattle.clean_link.proofs.messages.EachChannel.{channels_by_signs, frames_after_all, no_event_directed, tells_the_mark}
pub use Rattle.clean_link.proofs.messages.MessagesBack.{all_by_signs}
pub use Rattle.clean_link.proofs.noise.FileAtMargin.{pages_told, sync_told}
pub use Rattle.clean_link.proofs.noise.MarginFile.{meets_premises}
pub use Rattle.clean_link.proofs.traffic.Back.{one_near}
pub use Rattle.clean_link.proofs.traffic.Frames.{one_taken, one_there}
pub use Rattle.clean_link.proofs.traffic.Received.{frames_after_mark, set_two_after_mark}
pub use Rattle.clean_link.proofs.traffic.Signs.{clean_sent, power_pairs, set_one_sends}
pub use Rattle.clean_link.specs.Common.{Bears, IsAssigned, IsMargin, IsReceivable, SendsSetOne, SendsSetTwo, decoded2, good_frame2}
pub use Rattle.clean_link.specs.Common.{made_samples, phase_at, some_message, some_sync, told_with_sync, traffic_channel, whole_sendings}
pub use Rattle.clean_link.specs.NoisyFile.{noisy_paging_plan}
pub use Rattle.clean_link.specs.ReceivedLaws.{HoldsAfterMark}
pub use Rattle.clean_signal.proofs.noise.Rounding.{IsSmall, sample_small}
pub use Rattle.clean_signal.proofs.noise.Search.{files_found}
pub use Rattle.clean_signal.proofs.signal.CarriersApart.{traffic_sent}
pub use Rattle.clean_signal.proofs.signal.FoundPhase.{found_alone, pilots_bear, plan_files}
unfoldable pub use Rattle.command_line.proofs.Common.{digits_from}
unfoldable pub use Rattle.event_tap.specs.EventLines.{event_line}
unfoldable pub use Rattle.event_tap.specs.FrameLines.{frame2_line}
pub use Rattle.event_tap.specs.TunedTexts.{decoded_line}
pub use Rattle.heard_events.proofs.FramesAlone.{decoded_alone, power_alone}
unfoldable pub use Rattle.hex.specs.Hex.{decode_pairs}
pub use Rattle.command_line.specs.declared.job.Job.TheVariants.{Idle}
pub use Rattle.listed_frame.proofs.Choice.{decoded_by_one_codeword}
pub use Rattle.listed_frame.proofs.SentFrames.{signs_frame_listed}
pub use Rattle.listed_frame.specs.ListedFrames.{listed}
pub use Rattle.run_replies.proofs.BorneFiles.{BearsSync, IsBorneFile, cell_borne, end_is, long, none_on_paging, none_on_traffic, signs}
pub use Rattle.run_replies.proofs.CleanTexts.{clean_events-are}
pub use Rattle.run_replies.proofs.Common.{Contains, Err, HasBits, Header, IsCellFile, IsFileReply, IsLawfulHeader, IsOnPath, IsReply, Job}
pub use Rattle.run_replies.proofs.Common.{IsSampleFile, KeptTap, Ok, Reply, Tuning, append-nil, best_phase, best_phase-is, cell_energy}
pub use Rattle.run_replies.proofs.Common.{clean_end, clean_signs, end_when, events, flat_map, header_spelling, is_some, is_told, kept_by}
pub use Rattle.run_replies.proofs.Common.{lawful_traffic, length-made, length-near, listening, mark, named_receivable, one_delta, run_text}
pub use Rattle.run_replies.proofs.Common.{sample_spelling, sent_events, settings_for, take-append-drop, tuning_for, tuning_to, width_of}
unfoldable pub use Rattle.run_replies.proofs.Common.{file_end_of, file_text, made_file, plan_named, told}
pub use Rattle.run_replies.proofs.Files.{none_within}
pub use Rattle.run_replies.proofs.Replies.{one_file_reply, one_reply, whole_file}
pub use Rattle.run_replies.proofs.TuningLaw.{handsets_tuned, near_long, on_plans_path, own_delta}
unfoldable pub use Rattle.run_replies.specs.Hearing.{best_pilot}
pub use Rattle.run_replies.specs.Replies.{taps_for}
pub use Rattle.pilot_search.proofs.Common.{All-from_get_or, IsBestIn, length-drop, nat_tests, near_phase_at, near_place, near_value}
unfoldable pub use Rattle.pilot_search.proofs.Common.{first_places, near_deltas}
pub use Rattle.pilot_search.proofs.NearPlaces.{place_back}
pub use Rattle.rake_finger.proofs.Common.{All, List, [], ap, arith, drop, energy, inl, inr, is_near, length, length-take-le, map, refl, sym}
pub use Rattle.rake_finger.proofs.Common.{subst, take, ℕ, ◌*◌, ◌++◌, ◌+◌, ◌-◌, ◌<◌, ◌∙◌, ◌∷◌, ◌≡◌, ◌≢◌, ◌≤◌}
pub use Rattle.rate_set_two.specs.declared.traffic.Decoded2.{Decoded2}
pub use Rattle.slot_link.proofs.File.{slot_texts_back}
unfoldable pub use Rattle.slot_link.specs.Laws.{slots_sent}
pub use Rattle.tuned_listener.proofs.Common.{all_near, cases_lt, channel_stream, frames_text, int_le, listed_text, mark_set, rate2_text, ℤ}
pub use Rattle.tuned_listener.proofs.Common.{nil_from_length, suc, text_from, text_if_marked, timed_of, zero}
unfoldable pub use Rattle.tuned_listener.proofs.Common.{tuned_text}
pub use Rattle.tuned_listener.proofs.FrameTexts.{listed_texts, rate2_texts}
pub use Rattle.tuned_listener.proofs.Sleep.{same_mark, sleeps}
pub use Rattle.tuned_listener.proofs.SlotTimes.{mark_is_late, written_of_slots}
pub use borrow.Author.Gap.{read_sfits}
pub use Rattle.reply_laws.specs.Common.{CodeChannel, Done, IsFingers, Listed, Paging, RateSetTwo, Slots, Status, TunedText}
pub use Rattle.reply_laws.specs.Common.{cell, cell_beside, file, header_of, reference_alone, slots_after, sync_with, waiting}
pub use Rattle.reply_laws.specs.HeardThrough.{HeardThroughComesBack, HoldsOfNearReplies, IsFileNear}
pub use Rattle.reply_laws.specs.MadeLinks.{HasLouderPilot}
pub use Rattle.reply_laws.specs.NoisyReplies.{IsBearingTraffic, IsHeardThrough, IsNoisyFile, NoisyRepliesComeBack}
pub use Rattle.reply_laws.specs.ReplyLaws.{WritesTheFrames, SleepChangesNoReply}
pub use Rattle.reply_laws.specs.SentLines.{FileSlotsComeBack, IsLineOfSetOne, IsLineOfSetTwo, LinesComeBack}
pub use Rattle.reply_laws.specs.SentReplies.{IdleRepliesComeBack, IsSentReply, ListRepliesComeBack, Rate2RepliesComeBack, RepliesComeBack}
pub use Rattle.reply_laws.specs.SignedReplies.{IsFileOnPath, IsReplyFrom, SignedRepliesComeBack, list_job, rate2_job}

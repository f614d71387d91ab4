-- What the proofs of this crate cite of what lies below, and of its own definitions.
pub use Rattle.std.proofs.Common.{Err, IfErr, IfSome, IsErrAnd, IsOk, None, Ok, OnErr, OnOk, Option, Result, Some, min, ◌↔◌}
pub use Rattle.std.proofs.KnownBytes.{Appends-kept, Appends-nil, Consumes-nil, Consumes-trans}
pub use Rattle.std.proofs.lemmas.Option.{IfSome_then}
pub use Rattle.std.specs.Io.{StartsWith}
pub use Rattle.cdma_io.proofs.Common.{All, Appends, Bool, Consumes, HasBits, IsAtEnd, IsLawfulHeader, IsSampleFile, Keeps, List, Reading, ℕ}
pub use Rattle.cdma_io.proofs.Common.{[], ap, append-nil, append_assoc, arith, drop, false, flat_map, flat_map-append, header_spelling, inl}
pub use Rattle.cdma_io.proofs.Common.{inr, length, length-append, length-take-le, opening, refl, sample_len, sample_spelling, subst, sym}
pub use Rattle.cdma_io.proofs.Common.{take, take-append-drop, take_all, true, width_of, ◌*◌, ◌++◌, ◌+◌, ◌-◌, ◌<◌, ◌∙◌, ◌∷◌, ◌≡◌, ◌≤◌}
pub use Rattle.cdma_io.proofs.Opening.{length-header_spelling, opening-spelled}
pub use Rattle.cdma_io.proofs.Spelling.{length-samples, sample_len-mono}
pub use Rattle.cdma_io.proofs.Uniqueness.{file_unique}
pub use Rattle.cdma_io.specs.Outside.{AppendsPrefix, ConsumesAtMost, HasCause, Rose}
pub use Rattle.cdma_io.specs.SampleFile.{CutsShort, Opens, RunsOn}
pub use Rattle.cdma_io.specs.declared.file_fault.FileFault.TheVariants.{Extra, ReadFault, Short, TooFew}
pub use Rattle.cell_plan.specs.declared.plan.PagingPlan.{PagingPlan}
pub use Rattle.cell_plan.specs.declared.plan.SyncPlan.{SyncPlan}
pub use Rattle.cell_plan.specs.declared.plan.TrafficPlan.{TrafficPlan}
pub use Rattle.cell_script.proofs.NamedPages.{named_receivable}
unfoldable pub use Rattle.cell_script.specs.Script.{plan_named}
pub use Rattle.clean_link.proofs.Common.{All-contains, Bears, Contains, HasSyncSigns, IsFreeOf, IsNear, IsNotDirected, IsOnPath, IsSyncPlan}
pub use Rattle.clean_link.proofs.Common.{IsPagingPlan, IsReceivable, IsTunedToPlan, is_some, length-made, length-near, map, mark, pos, ◌≢◌}
pub use Rattle.clean_link.proofs.Common.{none_borne, sent_paging_rate, tuning_to, ◌⊎◌}
unfoldable pub use Rattle.clean_link.proofs.Common.{made_samples}
pub use Rattle.clean_link.proofs.frames.ChannelFrames.{clean_signs, near_sync, shows_sync}
pub use Rattle.clean_link.proofs.marks.MarksTrue.{marked_in}
pub use Rattle.clean_link.proofs.messages.EachChannel.{each_channel}
pub use Rattle.clean_link.proofs.messages.MessagesBack.{messages_back, tuned_is}
pub use Rattle.clean_link.proofs.traffic.Signs.{lawful_traffic}
pub use Rattle.clean_signal.proofs.noise.Rounding.{near-equal, near-same}
pub use Rattle.clean_signal.specs.NearFiles.{IsNearFile, IsPlanFile}
pub use Rattle.command_line.specs.Args.{IsLawfulJob, IsPaging}
pub use Rattle.command_line.specs.declared.job.Job.TheVariants.{Follow, Make, Trial}
pub use Rattle.cdma_io.proofs.Prefixes.{front_begins, taken_begins}
unfoldable pub use Rattle.event_tap.specs.Taps.{run_text}
pub use Rattle.pilot_search.proofs.BestPhase.{best_phase-is}
pub use Rattle.pilot_search.proofs.NearPlaces.{one_delta}
pub use Rattle.run_replies.specs.Broken.{HasWritten, IsCut, IsLong, IsUnopened, TakesFew, WritesAll, WritesFirst}
pub use Rattle.run_replies.specs.CleanFiles.{IsCellFile, IsCleanLink, cell_energy}
pub use Rattle.run_replies.specs.CleanLinks.{WritesEach}
pub use Rattle.run_replies.specs.Common.{CellPlan, Event, FileFault, FollowsSent, Header, HearsEach, Job, KeptTap, Sample, ScriptFault}
pub use Rattle.run_replies.specs.Common.{Settings, Status, Traffic, Tuning, Width, best_phase}
pub use Rattle.run_replies.specs.Common.{energy, events, kept_by, near_deltas, next_place, phase_at, sent_events}
pub use Rattle.run_replies.specs.Find.{BeginsFile, IsEnd, IsFault, IsFaultIn, IsHeaderFault, IsLaterFault, IsOfFiles, IsRestFault}
pub use Rattle.run_replies.specs.Find.{IsSearchable, PassesSamples, TakesNoMore, TakesSpan, WritesNoMore, WritesText, file_end, most_taken}
pub use Rattle.run_replies.specs.Hearing.{IsUnheard, clean_end, end_when, is_told, listening, settings_for, span_of, tuning_for}
unfoldable pub use Rattle.run_replies.specs.Hearing.{clean_events, file_end_of, file_text, told}
pub use Rattle.run_ends.specs.Make.{MakesFile, WritesMadeFile}
unfoldable pub use Rattle.run_ends.specs.Make.{made_file}
pub use Rattle.run_replies.specs.Replies.{Answers, AnswersAfter, Begins, GainsNothingOr, IsAnswered, IsEarlyFault, IsFaultyFile, IsFileEnd}
pub use Rattle.run_replies.specs.Replies.{BoundsInput, IsEndOf, IsFaultyScript, IsFileReply, IsLawfulInput, IsPromising, IsReply}
pub use Rattle.run_replies.specs.Replies.{IsScriptEnd, IsScriptReply, IsTrialEnd, IsTrialReply, IsVerdict, IsWholeFile, IsWholeScript}
pub use Rattle.run_replies.specs.Replies.{ReadsInput, ReadsWell, Reply, taps_for}
pub use Rattle.run_replies.specs.Replies.{WritesTaken, WritesWhole}
pub use Rattle.run_replies.specs.Runs.{IsPassedOn, MayHold, PassesOn, RunsCommand, TellsEnd, each_form}
pub use Rattle.run_ends.specs.Status.{end_line, ended, file_status}
pub use Rattle.run_ends.specs.Flows.{Flow, flow}
pub use Rattle.run_replies.specs.JobRuns.{ReceivesFile, RunsJob}
unfoldable pub use Rattle.run_replies.specs.Trials.{trial_line}
pub use Rattle.run_replies.specs.TuningLaw.{HandsetsAreTuned, HandsetsLieOnThePath}
pub use Rattle.run_ends.specs.declared.status.Status.TheVariants.{BadFile, Done, NoMemory, NoSync, WriteFault}
pub use Rattle.cdma_io.proofs.Common.{zero, err_from_is_err_and}
pub use Rattle.run_replies.specs.Handsets.{HandsetGave, HasTold, IsBest}
pub use Rattle.clean_link.proofs.Common.{places-more, filter-append, is_frame, is_page, is_sync}
unfoldable pub use Rattle.clean_link.proofs.Common.{heard_within}
pub use Rattle.command_line.specs.Args.{IsLawfulTraffic}
pub use Rattle.cdma_io.proofs.Prefixes.{begins_more, prefix_before, prefix_after, on_err}
pub use Rattle.event_tap.proofs.Runs.{run_taps-append, run_taps-more, run_text-append, run_text-more, run_text-none}
unfoldable pub use Rattle.event_tap.specs.EventLines.{event_line}
pub use Rattle.event_tap.specs.Taps.{heard_text, taps_after, IsKept}
unfoldable pub use Rattle.event_tap.specs.Taps.{run_taps}
pub use Rattle.heard_events.proofs.Common.{filter, flat_map_ext_places, low_of, range_with_len}
pub use Rattle.heard_events.proofs.EventsGrown.{events_sooner, heard_none}
pub use Rattle.heard_events.proofs.Growth.{timed_of}
pub use Rattle.heard_events.specs.declared.event.Event.TheVariants.{Pilot}
pub use Rattle.mobile_core.proofs.Common.{replicate, places, events_at, event_list, ForSome, AreNear, IsTimed, sync_stream, tuning_by}
pub use Rattle.mobile_core.proofs.Common.{take-add, ints}
pub use Rattle.mobile_core.specs.AfterMark.{IsSoundAssignment}
pub use Rattle.mobile_core.specs.Standing.{IsStep, StandsFor, Steps, events_left, has_room, steps_left}
pub use Rattle.mobile_core.specs.declared.mobile.Mobile.{Mobile}
pub use Rattle.mobile_core.specs.declared.mobile.Step.{Step}
pub use Rattle.pilot_search.proofs.BestPhase.{best_energy-only, best_phase-only}
pub use Rattle.pilot_search.proofs.Common.{suc, ℤ, IsBestIn, rules}
pub use Rattle.pilot_search.specs.declared.paths.Near.{Near}
pub use Rattle.pilot_search.specs.declared.sweeping.Best.{Best}
pub use Rattle.run_replies.specs.Hearing.{AreNearTo, AreReady, ByTaps, GainsText, GainsPrefix}
unfoldable pub use Rattle.run_replies.specs.Hearing.{best_pilot}
pub use Rattle.run_replies.specs.Trials.{LeavesRoom, count_of, counts_with, is_good, one_if}
unfoldable pub use Rattle.run_replies.specs.Trials.{counts_of}
pub use Rattle.run_replies.specs.declared.counts.Counts.{Counts}
pub use Rattle.std.proofs.Common.{IsNone}
pub use Rattle.std.proofs.KnownBytes.{Appends-trans}
pub use Rattle.std.proofs.lemmas.Grind.{common_steps}
pub use Rattle.std.proofs.lemmas.List.{length-replicate, take_at, take_rest}
pub use Rattle.std.specs.Prelude.{IfOk}
pub use Rattle.run_replies.specs.Listeners.{BeginsAfter, HearsRest, IsHearing, ListenerTells}
pub use Rattle.clean_link.proofs.Common.{All-append}
pub use Rattle.cdma_io.proofs.Prefixes.{prefix_of}
pub use Rattle.run_replies.specs.Broken.{HearsFirst}
pub use Rattle.run_replies.specs.Hearing.{Listening, LosesSamples}
pub use Rattle.std.proofs.KnownBytes.{Consumes-kept}

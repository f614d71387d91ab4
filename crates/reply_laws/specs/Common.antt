-- Names from other crates that the definitions of this crate use.
pub use Rattle.clean_link.specs.BySigns.{HearsBySigns}
pub use Rattle.clean_link.specs.Common.{Bears, CellPlan, Event, IsAssigned, IsFreeOf, IsMargin}
pub use Rattle.clean_link.specs.Common.{IsNear, IsReceivable, Mark, PagingPlan, Pilot, Sample, mark}
pub use Rattle.clean_link.specs.Common.{SendsSetOne, SendsSetTwo, SyncPlan, Traffic, TrafficPlan}
pub use Rattle.clean_link.specs.Common.{Width, cell_with, told_with_sync}
pub use Rattle.clean_link.specs.HeardEach.{HearsBearing}
pub use Rattle.clean_link.specs.HeardFrames.{sent_frame_event}
pub use Rattle.clean_link.specs.NoisyFile.{cell, cell_beside, file, last_page, sync_event}
pub use Rattle.clean_link.specs.NoisyFile.{sync_with}
pub use Rattle.clean_link.specs.ReceivedFrames.{IsDistinctFrame2, cycled_frame2, sent_decoded2}
pub use Rattle.clean_link.specs.SentEvents.{FollowedHaveSigns, paging_sent, signaling_sent}
pub use Rattle.clean_link.specs.SentSigns.{FromMark, HasSyncSigns, MarkIsAt, MarksAreAt}
pub use Rattle.clean_link.specs.SentSigns.{PagingFrameHasSigns, TrafficFrameHasSigns}
pub use Rattle.clean_signal.specs.Common.{Header, best_phase, energy, gain_sum}
pub use Rattle.clean_signal.specs.NearFiles.{IsNearFile}
pub use Rattle.clean_signal.specs.NoisySearch.{IsFoundThrough}
pub use Rattle.command_line.specs.Args.{IsFingers, IsPaging}
pub use Rattle.command_line.specs.declared.job.Job.{Job}
pub use Rattle.event_tap.specs.EventLines.{event_line}
pub use Rattle.event_tap.specs.FrameLines.{frame2_line}
pub use Rattle.event_tap.specs.TunedTexts.{tuned_frame_text, tuned_text}
pub use Rattle.event_tap.specs.declared.tuned_text.TunedText.{TunedText}
pub use Rattle.event_tap.specs.declared.tuned_text.TunedText.TheVariants.{Listed, RateSetTwo, Slots}
pub use Rattle.heard_events.specs.FramesAlone.{reference_alone}
pub use Rattle.heard_events.specs.declared.channel.CodeChannel.{CodeChannel}
pub use Rattle.heard_events.specs.declared.channel.CodeChannel.TheVariants.{Paging}
pub use Rattle.run_replies.specs.CleanFiles.{IsCellFile, IsCleanLink, cell_energy}
pub use Rattle.run_replies.specs.Common.{IsNotDirected, IsSampleFile, made_samples, FollowsSent}
pub use Rattle.run_replies.specs.Common.{sent_events, plan_named, header_of, sync_sent, tuning_to}
pub use Rattle.run_replies.specs.Common.{IsOnPath, phase_at, run_text, kept_by, Tuning, events}
pub use Rattle.run_replies.specs.Hearing.{clean_end, clean_events, end_when, settings_for, waiting}
pub use Rattle.run_replies.specs.Hearing.{traffic_channel_with, tuning_for}
pub use Rattle.run_ends.specs.Make.{made_file}
pub use Rattle.run_replies.specs.Ranks.{survey_text}
pub use Rattle.run_replies.specs.Replies.{AnswersAfter, IsFileReply, IsReply, Reply}
pub use Rattle.run_replies.specs.Trials.{trial_line}
pub use Rattle.run_replies.specs.TuningLaw.{HandsetsAreTuned, HandsetsLieOnThePath}
pub use Rattle.run_ends.specs.declared.status.Status.{Status}
pub use Rattle.run_ends.specs.declared.status.Status.TheVariants.{Done, NoMemory}
pub use Rattle.slot_link.specs.Laws.{slots_after, slots_sent}
pub use Rattle.tuned_listener.specs.SlotLaws.{AgreeWhereHeard}

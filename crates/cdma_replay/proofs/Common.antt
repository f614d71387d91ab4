-- What the proofs of this crate cite of what lies below, and of its own definitions.
pub use Rattle.std.proofs.Common.{Box, Err, Global, None, Option, Result, ◌≢◌, List, [], ap, arith, drop, inl, inr, length, map, refl, ℕ}
pub use Rattle.std.proofs.Common.{rules, subst, sym, take, true, ◌++◌, ◌+◌, ◌-◌, ◌∙◌, ◌≡◌, ◌≤◌}
pub use Rattle.std.proofs.KnownBytes.{Appends-nil}
pub use Rattle.std.proofs.Math.Seq.{take-add}
pub use Rattle.std.proofs.lemmas.Grind.{merely}
pub use Rattle.std.proofs.lemmas.List.{take_all, append-nil}
pub use Rattle.std.specs.Io.KnownBytes.{Appends}
pub use Rattle.chip_core.specs.Complex.{of_sample}
pub use Rattle.chip_core.specs.declared.sample.Sample.{Sample}
pub use Rattle.chip_core.specs.declared.width.Width.TheVariants.{Sixteen}
pub use Rattle.cdma_io.proofs.Prefixes.{on_err, on_ok}
pub use Rattle.cdma_io.specs.Outside.{AppendsPrefix}
pub use Rattle.cdma_io.specs.declared.header.Header.{Header}
pub use Rattle.pilot_search.proofs.BestPhase.{best_phase-only}
pub use Rattle.pilot_search.specs.BestIn.{IsBestIn}
pub use Rattle.pilot_search.specs.Search.{best_phase}
unfoldable pub use Rattle.cell_plan.specs.Sampled.{made_samples}
pub use Rattle.cell_plan.specs.Signal.{samples_of}
pub use Rattle.cell_plan.specs.Transmitter.{CellState, header_of}
pub use Rattle.cell_plan.specs.declared.plan.CellPlan.{CellPlan}
pub use Rattle.heard_events.specs.Events.{events}
pub use Rattle.heard_events.specs.Tuning.{Tuning}
pub use Rattle.heard_events.specs.declared.channel.CodeChannel.{CodeChannel}
pub use Rattle.heard_events.specs.declared.event.Event.{Event}
pub use Rattle.heard_events.specs.declared.settings.Settings.{Settings}
pub use Rattle.command_line.specs.declared.job.Job.{Job}
pub use Rattle.command_line.specs.declared.job.Job.TheVariants.{Make, Trial}
unfoldable pub use Rattle.event_tap.specs.EventLines.{event_line}
pub use Rattle.event_tap.specs.Taps.{KeptTap}
unfoldable pub use Rattle.event_tap.specs.Taps.{run_taps}
pub use Rattle.event_tap.specs.declared.tuned_text.TunedText.{TunedText}
pub use Rattle.mobile_core.specs.Standing.{StandsFor, has_room, steps_left}
pub use Rattle.mobile_core.specs.declared.mobile.Mobile.{Mobile}
pub use Rattle.clean_signal.proofs.signal.Samples.{length-made}
unfoldable pub use Rattle.trial_link.specs.Trial.{trial_plan}
pub use Rattle.run_ends.proofs.Ends.{ended_by}
pub use Rattle.run_ends.specs.Status.{file_status}
pub use Rattle.run_ends.specs.declared.status.Status.{Status}
pub use Rattle.run_replies.proofs.Bounds.{none_most, rest_most, unread_most}
pub use Rattle.run_replies.proofs.JobRuns.{file_run, made_run, trial_run, with_taps}
pub use Rattle.run_replies.proofs.Runs.{by_vtable, four_forms, passed_run, run_passed, run_with}
pub use Rattle.run_replies.proofs.Stopped.{unread_file}
pub use Rattle.run_replies.specs.Find.{TakesSpan}
pub use Rattle.run_replies.specs.Findings.{findings_text}
pub use Rattle.run_replies.specs.Hearing.{AreNearTo, ByFrames, ByTaps, GainsPrefix, Listening, Unheard, is_told, listening, tuning_for}
unfoldable pub use Rattle.run_replies.specs.Hearing.{best_pilot, told}
pub use Rattle.run_replies.specs.Listeners.{BeginsAfter, ListenerTells}
pub use Rattle.run_replies.specs.Replies.{IsEndOf}
pub use Rattle.run_replies.specs.Trials.{LeavesRoom, summary, trial_samples, trial_settings, trial_span, trial_tuning}
unfoldable pub use Rattle.run_replies.specs.Trials.{counts_of, trial_line}
pub use Rattle.run_replies.specs.declared.counts.Counts.{Counts}
pub use Rattle.run_replies.specs.declared.findings.Findings.{Findings}
pub use Rattle.tuned_listener.proofs.TunedTexts.{text_of_nothing}
pub use Rattle.tuned_listener.specs.TunedListening.{ListensTuned, TellsTuned, TellsTunedPart, tuned_room}
pub use Rattle.tuned_listener.specs.declared.tuned.TunedListener.{TunedListener}
pub use Rattle.cdma_replay.specs.Listeners.{HasRoom, IsFreshListener, Listens}
pub use Rattle.cdma_replay.specs.declared.listener.Listener.{Listener}

-- Names from other crates that the definitions of this crate use.
pub use Rattle.cdma_io.specs.Outside.{AppendsPrefix, ConsumesAtMost, Rose, next_count}
pub use Rattle.cdma_io.specs.SampleFile.{HasBits, IsLawfulHeader, IsSampleFile, Reading, next_place}
pub use Rattle.cdma_io.specs.SampleFile.{header_spelling, opening, sample_len, sample_spelling}
pub use Rattle.cdma_io.specs.SampleFile.{width_of}
pub use Rattle.cdma_io.specs.declared.file_fault.FileFault.{FileFault}
pub use Rattle.cdma_io.specs.declared.header.Header.{Header}
pub use Rattle.cell_plan.specs.Transmitter.{header_of, phase_at}
pub use Rattle.cell_plan.specs.declared.plan.CellPlan.{CellPlan}
pub use Rattle.cell_script.specs.Script.{plan_named}
pub use Rattle.cell_script.specs.declared.script_fault.ScriptFault.{ScriptFault}
pub use Rattle.chip_core.specs.declared.assignment.Traffic.{Traffic}
pub use Rattle.chip_core.specs.declared.sample.Sample.{Sample}
pub use Rattle.chip_core.specs.declared.width.Width.{Width}
pub use Rattle.clean_link.specs.CleanLink.{IsNotDirected, IsOnPath, sync_sent, tuning_to}
pub use Rattle.clean_link.specs.Common.{Tuning, events, made_samples}
pub use Rattle.clean_link.specs.HeardEach.{HearsEach, is_frame, is_page, is_sync}
pub use Rattle.clean_link.specs.SentEvents.{FollowsSent, sent_events}
pub use Rattle.command_line.specs.declared.job.Job.{Job}
pub use Rattle.event_tap.specs.Taps.{KeptTap, kept_by, run_text}
pub use Rattle.event_tap.specs.TunedTexts.{IsLawfulTuned, tuned_text}
pub use Rattle.event_tap.specs.declared.tuned_text.TunedText.{TunedText}
pub use Rattle.heard_events.specs.declared.channel.CodeChannel.{CodeChannel}
pub use Rattle.heard_events.specs.declared.event.Event.{Event}
pub use Rattle.heard_events.specs.declared.event.Event.TheVariants.{Frame, Pilot}
pub use Rattle.heard_events.specs.declared.settings.Settings.{Settings}
pub use Rattle.pilot_search.specs.Near.{near_deltas}
pub use Rattle.pilot_search.specs.Search.{best_phase, energy}
pub use Rattle.run_ends.specs.declared.status.Status.{Status}

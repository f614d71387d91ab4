-- Names from other crates that the definitions of this crate use.
pub use Rattle.cdma_io.specs.Outside.{AppendsPrefix, ConsumesAtMost, Rose}
pub use Rattle.cdma_io.specs.declared.file_fault.FileFault.{FileFault}
pub use Rattle.chip_core.specs.declared.sample.Sample.{Sample}
pub use Rattle.command_line.specs.Args.{IsFingers, IsLawfulJob, IsWorkers, job_named}
pub use Rattle.event_tap.specs.Taps.{IsKept, KeptTap}
pub use Rattle.heard_events.specs.declared.event.Event.{Event}
pub use Rattle.mobile_core.specs.declared.mobile.Mobile.{Mobile}
pub use Rattle.run_ends.specs.Status.{ended}
pub use Rattle.run_replies.specs.Common.{HasBits, IsLawfulHeader, Tuning, events, sample_len}
pub use Rattle.run_replies.specs.Common.{sample_spelling, width_of}
pub use Rattle.run_replies.specs.Find.{IsEnd, IsFaultIn, IsRestFault}
pub use Rattle.run_replies.specs.Find.{TakesSpan}
pub use Rattle.run_replies.specs.JobRuns.{ReceivesFile, RunsJob}

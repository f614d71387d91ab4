-- The contracts of a run that receives a sample file, and of a run of any job, over its status,
-- source and sink. The contract of a run of `make` is in `run_ends/specs/Make`.
use Rattle.run_replies.specs.Common.{ConsumesAtMost, Rose, FileFault, KeptTap, Job, Status}
use Rattle.std.specs.Prelude.{◌≡◌, ◌≢◌, ℕ, ◌≤◌, ◌⊎◌, List, IfSome}
use Rattle.std.specs.Io.KnownBytes.{Appends, IsAtEnd}
use Rattle.run_replies.specs.Broken.{IsCut, IsLong, WritesAll, WritesFirst}
use Rattle.run_replies.specs.Find.{BeginsFile, IsEnd, IsFaultIn, IsHeaderFault, IsOfFiles}
use Rattle.run_replies.specs.Find.{IsSearchable, TakesNoMore, WritesNoMore, WritesText}
use Rattle.run_replies.specs.Hearing.{IsUnheard, span_of}
use Rattle.run_replies.specs.Replies.{IsPromising, BoundsInput, WritesWhole, IsEndOf}
use Rattle.run_replies.specs.Replies.{WritesTaken, ReadsInput, GainsNothingOr, IsReply}
use Rattle.run_replies.specs.Replies.{IsEarlyFault, IsAnswered, Begins, IsVerdict}
use Rattle.run_ends.specs.Flows.{Flow}
use Rattle.run_replies.specs.Trials.{trial_line}
use Rattle.command_line.specs.declared.job.Job.TheVariants.{Trial}
use Rattle.cdma_io.specs.declared.file_fault.FileFault.TheVariants as file
use Rattle.run_ends.specs.declared.status.Status.TheVariants as ends

-- a sample file was received, with these taps
pub record ReceivesFile (taps : List KeptTap) (job : Job) (status : Status)
    (source sink : Flow) : Type 0 where
  pub done : IsEnd status →
      IfSome source.before (λ bytes. WritesText taps job status bytes sink.before sink.after)
  pub at_end : IsEnd status → IsAtEnd source.after
  pub others : IsOfFiles status
  pub memory : status ≡ ends.NoMemory → sink.Same
  pub early : status ≡ ends.NoMemory → source.Same ⊎ IfSome source.before (BeginsFile (span_of job))
  pub alone : IsUnheard job → status ≢ ends.NoSync
  pub bad_file : (fault : FileFault) → status ≡ ends.BadFile fault →
      (fault ≢ file.ReadFault)
      × IfSome source.before (λ bytes. ¬ (IsSearchable bytes (span_of job)))
  pub place : (fault : FileFault) → status ≡ ends.BadFile fault →
      IfSome source.before (λ bytes. IsFaultIn (span_of job) bytes fault)
  pub read_fault : status ≡ ends.ReadFault → Rose source.faults source.faults_after
  pub write_fault : status ≡ ends.WriteFault → Rose sink.faults sink.faults_after
  pub begun : status ≡ ends.WriteFault → IfSome source.before (BeginsFile (span_of job))
  pub header : (fault : FileFault) → status ≡ ends.BadFile fault → IsHeaderFault fault → sink.Same
  pub header_alone : (fault : FileFault) → status ≡ ends.BadFile fault → IsHeaderFault fault →
      ConsumesAtMost 16 source.before source.after
  pub bound : TakesNoMore source.before source.after
  pub written : WritesNoMore taps job source.before source.after sink.before sink.after
  pub cut : IsCut status → WritesFirst taps job source.before source.after sink.before sink.after
  pub long : IsLong status → WritesAll taps job source.before sink.before sink.after
  pub later_source : source.faults ≤ source.faults_after
  pub later_sink : sink.faults ≤ sink.faults_after

-- a job was run, with taps of these forms
pub record RunsJob (forms : List ℕ) (job : Job) (status : Status)
    (source sink : Flow) : Type 0 where
  pub kind : IsEndOf job status
  pub verdict : IsVerdict status →
      IfSome source.before
      (λ bytes. IsAnswered (IsReply forms job bytes) status sink.before sink.after)
  pub read_fault : status ≡ ends.ReadFault → Rose source.faults source.faults_after
  pub write_fault : status ≡ ends.WriteFault →
      Rose sink.faults sink.faults_after × IfSome source.before (IsPromising job)
  pub memory : status ≡ ends.NoMemory →
      sink.Same × (source.Same ⊎ IfSome source.before (IsPromising job))
  pub early : IsEarlyFault status → sink.Same
  pub header : (fault : FileFault) → status ≡ ends.BadFile fault → IsHeaderFault fault →
      ConsumesAtMost 16 source.before source.after
  pub at_end : ReadsInput job → IsEnd status → IsAtEnd source.after
  pub unread : ¬ (ReadsInput job) → source.Same
  pub bound : BoundsInput job source.before source.after
  pub trial : (number workers : ℕ) → job ≡ Trial number workers → status ≡ ends.Done →
      Appends sink.before sink.after (trial_line number)
  pub written : GainsNothingOr (Begins forms job source.before source.after) sink.before sink.after
  pub cut : IsCut status →
      WritesTaken forms job sink.Same source.before source.after sink.before sink.after
  pub long : IsLong status → WritesWhole forms job source.before sink.before sink.after
  pub later_source : source.faults ≤ source.faults_after
  pub later_sink : sink.faults ≤ sink.faults_after

-- The required output of a run: for each command and the bytes of its input, the text and how the
-- run ends, or the fault of the input.
use Rattle.run_replies.specs.Common.{Sample, FileFault, Header, Width, ConsumesAtMost, CellPlan}
use Rattle.run_replies.specs.Common.{IsSampleFile, ScriptFault, plan_named, KeptTap, kept_by, Job}
use Rattle.run_replies.specs.Common.{Status}
use Rattle.std.specs.Prelude.{◌≡◌, ◌≢◌, ℕ, ◌≤◌, ◌++◌, ◌⊎◌, List, [], length, Option, IsOk, None, Ok}
use Rattle.std.specs.Prelude.{Some, Result, Err}
use Rattle.std.specs.Io.{StartsWith}
use Rattle.std.specs.Io.KnownBytes.{Appends}
use Rattle.run_replies.specs.Broken.{WritesAll, WritesFirst}
use Rattle.run_replies.specs.Find.{BeginsFile, BeginsText, IsFaultIn, IsHeaderFault, IsSearchable}
use Rattle.run_replies.specs.Find.{TakesNoMore}
use Rattle.run_replies.specs.Hearing.{IsUnheard, file_end_of, file_text, span_of}
use Rattle.run_ends.specs.Make.{BeginsMadeFile, made_file}
use Rattle.run_replies.specs.Trials.{trial_line}
use Rattle.command_line.specs.Args.{job_limits}
use Rattle.command_line.specs.declared.job.Job.TheVariants.{Make, Trial}
use Rattle.cdma_io.specs.declared.file_fault.FileFault.TheVariants as file
use Rattle.cell_script.specs.declared.script_fault.ScriptFault.TheVariants as script
use Rattle.run_ends.specs.declared.status.Status.TheVariants as ends

-- ---- replies

-- the whole text and how the run ends, or the fault that the run ends with
abbrev pub Reply : Type 0
Reply = Result (List ℕ × Status) Status

-- the bytes are a sample file with at least as many samples as the span, and these are its text and
-- its end
pub record IsWholeFile (taps : List KeptTap) (job : Job) (bytes text : List ℕ)
    (end : Status) : Type 0 where
  pub header : Header
  pub samples : List Sample
  pub file : IsSampleFile bytes header samples
  pub enough : span_of job ≤ length samples
  pub text_is : text ≡ file_text taps job header samples
  pub end_is : end ≡ file_end_of job header samples

-- the bytes have this fault as a file of at least `span` samples
pub record IsFaultyFile (span : ℕ) (bytes : List ℕ) (end : Status) : Type 0 where
  pub fault : FileFault
  pub is : IsFaultIn span bytes fault
  pub end_is : end ≡ ends.BadFile fault

abbrev pub IsFileReply : List KeptTap → Job → List ℕ → Reply → Type 0
IsFileReply taps job bytes (Ok whole) = IsWholeFile taps job bytes whole.0 whole.1
IsFileReply taps job bytes (Err end) = IsFaultyFile (span_of job) bytes end

-- the bytes are a script that names a cell, and this is the cell's file
pub record IsWholeScript (width : Width) (bytes text : List ℕ) (end : Status) : Type 0 where
  pub plan : CellPlan
  pub named : plan_named width bytes ≡ Ok plan
  pub text_is : text ≡ made_file width plan
  pub end_is : end ≡ ends.Done

-- the bytes are a script with this fault
pub record IsFaultyScript (width : Width) (bytes : List ℕ) (end : Status) : Type 0 where
  pub fault : ScriptFault
  pub is : plan_named width bytes ≡ Err fault
  pub end_is : end ≡ ends.BadScript fault

abbrev pub IsScriptReply : Width → List ℕ → Reply → Type 0
IsScriptReply width bytes (Ok whole) = IsWholeScript width bytes whole.0 whole.1
IsScriptReply width bytes (Err end) = IsFaultyScript width bytes end

-- a trial has one line and one end, whatever its input
abbrev pub IsTrialReply : ℕ → Reply → Type 0
IsTrialReply number (Ok whole) = whole ≡ (trial_line number, ends.Done)
IsTrialReply number (Err end) = ⊥

-- ---- command by command: `make` reads a script, `trial` nothing, and all others a sample file

-- the taps of these forms that receive the events of a file
abbrev pub taps_for : Job → List ℕ → List KeptTap
taps_for job forms = kept_by (job_limits job) forms

-- the required reply to these bytes, with taps of these forms
abbrev pub IsReply : List ℕ → Job → List ℕ → Reply → Type 0
IsReply forms (Make width) = IsScriptReply width
IsReply forms (Trial number workers) = λ bytes. IsTrialReply number
IsReply forms job = IsFileReply (taps_for job forms) job

-- a good beginning of the input, after which memory may run out or a write may fail
abbrev pub IsPromising : Job → List ℕ → Type 0
IsPromising (Make width) = λ bytes. IsOk (plan_named width bytes)
IsPromising (Trial number workers) = λ bytes. Unit {0}
IsPromising job = BeginsFile (span_of job)

-- a run that reads its input to the end if it ends well; a trial reads nothing
abbrev pub ReadsInput : Job → Type 0
ReadsInput (Trial number workers) = ⊥
ReadsInput job = Unit {0}

-- what may have been written, whatever the reply: a prefix of the text for the beginning of the
-- input, and for no more of it than was taken
abbrev pub Begins : List ℕ → Job → Option (List ℕ) → Option (List ℕ) → List ℕ → Type 0
Begins forms (Make width) = λ rest left text. BeginsMadeFile width rest text
Begins forms (Trial number workers) = λ rest left text. StartsWith (trial_line number) text
Begins forms job = BeginsText (taps_for job forms) job

-- what was written if the input breaks off or a read failed: the text of the first of the samples
-- that were taken. For a script it is nothing, as `Unwritten` states: it is read before any write
abbrev pub WritesTaken : List ℕ → Job → Type 0 → Option (List ℕ) → Option (List ℕ) →
    Option (List ℕ) → Option (List ℕ) → Type 0
WritesTaken forms (Make width) Unwritten = λ rest left old new. Unwritten
WritesTaken forms (Trial number workers) Unwritten = λ rest left old new. Unit {0}
WritesTaken forms job Unwritten = WritesFirst (taps_for job forms) job

-- what was written if the input continues after its samples: their whole text
abbrev pub WritesWhole : List ℕ → Job → Option (List ℕ) → Option (List ℕ) → Option (List ℕ) → Type 0
WritesWhole forms (Make width) = λ rest old new. Unit {0}
WritesWhole forms (Trial number workers) = λ rest old new. Unit {0}
WritesWhole forms job = WritesAll (taps_for job forms) job

-- the most bytes that are taken from the input, however the run ends: for a file one more than its
-- header counts, for a script one more than its limit, and for a trial none
abbrev pub BoundsInput : Job → Option (List ℕ) → Option (List ℕ) → Type 0
BoundsInput (Make width) = λ rest left. ConsumesAtMost 1048577 rest left
BoundsInput (Trial number workers) = λ rest left. ConsumesAtMost 0 rest left
BoundsInput job = TakesNoMore

-- an input without a fault
abbrev pub IsLawfulInput : Job → List ℕ → Type 0
IsLawfulInput (Make width) = λ bytes. IsOk (plan_named width bytes)
IsLawfulInput (Trial number workers) = λ bytes. Unit {0}
IsLawfulInput job = λ bytes. IsSearchable bytes (span_of job)

-- the input is known to have no fault, and no read of it failed; a trial has no input
abbrev pub ReadsWell : Job → Option (List ℕ) → Type 0 → Type 0
ReadsWell (Trial number workers) rest Failed = Unit {0}
ReadsWell job None Failed = ⊥
ReadsWell job (Some bytes) Failed = IsLawfulInput job bytes × ¬ Failed

-- ---- ends

-- an end of a run over a sample file
abbrev pub IsFileEnd : Status → Type 0
IsFileEnd ends.BadWords = ⊥
IsFileEnd (ends.BadScript fault) = ⊥
IsFileEnd (ends.BadFile fault) = fault ≢ file.ReadFault
IsFileEnd status = Unit {0}

-- an end of a run over a script
abbrev pub IsScriptEnd : Status → Type 0
IsScriptEnd ends.BadWords = ⊥
IsScriptEnd ends.NoSync = ⊥
IsScriptEnd (ends.BadFile fault) = ⊥
IsScriptEnd (ends.BadScript fault) = fault ≢ script.OutOfMemory
IsScriptEnd status = Unit {0}

-- an end of a trial, which has no input
abbrev pub IsTrialEnd : Status → Type 0
IsTrialEnd ends.Done = Unit {0}
IsTrialEnd ends.WriteFault = Unit {0}
IsTrialEnd ends.NoMemory = Unit {0}
IsTrialEnd status = ⊥

-- the ends of a run for a job; without a listener, no sync message can be missing
abbrev pub IsEndOf : Job → Status → Type 0
IsEndOf (Make width) = IsScriptEnd
IsEndOf (Trial number workers) = IsTrialEnd
IsEndOf job = λ status. IsFileEnd status × (IsUnheard job → status ≢ ends.NoSync)

-- ---- answers

-- an end that depends on the input: on all of it, or on its fault
abbrev pub IsVerdict : Status → Type 0
IsVerdict ends.Done = Unit {0}
IsVerdict ends.NoSync = Unit {0}
IsVerdict (ends.BadFile fault) = Unit {0}
IsVerdict (ends.BadScript fault) = Unit {0}
IsVerdict status = ⊥

-- a fault that is found before anything is written
abbrev pub IsEarlyFault : Status → Type 0
IsEarlyFault (ends.BadFile fault) = IsHeaderFault fault
IsEarlyFault (ends.BadScript fault) = Unit {0}
IsEarlyFault status = ⊥

-- a run returned this reply, and the sink's bytes grew by it; for a fault only the end is fixed
abbrev pub Answers : Reply → Status → Option (List ℕ) → Option (List ℕ) → Type 0
Answers (Ok whole) status old new = (status ≡ whole.1) × Appends old new whole.0
Answers (Err end) status old new = status ≡ end

-- the same for a sink that held these bytes before
abbrev pub AnswersAfter : List ℕ → Reply → Status → Option (List ℕ) → Type 0
AnswersAfter held (Ok whole) status new = (status ≡ whole.1) × (new ≡ Some (held ++ whole.0))
AnswersAfter held (Err end) status new = status ≡ end

-- a run returned a required reply
pub record IsAnswered (asks : Reply → Type 0) (status : Status) (old new : Option (List ℕ)) :
    Type 0 where
  pub reply : Reply
  pub required : asks reply
  pub answers : Answers reply status old new

-- known bytes grew by nothing, or by a text that satisfies `begins`
pub record GainsNothingOr (begins : List ℕ → Type 0) (old new : Option (List ℕ)) : Type 0 where
  pub text : List ℕ
  pub written : Appends old new text
  pub part : (text ≡ []) ⊎ begins text

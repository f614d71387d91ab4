-- The contracts of a run of the command that its arguments name, and of the process. The process
-- has a tap of each form, flushes the output, and reports how the run ended.
use Rattle.run_replies.specs.Common.{Traffic, Sample, Width, AppendsPrefix, ConsumesAtMost, Rose}
use Rattle.run_replies.specs.Common.{next_count, IsSampleFile, FileFault, Header, CellPlan, Job}
use Rattle.run_replies.specs.Common.{FollowsSent, kept_by, run_text, Status}
use Rattle.std.specs.Prelude.{◌≡◌, ℕ, ◌≤◌, ◌++◌, ◌⊎◌, ◌↔◌, List, [], ◌∷◌, length, Option, None}
use Rattle.std.specs.Prelude.{IfSome, Some}
use Rattle.std.specs.Io.KnownBytes.{Appends, IsAtEnd, Keeps}
use Rattle.cell_plan.specs.Plan.{IsFreeOf}
use Rattle.command_line.specs.declared.job.Job.TheVariants.{Follow, Trial}
use Rattle.run_replies.specs.Broken.{IsCut, IsLong}
use Rattle.run_replies.specs.CleanFiles.{IsCleanLink}
use Rattle.run_replies.specs.CleanLinks.{WritesEach}
use Rattle.run_replies.specs.Find.{IsEnd, IsHeaderFault}
use Rattle.run_replies.specs.Hearing.{clean_end, clean_events}
use Rattle.run_replies.specs.Replies.{AnswersAfter, Begins, BoundsInput, IsAnswered, IsEarlyFault}
use Rattle.run_replies.specs.Replies.{IsEndOf, IsPromising, IsReply, IsVerdict, ReadsInput, Reply}
use Rattle.run_replies.specs.Replies.{ReadsWell, WritesWhole, WritesTaken, GainsNothingOr}
use Rattle.run_ends.specs.Status.{code_of, end_line}
use Rattle.run_ends.specs.Flows.{Flow}
use Rattle.run_replies.specs.Trials.{trial_line}
use Rattle.cdma_io.specs.declared.file_fault.FileFault.TheVariants as file
use Rattle.run_ends.specs.declared.status.Status.TheVariants as ends

-- A run of the job that the arguments name, if any, ended with this status, with taps of these
-- forms, over this source and this sink. `Unwritten` states that nothing was written.
module _ (forms : List ℕ) (named : Option Job) (status : Status) (source sink : Flow)
    (Unwritten : Type 0) where
  -- the bytes of the source before and after the run, and those of the sink
  abbrev rest : Option (List ℕ)
  rest = source.before

  abbrev left : Option (List ℕ)
  left = source.after

  abbrev old : Option (List ℕ)
  old = sink.before

  abbrev new : Option (List ℕ)
  new = sink.after

  -- the counts of failed reads and writes, before and after the run
  abbrev misread : ℕ
  misread = source.faults

  abbrev misread_now : ℕ
  misread_now = source.faults_after

  abbrev miswritten : ℕ
  miswritten = sink.faults

  abbrev miswritten_now : ℕ
  miswritten_now = sink.faults_after

  pub record RunsCommand : Type 0 where
    -- A run whose arguments name no job touches nothing.
    pub bad_words : (status ≡ ends.BadWords) ↔ (named ≡ None)
    pub untouched : status ≡ ends.BadWords → source.Same × sink.Same
    -- If the bytes of source and sink are known and no call on the outside failed, the run returns
    -- exactly the reply that its input requires, unless memory ran out: the whole text and the end,
    -- or the fault.
    pub exact : (job : Job) (bytes held : List ℕ) (reply : Reply) → named ≡ Some job →
        rest ≡ Some bytes → old ≡ Some held → IsReply forms job bytes reply →
        ¬ (Rose misread misread_now) → ¬ (Rose miswritten miswritten_now) →
        (status ≡ ends.NoMemory) ⊎ AnswersAfter held reply status new
    -- A clean link has one cell over one path without noise, one finger on that path, and no
    -- message that directs a handoff. The whole text is then that of the pilot at the cell's phase
    -- and of a list of events. Its sync messages are exactly the transmissions that lie wholly in
    -- the file. If the cell sends the followed paging channel, its paging messages are exactly the
    -- whole pages. If the cell sends the followed traffic channel, with frames of rate set 1, each
    -- frame from the mark on that lies in the file has an event with the power control bits that
    -- were sent. The event of a distinct frame is good and has its rate and bits. If all are
    -- distinct, the traffic messages are exactly those that the signaling in these frames spells.
    pub clean : (width : Width) (script bytes held : List ℕ) (plan : CellPlan)
        (span workers fingers paging : ℕ) (traffic : Option Traffic) (limits : List ℕ)
        (header : Header) (samples : List Sample) →
        named ≡ Some (Follow span workers fingers paging traffic limits) →
        rest ≡ Some bytes → old ≡ Some held → IsSampleFile bytes header samples →
        span ≤ length samples →
        IsCleanLink width script plan span fingers paging traffic header samples →
        ¬ (Rose misread misread_now) → ¬ (Rose miswritten miswritten_now) →
        (status ≡ ends.NoMemory) ⊎ ((status ≡ clean_end plan) ×
        WritesEach (kept_by limits forms) span plan paging traffic held new)
    -- Suppose also that no traffic channel has the followed paging channel's row, and that the
    -- followed traffic channel, if any, is one of the cell's whose frames are all distinct. Then
    -- the whole text is that of the pilot, the whole transmissions, the followed paging channel's
    -- whole pages, that traffic channel's frames with the messages that their signaling spells, and
    -- the pilot sets after it, in the order in which they are known.
    pub all_distinct : (width : Width) (script bytes held : List ℕ) (plan : CellPlan)
        (span workers fingers paging : ℕ) (traffic : Option Traffic) (limits : List ℕ)
        (header : Header) (samples : List Sample) →
        named ≡ Some (Follow span workers fingers paging traffic limits) →
        rest ≡ Some bytes → old ≡ Some held → IsSampleFile bytes header samples →
        span ≤ length samples →
        IsCleanLink width script plan span fingers paging traffic header samples →
        IsFreeOf plan.traffic paging → FollowsSent plan traffic →
        ¬ (Rose misread misread_now) → ¬ (Rose miswritten miswritten_now) →
        (status ≡ ends.NoMemory) ⊎ ((status ≡ clean_end plan) ×
        (new ≡ Some (held ++
        run_text (kept_by limits forms) (clean_events span plan paging traffic))))
    -- A good input is read to its end, unless a call on the outside failed or memory ran out.
    pub complete : (job : Job) → named ≡ Some job → ReadsWell job rest (Rose misread misread_now) →
        ¬ (Rose miswritten miswritten_now) → (status ≡ ends.NoMemory) ⊎ IsEnd status
    -- Whatever failed, the end is one that the command has, and an end that judges the input is one
    -- that the input requires.
    pub kind : (job : Job) → named ≡ Some job → IsEndOf job status
    pub verdict : (job : Job) → named ≡ Some job → IsVerdict status →
        IfSome rest (λ bytes. IsAnswered (IsReply forms job bytes) status old new)
    pub read_fault : status ≡ ends.ReadFault → Rose misread misread_now
    pub write_fault : (job : Job) → named ≡ Some job → status ≡ ends.WriteFault →
        Rose miswritten miswritten_now × IfSome rest (IsPromising job)
    -- Memory runs out before the first write, and before the first read or after a good beginning
    -- of the input.
    pub memory : (job : Job) → named ≡ Some job → status ≡ ends.NoMemory →
        sink.Same × (source.Same ⊎ IfSome rest (IsPromising job))
    -- A trial needs no input: it does not touch the source, and if it is done it has written its
    -- line.
    pub unread : (job : Job) → named ≡ Some job → ¬ (ReadsInput job) → source.Same
    pub trial : (number workers : ℕ) → named ≡ Some (Trial number workers) → status ≡ ends.Done →
        Appends old new (trial_line number)
    -- What is read and written, whatever the reply.
    pub at_end : (job : Job) → named ≡ Some job → ReadsInput job → IsEnd status → IsAtEnd left
    pub early : IsEarlyFault status → sink.Same
    pub header : (fault : FileFault) → status ≡ ends.BadFile fault → IsHeaderFault fault →
        ConsumesAtMost 16 rest left
    -- A run takes at most one byte more of a file than its header counts, and at most one byte more
    -- of a script than its limit, even after a failed write.
    pub bound : (job : Job) → named ≡ Some job → BoundsInput job rest left
    pub written : (job : Job) → named ≡ Some job →
        GainsNothingOr (Begins forms job rest left) old new
    -- If a sample file breaks off or a read of it failed, the text of the samples that were taken
    -- was written, except for the last 4,096 or fewer. If it continues after its samples, all text
    -- was written.
    pub cut : (job : Job) → named ≡ Some job → IsCut status →
        WritesTaken forms job Unwritten rest left old new
    pub long : (job : Job) → named ≡ Some job → IsLong status → WritesWhole forms job rest old new
    pub later_source : misread ≤ misread_now
    pub later_sink : miswritten ≤ miswritten_now

-- ---- the process

-- the forms of the program's taps: one of each
abbrev pub each_form : List ℕ
each_form = 0 ∷ 1 ∷ 2 ∷ 3 ∷ []

-- The sink may still buffer text after a run with this status: one that read its input to the end,
-- one whose file breaks off or continues after its samples, and one in which a read failed.
abbrev pub MayHold : Status → Type 0
MayHold ends.Done = Unit {0}
MayHold ends.NoSync = Unit {0}
MayHold ends.ReadFault = Unit {0}
MayHold (ends.BadFile (file.Short place)) = Unit {0}
MayHold (ends.BadFile (file.Extra place)) = Unit {0}
MayHold status = ⊥

-- A sink that may buffer text after a run with the status `before` was flushed once, and `status`
-- is the final status; any other sink is unchanged. `PassedOn` states that nothing is still
-- buffered.
pub record PassesOn (before status : Status) (sink : Flow) (PassedOn : Type 0) : Type 0 where
  -- A failed flush is a failed write, if everything else succeeded.
  pub end : (status ≡ before) ⊎
      ((status ≡ ends.WriteFault) × IsEnd before × Rose sink.faults sink.faults_after)
  pub still : ¬ (MayHold before) → sink.Same
  pub kept : Keeps sink.before sink.after
  pub passed_on : MayHold before → ¬ (Rose sink.faults sink.faults_after) → PassedOn
  -- A run does not end well after a failed flush, and the count of faults rises by at most one.
  pub good : IsEnd status → PassedOn × (sink.faults_after ≡ sink.faults)
  pub once : (sink.faults_after ≡ sink.faults) ⊎ (sink.faults_after ≡ next_count sink.faults)
  pub later : sink.faults ≤ sink.faults_after

-- The end of a run was reported once on a stream of errors: by the line of its status, or by
-- nothing if it is done. If a write failed, the stream took a prefix of the line.
pub record TellsEnd (status : Status) (errors : Flow) : Type 0 where
  pub done : status ≡ ends.Done → errors.Same
  pub line : ¬ (Rose errors.faults errors.faults_after) →
      Appends errors.before errors.after (end_line status)
  pub part : AppendsPrefix errors.before errors.after (end_line status)
  pub later : errors.faults ≤ errors.faults_after

-- The output of a run with this status was passed on: all of it after a good end, and after any end
-- that may leave text buffered, unless a write or a flush failed.
pub record IsPassedOn (status : Status) (Miswritten PassedOn : Type 0) : Type 0 where
  pub good : IsEnd status → PassedOn
  pub held : MayHold status → ¬ Miswritten → PassedOn

-- a process that exits with this code had a status that satisfies all three conditions
pub record ExitsBy (Ran Tells Passed : Status → Type 0) (code : ℕ) : Type 0 where
  pub status : Status
  pub code_is : code ≡ code_of status
  pub ran : Ran status
  pub told : Tells status
  pub passed : Passed status

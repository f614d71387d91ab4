-- Laws that `make` writes clean links, and what each command must write for one if the cell's pilot
-- is louder than all of its other channels together. Then no premise concerns the search.
use Rattle.std.specs.List.{Contains}
use Rattle.std.specs.Prelude.{ℕ, ◌≡◌, List, take, All, Option, Ok, ◌<◌, ◌≤◌, ◌*◌}
use Rattle.reply_laws.specs.Common.{IsSampleFile, Width, best_phase, made_samples, plan_named}
use Rattle.reply_laws.specs.Common.{header_of, phase_at, CellPlan, events, Traffic, IsNotDirected}
use Rattle.reply_laws.specs.Common.{tuning_to, made_file, IsCleanLink, cell_energy, FollowsSent}
use Rattle.reply_laws.specs.Common.{signaling_sent, Job, Sample, Header, gain_sum, IsFreeOf}
use Rattle.reply_laws.specs.Common.{PagingPlan, Pilot, TrafficPlan, IsAssigned, SendsSetOne}
use Rattle.reply_laws.specs.Common.{SendsSetTwo, IsPaging, event_line, kept_by, run_text}
use Rattle.reply_laws.specs.Common.{IsCellFile, clean_end, IsReply, clean_events, Reply, Done}
use Rattle.reply_laws.specs.Common.{slots_sent}
use Rattle.reply_laws.specs.SignedReplies.{list_job, rate2_job}
use Rattle.reply_laws.specs.SentLines.{IsLineOfSetOne, IsLineOfSetTwo}
use Rattle.reply_laws.specs.SentReplies.{IsSentReply}
use Rattle.command_line.specs.declared.job.Job.TheVariants as jobs

-- `make` writes for a script a sample file of the cell's samples
abbrev pub IsReadableWhenMade : Type 0
IsReadableWhenMade =
    (width : Width) (script : List ℕ) (plan : CellPlan) → plan_named width script ≡ Ok plan →
    IsSampleFile (made_file width plan) (header_of width plan) (made_samples plan)

-- the file is a clean link if the search finds the cell's path, there is one finger, and no handoff
-- is directed
abbrev pub IsCleanWhenMade : Type 0
IsCleanWhenMade =
    (width : Width) (script : List ℕ) (plan : CellPlan) (span paging : ℕ)
    (traffic : Option Traffic) → plan_named width script ≡ Ok plan →
    best_phase (take span (made_samples plan)) ≡ phase_at plan plan.link.start →
    All IsNotDirected
    (events (tuning_to plan (cell_energy span plan) paging traffic) (made_samples plan)) →
    IsCleanLink width script plan span 1 paging traffic (header_of width plan) (made_samples plan)

-- the file is also a clean link if the handset follows no traffic channel, or one of the cell's
-- whose frames are all distinct and on which no message that is sent directs a handoff
abbrev pub IsCleanWhenSent : Type 0
IsCleanWhenSent =
    (width : Width) (script : List ℕ) (plan : CellPlan) (span paging : ℕ)
    (traffic : Option Traffic) → plan_named width script ≡ Ok plan →
    best_phase (take span (made_samples plan)) ≡ phase_at plan plan.link.start →
    FollowsSent plan traffic →
    All IsNotDirected (signaling_sent plan traffic) →
    IsCleanLink width script plan span 1 paging traffic (header_of width plan) (made_samples plan)

-- ---- a cell with a louder pilot

-- A script names a cell whose pilot is louder than all of its other channels together. The span has
-- sixteen samples or more, and the cell sends at least as many.
pub record HasLouderPilot (width : Width) (script : List ℕ) (plan : CellPlan) (span : ℕ) :
    Type 0 where
  pub named : plan_named width script ≡ Ok plan
  pub louder : gain_sum plan < 2 * plan.pilot.gain
  pub least : 16 ≤ span
  pub enough : span ≤ plan.link.samples

-- A file with the samples and the flags of such a cell is a file of the cell, for one finger: the
-- search finds the cell's path in it.
abbrev pub LouderPilotsMakeCellFiles : Type 0
LouderPilotsMakeCellFiles = (width : Width) (script : List ℕ) (plan : CellPlan) (span : ℕ)
    (header : Header) (samples : List Sample) → HasLouderPilot width script plan span →
    samples ≡ made_samples plan → header.check30 ≡ plan.cell.check30 →
    header.check16 ≡ plan.cell.check16 → IsCellFile width script plan span 1 header samples

-- `make` writes for the script a clean link if the handset follows no traffic channel, or one of
-- the cell's whose frames are all distinct and on which no message directs a handoff.
abbrev pub LouderPilotsMakeCleanLinks : Type 0
LouderPilotsMakeCleanLinks = (width : Width) (script : List ℕ) (plan : CellPlan)
    (span paging : ℕ) (traffic : Option Traffic) → HasLouderPilot width script plan span →
    FollowsSent plan traffic → All IsNotDirected (signaling_sent plan traffic) →
    IsCleanLink width script plan span 1 paging traffic (header_of width plan) (made_samples plan)

-- ---- what each command must write for the file that `make` writes

-- Each reply that this file requires of a job with span `span` has a property.
abbrev pub HoldsOfMadeReplies : (ℕ → Job) → (CellPlan → ℕ → List ℕ → Reply → Type 0) → Type 0
HoldsOfMadeReplies job Is = (forms script : List ℕ) (width : Width) (plan : CellPlan) (span : ℕ)
    (reply : Reply) → HasLouderPilot width script plan span →
    IsReply forms (job span) (made_file width plan) reply → Is plan span forms reply

-- `find` must write the line of the pilot at the cell's phase.
abbrev pub FindsLouderPilots : Type 0
FindsLouderPilots = (workers : ℕ) → HoldsOfMadeReplies (λ span. jobs.Find span workers)
    (λ plan span forms reply.
    reply ≡ Ok (event_line (Pilot (phase_at plan plan.link.start) (cell_energy span plan)), Done))

-- `follow` must write the text of all that the cell sends, if it follows no traffic channel, or one
-- of the cell's whose frames are all distinct and on which no message directs a handoff.
abbrev pub LouderFollowRepliesComeBack : Type 0
LouderFollowRepliesComeBack = (workers paging : ℕ) (traffic : Option Traffic) (limits : List ℕ) →
    IsPaging paging →
    HoldsOfMadeReplies (λ span. jobs.Follow span workers 1 paging traffic limits)
    (λ plan span forms reply. IsFreeOf plan.traffic paging → FollowsSent plan traffic →
    All IsNotDirected (signaling_sent plan traffic) →
    reply ≡ Ok (
      run_text (kept_by limits forms) (clean_events span plan paging traffic),
      clean_end plan,
    ))

-- A job must write the lines of the frames that a traffic channel of the cell sends.
abbrev pub LouderRepliesComeBack : (ℕ → ℕ → Traffic → Job) → (TrafficPlan → Type 0) →
    (CellPlan → TrafficPlan → ℕ → List ℕ → Type 0) → Type 0
LouderRepliesComeBack job Sends Is = (workers : ℕ) (traffic : Traffic) →
    HoldsOfMadeReplies (λ span. job span workers traffic)
    (λ plan span forms reply. (p : TrafficPlan) → Contains plan.traffic p →
    IsAssigned p traffic → Sends p → IsSentReply plan p (Is plan p) reply)

-- `rate2` does so for a channel of rate set 2.
abbrev pub LouderRate2RepliesComeBack : Type 0
LouderRate2RepliesComeBack = LouderRepliesComeBack
    (λ span workers traffic. rate2_job span workers 1 traffic) SendsSetTwo IsLineOfSetTwo

-- `list` does so for a channel of rate set 1, with any number of codewords of a rate from 1 on.
abbrev pub LouderListRepliesComeBack : Type 0
LouderListRepliesComeBack = (k : ℕ) → 1 ≤ k → LouderRepliesComeBack
    (λ span workers traffic. list_job k span workers 1 traffic) SendsSetOne IsLineOfSetOne

-- `idle` must write the lines of the slots of a paging channel of the cell.
abbrev pub LouderIdleRepliesComeBack : Type 0
LouderIdleRepliesComeBack = (workers key cycle : ℕ) (p : PagingPlan) →
    HoldsOfMadeReplies (λ span. jobs.Idle span workers 1 p.number key cycle)
    (λ plan span forms reply. Contains plan.paging p →
    reply ≡ Ok (slots_sent key cycle plan p, clean_end plan))

-- What `rate2`, `list` and `idle` must write for a file that holds what a script's cell sends:
-- frame by frame what the traffic channel sends, and slot by slot what the paging channel sends.
use Rattle.std.specs.List.{Contains}
use Rattle.std.specs.Prelude.{◌≡◌, ◌≤◌, ℕ, List, length, Err, Ok}
use Rattle.reply_laws.specs.Common.{Sample, Width, IsSampleFile, Header, CellPlan, TrafficPlan, Job}
use Rattle.reply_laws.specs.Common.{Traffic, IsCellFile, IsAssigned, SendsSetOne, SendsSetTwo}
use Rattle.reply_laws.specs.Common.{clean_end, told_with_sync, IsReply, Reply, PagingPlan}
use Rattle.reply_laws.specs.Common.{slots_sent}
use Rattle.reply_laws.specs.SignedReplies.{list_job, rate2_job}
use Rattle.reply_laws.specs.SentLines.{IsLineOfSetOne, IsLineOfSetTwo, IsSentText}
use Rattle.command_line.specs.declared.job.Job.TheVariants as jobs

-- a whole text that has one line for each frame; the run ends well if a whole transmission lies in
-- the file
abbrev pub IsSentReply : CellPlan → TrafficPlan → (ℕ → List ℕ → Type 0) → Reply → Type 0
IsSentReply plan p Is (Ok whole) =
    IsSentText plan p Is (told_with_sync plan plan.sync) whole.0 × (whole.1 ≡ clean_end plan)
IsSentReply plan p Is (Err end) = ⊥

-- A sample file with at least `span` samples that holds what a script's cell sends, and arguments
-- that name a traffic channel of the cell.
pub record IsHeardFrom (script bytes : List ℕ) (width : Width) (plan : CellPlan) (p : TrafficPlan)
    (span fingers : ℕ) (traffic : Traffic) (header : Header) (samples : List Sample) :
    Type 0 where
  pub file : IsSampleFile bytes header samples
  pub enough : span ≤ length samples
  pub cell : IsCellFile width script plan span fingers header samples
  pub sent : Contains plan.traffic p
  pub assigned : IsAssigned p traffic

-- For such a file, a job must write exactly the lines of the channel's frames.
abbrev pub RepliesComeBack : (ℕ → ℕ → ℕ → Traffic → Job) → (TrafficPlan → Type 0) →
    (CellPlan → TrafficPlan → ℕ → List ℕ → Type 0) → Type 0
RepliesComeBack job Sends Is = (forms script bytes : List ℕ) (width : Width) (plan : CellPlan)
    (p : TrafficPlan) (span workers fingers : ℕ) (traffic : Traffic) (header : Header)
    (samples : List Sample) (reply : Reply) →
    IsHeardFrom script bytes width plan p span fingers traffic header samples → Sends p →
    IsReply forms (job span workers fingers traffic) bytes reply →
    IsSentReply plan p (Is plan p) reply

-- `rate2` does so for a channel of rate set 2
abbrev pub Rate2RepliesComeBack : Type 0
Rate2RepliesComeBack = RepliesComeBack rate2_job SendsSetTwo IsLineOfSetTwo

-- `list` does so for a channel of rate set 1, with any number of codewords of a rate from 1 on
abbrev pub ListRepliesComeBack : Type 0
ListRepliesComeBack = (k : ℕ) → 1 ≤ k → RepliesComeBack (list_job k) SendsSetOne
    IsLineOfSetOne

-- Take a sample file with at least `span` samples that holds what a script's cell sends, and
-- arguments that name a paging channel of the cell. Then `idle` must write exactly the lines of the
-- channel's slots, and the run ends well if a whole transmission lies in the file.
abbrev pub IdleRepliesComeBack : Type 0
IdleRepliesComeBack =
    (forms script bytes : List ℕ) (width : Width) (plan : CellPlan) (p : PagingPlan)
    (span workers fingers key cycle : ℕ) (header : Header) (samples : List Sample)
    (reply : Reply) →
    IsSampleFile bytes header samples → span ≤ length samples →
    IsCellFile width script plan span fingers header samples → Contains plan.paging p →
    IsReply forms (jobs.Idle span workers fingers p.number key cycle) bytes reply →
    reply ≡ Ok (slots_sent key cycle plan p, clean_end plan)

-- Laws of replies: each input has a reply, the number of workers doesn't change it, what each
-- command must write for a good input, and that it doesn't depend on what a handset sleeps through.
use Rattle.std.specs.Prelude.{◌≡◌, ℕ, ◌<◌, ◌≤◌, List, length, take, All, Option, Ok, is_some, []}
use Rattle.std.specs.Prelude.{◌↔◌, Some}
use Rattle.reply_laws.specs.Common.{Traffic, Sample, Width, IsSampleFile, Header, best_phase, mark}
use Rattle.reply_laws.specs.Common.{energy, plan_named, CellPlan, events, CodeChannel, Pilot}
use Rattle.reply_laws.specs.Common.{kept_by}
use Rattle.reply_laws.specs.Common.{event_line, run_text, tuned_text, TunedText, Listed, RateSetTwo}
use Rattle.reply_laws.specs.Common.{Slots, Job, end_when, settings_for, tuning_for, waiting, Reply}
use Rattle.reply_laws.specs.Common.{traffic_channel_with, made_file, survey_text, IsReply, Done}
use Rattle.reply_laws.specs.Common.{trial_line, Tuning, Paging, Mark, AgreeWhereHeard, IsFingers}
use Rattle.heard_events.specs.declared.channel.CodeChannel.TheVariants as channels
use Rattle.command_line.specs.declared.job.Job.TheVariants as jobs

-- for each job and each list of bytes there is a required reply
abbrev pub EachInputHasAReply : Type 0
EachInputHasAReply =
    (forms : List ℕ) (job : Job) (bytes : List ℕ) → All (λ b. b < 256) bytes →
    (reply : Reply) × IsReply forms job bytes reply

-- the same job with `n` workers; `make` has no workers
abbrev pub with_workers : ℕ → Job → Job
with_workers n (jobs.Find span workers) = jobs.Find span n
with_workers n (jobs.Follow span workers fingers paging traffic limits) =
    jobs.Follow span n fingers paging traffic limits
with_workers n (jobs.Rate2 span workers fingers offset esn row) =
    jobs.Rate2 span n fingers offset esn row
with_workers n (jobs.List span workers fingers offset esn row k) =
    jobs.List span n fingers offset esn row k
with_workers n (jobs.Idle span workers fingers paging key cycle) =
    jobs.Idle span n fingers paging key cycle
with_workers n (jobs.Survey span workers base width top) = jobs.Survey span n base width top
with_workers n (jobs.Make width) = jobs.Make width
with_workers n (jobs.Trial number workers) = jobs.Trial number n

abbrev pub WorkersChangeNoReply : Type 0
WorkersChangeNoReply =
    (forms : List ℕ) (job : Job) (n : ℕ) (bytes : List ℕ) (reply : Reply) →
    IsReply forms job bytes reply → IsReply forms (with_workers n job) bytes reply

-- ---- what each command must write for a good input

-- the pilot's line
abbrev pub FindWritesThePilot : Type 0
FindWritesThePilot =
    (forms : List ℕ) (span workers : ℕ) (bytes : List ℕ) (header : Header) (samples : List Sample) →
    IsSampleFile bytes header samples → span ≤ length samples →
    let phase = best_phase (take span samples) in
    IsReply forms (jobs.Find span workers) bytes
    (Ok (event_line (Pilot phase (energy (take span samples) phase)), Done))

-- what the taps make of all events of a handset, the pilot first
abbrev pub FollowWritesTheEvents : Type 0
FollowWritesTheEvents =
    (forms : List ℕ) (span workers fingers paging : ℕ) (traffic : Option Traffic)
    (limits bytes : List ℕ) (header : Header) (samples : List Sample) →
    IsSampleFile bytes header samples → span ≤ length samples →
    let t = tuning_for (settings_for header fingers paging traffic) (take span samples) in
    IsReply forms (jobs.Follow span workers fingers paging traffic limits) bytes
    (Ok (
      run_text (kept_by limits forms) (events t samples),
      end_when (is_some (mark t samples (length samples))),
    ))

-- the text of one channel's frames after the mark
abbrev pub WritesTheFrames : Job → ℕ → ℕ → CodeChannel → TunedText → Type 0
WritesTheFrames job span fingers channel text =
    (forms bytes : List ℕ) (header : Header) (samples : List Sample) →
    IsSampleFile bytes header samples → span ≤ length samples →
    let t = tuning_for (waiting header fingers) (take span samples) in
    IsReply forms job bytes
    (Ok (tuned_text text t channel samples, end_when (is_some (mark t samples (length samples)))))

-- `rate2`: frames of rate set 2; `list`: rate set 1 by lists of codewords; `idle`: slots
abbrev pub Rate2WritesTheFrames : Type 0
Rate2WritesTheFrames =
    (span workers fingers offset esn row : ℕ) →
    WritesTheFrames (jobs.Rate2 span workers fingers offset esn row) span fingers
    (traffic_channel_with esn row offset) RateSetTwo

abbrev pub ListWritesTheFrames : Type 0
ListWritesTheFrames =
    (span workers fingers offset esn row k : ℕ) →
    WritesTheFrames (jobs.List span workers fingers offset esn row k) span fingers
    (traffic_channel_with esn row offset) (Listed k)

abbrev pub IdleWritesTheSlots : Type 0
IdleWritesTheSlots =
    (span workers fingers paging key cycle : ℕ) →
    WritesTheFrames (jobs.Idle span workers fingers paging key cycle) span fingers
    (channels.Paging paging) (Slots key cycle)

-- the lines of the first ranks of the pilots
abbrev pub SurveyWritesTheRanks : Type 0
SurveyWritesTheRanks =
    (forms : List ℕ) (span workers base width top : ℕ) (bytes : List ℕ) (header : Header)
    (samples : List Sample) →
    IsSampleFile bytes header samples → span ≤ length samples →
    IsReply forms (jobs.Survey span workers base width top) bytes
    (Ok (survey_text base width top (take span samples), Done))

-- the file of the cell that a script names
abbrev pub MakeWritesTheFile : Type 0
MakeWritesTheFile =
    (forms : List ℕ) (width : Width) (bytes : List ℕ) (plan : CellPlan) →
    plan_named width bytes ≡ Ok plan →
    IsReply forms (jobs.Make width) bytes (Ok (made_file width plan, Done))

-- its line, whatever the input
abbrev pub TrialWritesItsLine : Type 0
TrialWritesItsLine =
    (forms : List ℕ) (number workers : ℕ) (bytes : List ℕ) →
    IsReply forms (jobs.Trial number workers) bytes (Ok (trial_line number, Done))

-- ---- a handset that sleeps

-- Two files agree while a handset is awake: the first one sets the mark, and they agree before the
-- mark and, path by path, in the samples of the slots that the handset hears.
pub record AgreeWhileAwake (key cycle : ℕ) (t : Tuning) (number : ℕ) (one other : List Sample) :
    Type 0 where
  pub told : Mark
  pub is_told : mark t one (length one) ≡ Some told
  pub before : take told.sample one ≡ take told.sample other
  pub slots : AgreeWhereHeard key cycle t number told one other (length one)

-- If two sample files with the same header agree so, then `idle` has the same required replies for
-- both.
abbrev pub SleepChangesNoReply : Type 0
SleepChangesNoReply =
    (forms : List ℕ) (span workers fingers number key cycle : ℕ) (header : Header)
    (one other : List Sample) (bytes changed : List ℕ) (reply : Reply) → span ≤ 32768 →
    IsFingers fingers → IsSampleFile bytes header one → IsSampleFile changed header other →
    AgreeWhileAwake key cycle (tuning_for (waiting header fingers) (take span one)) number one
    other →
    let job = jobs.Idle span workers fingers number key cycle in
    IsReply forms job bytes reply ↔ IsReply forms job changed reply

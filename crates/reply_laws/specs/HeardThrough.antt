-- What each command must write for a file with noise, if the script shows that its cell is heard
-- through noise of that size. The only premise on the file is that it is near.
use Rattle.std.specs.List.{Contains}
use Rattle.std.specs.Prelude.{List, ◌≡◌, Option, take, None, Some, ◌≤◌, All, Ok, ℕ}
use Rattle.reply_laws.specs.Common.{signaling_sent, IsNotDirected, IsSampleFile, made_samples}
use Rattle.reply_laws.specs.Common.{HearsBearing, TrafficPlan, SendsSetOne, SendsSetTwo, PagingPlan}
use Rattle.reply_laws.specs.Common.{FollowsSent, IsAssigned, event_line, slots_sent, clean_end}
use Rattle.reply_laws.specs.Common.{phase_at, CellPlan, run_text, Traffic, kept_by, Width, IsReply}
use Rattle.reply_laws.specs.Common.{Sample, Header, IsNear, energy, Bears, Event, Pilot, Reply}
use Rattle.reply_laws.specs.Common.{Done, Job}
use Rattle.reply_laws.specs.SignedReplies.{list_job, rate2_job, IsWholeReply}
use Rattle.reply_laws.specs.NoisyReplies.{IsBearingTraffic, IsHeardThrough}
use Rattle.reply_laws.specs.SentLines.{IsLineOfSetOne, IsLineOfSetTwo}
use Rattle.reply_laws.specs.SentReplies.{IsSentReply}
use Rattle.command_line.specs.declared.job.Job.TheVariants as jobs

-- ---- the file and the channel

-- A sample file whose flags are a cell's, and whose samples differ from the cell's by at most e in
-- I and in Q.
pub record IsFileNear (e : ℕ) (bytes : List ℕ) (plan : CellPlan) (header : Header)
    (samples : List Sample) : Type 0 where
  pub file : IsSampleFile bytes header samples
  pub checks_of_30 : header.check30 ≡ plan.cell.check30
  pub checks_of_16 : header.check16 ≡ plan.cell.check16
  pub near : IsNear e samples (made_samples plan)

-- A handset follows no traffic channel, or one of the cell's that bears the noise, whose frames
-- from the mark on are all distinct, and on which no message that is sent directs a handoff.
pub record FollowsBearing (e : ℕ) (plan : CellPlan) (followed : Option Traffic) : Type 0 where
  pub follows : FollowsSent plan followed
  pub bears : (p : TrafficPlan) (traffic : Traffic) → followed ≡ Some traffic →
      Contains plan.traffic p → IsAssigned p traffic → Bears plan p.gain e
  pub undirected : All IsNotDirected (signaling_sent plan followed)

-- ---- what is required

-- Each reply that such a file requires of a job has a property.
abbrev pub HoldsOfNearReplies : ℕ → CellPlan → Job → (List ℕ → List Sample → Reply → Type 0) →
    Type 0
HoldsOfNearReplies e plan job Is = (forms bytes : List ℕ) (header : Header)
    (samples : List Sample) (reply : Reply) → IsFileNear e bytes plan header samples →
    IsReply forms job bytes reply → Is forms samples reply

-- Each command, with one finger and any number of workers, reports what the cell sends, whatever
-- the noise is, up to the size e.
pub record ComesBackThrough (e : ℕ) (plan : CellPlan) (span : ℕ) : Type 0 where
  -- `find` reports the pilot at the cell's phase, with the energy that the file has there.
  pub find : (workers : ℕ) →
      HoldsOfNearReplies e plan (jobs.Find span workers) (λ forms samples reply.
      let phase = phase_at plan plan.link.start in
      reply ≡ Ok (event_line (Pilot phase (energy (take span samples) phase)), Done))
  -- `follow` reports events, and those of each channel that bears the noise are what it sends.
  pub follow : (workers paging : ℕ) (traffic : Option Traffic) (limits : List ℕ) →
      FollowsBearing e plan traffic →
      HoldsOfNearReplies e plan (jobs.Follow span workers 1 paging traffic limits)
      (λ forms samples reply. (heard : List Event)
      × (reply ≡ Ok (run_text (kept_by limits forms) heard, clean_end plan))
      × HearsBearing plan e paging traffic heard)
  -- If it follows a paging channel that bears the noise, and no traffic channel, it reports the
  -- whole text of what the cell sends.
  pub whole : (workers : ℕ) (limits : List ℕ) (q : PagingPlan) → Contains plan.paging q →
      Bears plan q.gain e →
      HoldsOfNearReplies e plan (jobs.Follow span workers 1 q.number None limits)
      (λ forms samples reply. IsWholeReply forms limits plan span q.number samples reply)
  -- `rate2` and `list` report the frames of a traffic channel that bears the noise.
  pub rate2 : (workers : ℕ) (p : TrafficPlan) (traffic : Traffic) →
      IsBearingTraffic e plan p traffic → SendsSetTwo p →
      HoldsOfNearReplies e plan (rate2_job span workers 1 traffic)
      (λ forms samples reply. IsSentReply plan p (IsLineOfSetTwo plan p) reply)
  pub list : (k workers : ℕ) (p : TrafficPlan) (traffic : Traffic) → 1 ≤ k →
      IsBearingTraffic e plan p traffic → SendsSetOne p →
      HoldsOfNearReplies e plan (list_job k span workers 1 traffic)
      (λ forms samples reply. IsSentReply plan p (IsLineOfSetOne plan p) reply)
  -- `idle` reports the slots of a paging channel that bears it.
  pub idle : (workers key cycle : ℕ) (p : PagingPlan) → Contains plan.paging p →
      Bears plan p.gain e →
      HoldsOfNearReplies e plan (jobs.Idle span workers 1 p.number key cycle)
      (λ forms samples reply. reply ≡ Ok (slots_sent key cycle plan p, clean_end plan))

-- This holds for each cell whose noiseless samples show that the search finds its path through the
-- noise, and whose sync channel bears the noise.
abbrev pub HeardThroughComesBack : Type 0
HeardThroughComesBack = (e : ℕ) (width : Width) (plan : CellPlan) (span : ℕ) →
    IsHeardThrough e width plan span → ComesBackThrough e plan span

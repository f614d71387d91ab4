-- What each command reports of a file of any origin: for each channel whose soft values have the
-- signs that a cell sends, exactly what the cell sends.
use Rattle.std.specs.List.{Contains}
use Rattle.std.specs.Prelude.{◌≡◌, ◌≤◌, ℕ, List, length, take, All, Option, None, Ok, Err, is_some}
use Rattle.reply_laws.specs.Common.{Traffic, Sample, Width, IsSampleFile, Header, best_phase}
use Rattle.reply_laws.specs.Common.{energy, IsReceivable, phase_at, CellPlan, events, PagingPlan}
use Rattle.reply_laws.specs.Common.{TrafficPlan, kept_by, run_text, IsAssigned, Job, SendsSetOne}
use Rattle.reply_laws.specs.Common.{SendsSetTwo, told_with_sync, HearsBySigns, IsReply}
use Rattle.reply_laws.specs.Common.{IsNotDirected, sent_events, FollowedHaveSigns, FollowsSent}
use Rattle.reply_laws.specs.Common.{signaling_sent, FromMark, HasSyncSigns, MarksAreAt, slots_after}
use Rattle.reply_laws.specs.Common.{PagingFrameHasSigns, TrafficFrameHasSigns, clean_end, end_when}
use Rattle.reply_laws.specs.Common.{settings_for, tuning_for, Reply}
use Rattle.reply_laws.specs.SentLines.{IsLineOfSetOne, IsLineOfSetTwo, IsSentText}
use Rattle.command_line.specs.declared.job.Job.TheVariants as jobs

-- A sample file with at least `span` samples, whatever they are, in which a handset with one finger
-- lies on a cell's path: the cell can be received, there are as many samples as its link has, the
-- flags are the cell's, the search finds its path, and there is one finger.
pub record IsFileOnPath (bytes : List ℕ) (width : Width) (plan : CellPlan) (span fingers : ℕ)
    (header : Header) (samples : List Sample) : Type 0 where
  pub file : IsSampleFile bytes header samples
  pub enough : span ≤ length samples
  pub receivable : IsReceivable width plan
  pub long : length samples ≡ plan.link.samples
  pub checks_of_30 : header.check30 ≡ plan.cell.check30
  pub checks_of_16 : header.check16 ≡ plan.cell.check16
  pub found : best_phase (take span samples) ≡ phase_at plan plan.link.start
  pub alone : fingers ≡ 1

-- ---- all channels

-- If the mark is the cell's and no handoff is directed, `follow` reports what the taps make of its
-- handset's events. In these events, each channel comes back by its own signs. The run ends well if
-- a mark is set.
abbrev pub SignedFollowRepliesComeBack : Type 0
SignedFollowRepliesComeBack =
    (forms limits bytes : List ℕ) (width : Width) (plan : CellPlan)
    (span workers fingers paging : ℕ) (traffic : Option Traffic) (header : Header)
    (samples : List Sample) (reply : Reply) (at : Option ℕ) →
    IsFileOnPath bytes width plan span fingers header samples → MarksAreAt plan samples at →
    let t = tuning_for (settings_for header fingers paging traffic) (take span samples) in
    All IsNotDirected (events t samples) →
    IsReply forms (jobs.Follow span workers fingers paging traffic limits) bytes reply →
    (reply ≡ Ok (run_text (kept_by limits forms) (events t samples), end_when (is_some at)))
    × HearsBySigns width plan samples at paging traffic (events t samples)

-- No handoff is directed if each frame of the sync channel has the sent signs, and the handset
-- follows no traffic channel, or one whose frames from the mark on all have the sent signs and are
-- distinct, and on which no message that is sent directs one.
abbrev pub NoHandoffIsDirectedBySigns : Type 0
NoHandoffIsDirectedBySigns =
    (bytes : List ℕ) (width : Width) (plan : CellPlan) (span fingers paging : ℕ)
    (followed : Option Traffic) (header : Header) (samples : List Sample) →
    IsFileOnPath bytes width plan span fingers header samples → HasSyncSigns width plan samples →
    FollowsSent plan followed → FollowedHaveSigns plan samples followed →
    All IsNotDirected (signaling_sent plan followed) →
    All IsNotDirected
    (events (tuning_for (settings_for header fingers paging followed) (take span samples)) samples)

-- The whole text of `follow` if no traffic channel is followed: the pilot at the cell's phase, all
-- whole transmissions, and all whole pages of the followed paging channel.
abbrev pub IsWholeReply : List ℕ → List ℕ → CellPlan → ℕ → ℕ → List Sample → Reply → Type 0
IsWholeReply forms limits plan span paging samples reply =
    let own = energy (take span samples) (phase_at plan plan.link.start) in
    reply ≡ Ok (run_text (kept_by limits forms) (sent_events plan own paging None), clean_end plan)

-- `follow` reports this text if the sync channel and the followed paging channel have the sent
-- signs.
abbrev pub SignedWholeRepliesComeBack : Type 0
SignedWholeRepliesComeBack =
    (forms limits bytes : List ℕ) (width : Width) (plan : CellPlan) (q : PagingPlan)
    (span workers fingers : ℕ) (header : Header) (samples : List Sample) (reply : Reply) →
    IsFileOnPath bytes width plan span fingers header samples → HasSyncSigns width plan samples →
    Contains plan.paging q →
    FromMark (PagingFrameHasSigns plan q samples) (told_with_sync plan plan.sync) →
    IsReply forms (jobs.Follow span workers fingers q.number None limits) bytes reply →
    IsWholeReply forms limits plan span q.number samples reply

-- ---- one channel

-- A whole text that has one line for each frame after the mark, if one is set. The run ends well
-- exactly if a mark is set.
abbrev pub IsReplyFrom : CellPlan → TrafficPlan → Option ℕ → (ℕ → List ℕ → Type 0) → Reply → Type 0
IsReplyFrom plan p at Is (Ok whole) =
    IsSentText plan p Is at whole.0 × (whole.1 ≡ end_when (is_some at))
IsReplyFrom plan p at Is (Err end) = ⊥

-- the job of `rate2` for a traffic channel
abbrev pub rate2_job : ℕ → ℕ → ℕ → Traffic → Job
rate2_job span workers fingers traffic =
    jobs.Rate2 span workers fingers traffic.offset traffic.esn traffic.row

-- the job of `list`, with `k` codewords of a rate
abbrev pub list_job : ℕ → ℕ → ℕ → ℕ → Traffic → Job
list_job k span workers fingers traffic =
    jobs.List span workers fingers traffic.offset traffic.esn traffic.row k

-- For a traffic channel that the cell sends, a job reports one line for each frame after the cell's
-- mark. If a frame has the sent signs, its line is that of what is sent, whatever the other frames
-- are.
abbrev pub SignedRepliesComeBack : (ℕ → ℕ → ℕ → Traffic → Job) → (TrafficPlan → Type 0) →
    (CellPlan → TrafficPlan → ℕ → List ℕ → Type 0) → Type 0
SignedRepliesComeBack job Sends Is = (forms bytes : List ℕ) (width : Width)
    (plan : CellPlan) (p : TrafficPlan) (span workers fingers : ℕ) (traffic : Traffic)
    (header : Header) (samples : List Sample) (reply : Reply) (at : Option ℕ) →
    IsFileOnPath bytes width plan span fingers header samples → MarksAreAt plan samples at →
    Contains plan.traffic p → IsAssigned p traffic → Sends p →
    IsReply forms (job span workers fingers traffic) bytes reply →
    IsReplyFrom plan p at
    (λ frame line. TrafficFrameHasSigns plan p samples frame → Is plan p frame line) reply

-- `rate2` does so for a channel of rate set 2.
abbrev pub SignedRate2RepliesComeBack : Type 0
SignedRate2RepliesComeBack = SignedRepliesComeBack rate2_job SendsSetTwo IsLineOfSetTwo

-- `list` does so for a channel of rate set 1, with any number of codewords of a rate from 1 on.
abbrev pub SignedListRepliesComeBack : Type 0
SignedListRepliesComeBack = (k : ℕ) → 1 ≤ k → SignedRepliesComeBack (list_job k) SendsSetOne
    IsLineOfSetOne

-- For a paging channel that the cell sends, `idle` reports only the lines of its slots after the
-- cell's mark, if each of the channel's frames from the mark on has the sent signs.
abbrev pub SignedIdleRepliesComeBack : Type 0
SignedIdleRepliesComeBack =
    (forms bytes : List ℕ) (width : Width) (plan : CellPlan) (p : PagingPlan)
    (span workers fingers key cycle : ℕ) (header : Header) (samples : List Sample)
    (reply : Reply) (at : Option ℕ) →
    IsFileOnPath bytes width plan span fingers header samples → MarksAreAt plan samples at →
    Contains plan.paging p → FromMark (PagingFrameHasSigns plan p samples) at →
    IsReply forms (jobs.Idle span workers fingers p.number key cycle) bytes reply →
    reply ≡ Ok (slots_after key cycle plan p at plan.sync, end_when (is_some at))

-- What is required for a file of any origin comes back by the signs of its soft values.
use Rattle.reply_laws.proofs.Common.{◌≤◌, ◌≡◌, ℕ, List, [], ◌∷◌, length, take, map, refl, sym, ap, ◌∙◌, subst, Option, None, Some, Ok, Err}
use Rattle.reply_laws.proofs.Common.{Contains, Sample, Width, Header, CellPlan, TrafficPlan, Traffic, IsOnPath, Tuning, Mark, mark, Listed}
use Rattle.reply_laws.proofs.Common.{SendsSetOne, SendsSetTwo, TunedText, RateSetTwo, traffic_channel, Job, IsSampleFile, Status, IsReply}
use Rattle.reply_laws.proofs.Common.{Reply, IsLineOfSetOne, IsLineOfSetTwo, IsSentReply, WritesTheFrames, told_with_sync, MarkIsAt, kept_by}
use Rattle.reply_laws.proofs.Common.{MarksAreAt, TrafficFrameHasSigns, IsFileOnPath, IsReplyFrom, SignedRepliesComeBack, channels_by_signs}
use Rattle.reply_laws.proofs.Common.{no_event_directed, all_by_signs, tells_the_mark, run_text, events, settings_for, tuning_for, end_when}
use Rattle.reply_laws.proofs.Common.{clean_end, slot_texts_back, energy, best_phase, near_deltas, one_near, written_of_slots, arith, suc}
use Rattle.reply_laws.proofs.Common.{Bears, FileSlotsComeBack, IsAssigned, is_some, nat_lt, lt-ltb, SyncPlan, told_by_first, whole_sendings}
use Rattle.reply_laws.proofs.Common.{events_of_channel, sending_event, sync_sent, sent_events, IsBorneFile, signs, one_reply, near_long}
use Rattle.reply_laws.proofs.Common.{own_delta, LinesComeBack, list_job, rate2_job, ap₂}
use Rattle.reply_laws.proofs.Required.{follow_writes, idle_writes, list_writes, rate2_writes}
use Rattle.reply_laws.proofs.SentLines.{all_lines, borne_signs, listed_lines, set_two_lines}
use Rattle.reply_laws.specs.SignedReplies as laws
use Rattle.command_line.specs.declared.job.Job.TheVariants as jobs

-- ---- how a run ends

-- a mark is set just where it is told
set_at : (plan : CellPlan) (set : Option Mark) (at : Option ℕ) → MarkIsAt plan set at → is_some set ≡ is_some at
set_at plan None at none = ap (λ (o : Option ℕ). is_some o) (sym none)
set_at plan (Some m) at (superframes, told, cell) = ap (λ (o : Option ℕ). is_some o) (sym told)

-- and the first whole transmission tells one where there is one
told_some : (plan : CellPlan) (sync : Option SyncPlan) →
    is_some (told_with_sync plan sync) ≡ nat_lt 0 (length (events_of_channel plan sync))
told_some plan None = refl
told_some plan (Some sync) = by_sendings (whole_sendings plan sync.message)
  where
    by_sendings : (sendings : List ℕ) → is_some (told_by_first plan sync.message sendings)
        ≡ nat_lt 0 (length (map (sending_event plan sync.message) sendings))
    by_sendings [] = refl
    by_sendings (sending ∷ sendings) =
        sym (lt-ltb 0 (suc (length (map (sending_event plan sync.message) sendings))) (omega arith))

pub told_end : (plan : CellPlan) → end_when (is_some (told_with_sync plan plan.sync)) ≡ clean_end plan
unfolding sync_sent
told_end plan = ap end_when (told_some plan plan.sync)

-- ---- a handset that hears such a file

-- a file that is near to what a cell sends is one
pub borne_on_path : {e : ℕ} {bytes : List ℕ} {width : Width} {plan : CellPlan} {span fingers : ℕ}
    {header : Header} {samples : List Sample} → IsSampleFile bytes header samples →
    span ≤ length samples → IsBorneFile e width plan span fingers header samples →
    IsFileOnPath bytes width plan span fingers header samples
borne_on_path {e} {width = width} {plan} {span} {fingers} {header} {samples} file enough borne = record {
  file = file;
  enough = enough;
  receivable = borne.near.receivable;
  long = near_long e width plan span fingers header samples borne.near;
  checks_of_30 = borne.near.checks_of_30;
  checks_of_16 = borne.near.checks_of_16;
  found = borne.near.found;
  alone = borne.near.alone;
}

module _ {bytes : List ℕ} {width : Width} {plan : CellPlan} {span fingers : ℕ} {header : Header}
    {samples : List Sample} (file : IsFileOnPath bytes width plan span fingers header samples)
    (paging : ℕ) (traffic : Option Traffic) where
  abbrev tuning : Tuning
  tuning = tuning_for (settings_for header fingers paging traffic) (take span samples)

  on : IsOnPath plan tuning
  on =
      let first = take span samples in
      record {
        count = sym file.file.counted ∙ file.long;
        checks_of_30 = file.checks_of_30;
        checks_of_16 = file.checks_of_16;
        phase = file.found;
        alone = ap (near_deltas first (best_phase first)) file.alone ∙ own_delta first;
      }

  -- the mark of all samples
  mark_is_at : (at : Option ℕ) → MarksAreAt plan samples at → MarkIsAt plan (mark tuning samples (length samples)) at
  mark_is_at at marks = subst (λ (n : ℕ). MarkIsAt plan (mark tuning samples n) at) (sym file.long) (marks tuning on)

  end_at : (at : Option ℕ) → MarksAreAt plan samples at →
      end_when (is_some (mark tuning samples (length samples))) ≡ end_when (is_some at)
  end_at at marks = ap end_when (set_at plan _ at (mark_is_at at marks))

-- ---- all channels

-- The one reply that is required is the text of the handset's events, with the end that the mark tells.
-- The handset is on the cell's path, so each channel comes back in these events by its signs.
pub signed_follow : laws.SignedFollowRepliesComeBack
signed_follow forms limits bytes width plan span workers fingers paging traffic header samples reply at file
    marks undirected required =
    let t = tuning_for (settings_for header fingers paging traffic) (take span samples) in
    let job : Job = jobs.Follow span workers fingers paging traffic limits in
    let there = on file paging traffic in (
      one_reply forms job bytes reply _ required
          (follow_writes forms span workers fingers paging traffic limits bytes header samples file.file
          file.enough)
          ∙ ap (λ (end : Status). Ok (run_text (kept_by limits forms) (events t samples), end))
          (end_at file paging traffic at marks),
      channels_by_signs width plan samples t at file.receivable file.long there (marks t there) undirected,
    )

pub signed_undirected : laws.NoHandoffIsDirectedBySigns
signed_undirected bytes width plan span fingers paging followed header samples file is follows signs none =
    no_event_directed width plan samples
    (tuning_for (settings_for header fingers paging followed) (take span samples)) is
    (on file paging followed) follows signs none

-- a whole text and its end
abbrev whole : List ℕ → Status → Reply
whole text end = Ok (text, end)

pub signed_whole : laws.SignedWholeRepliesComeBack
signed_whole forms limits bytes width plan q span workers fingers header samples reply file is has signs
    required =
    let t = tuning_for (settings_for header fingers q.number None) (take span samples) in
    let job : Job = jobs.Follow span workers fingers q.number None limits in
    one_reply forms job bytes reply _ required
    (follow_writes forms span workers fingers q.number None limits bytes header samples file.file
    file.enough)
    ∙ ap₂ whole
    (ap (run_text (kept_by limits forms))
    (all_by_signs width plan samples t q is (on file q.number None) refl has refl signs
    ∙ ap (λ (phase : ℕ). sent_events plan (energy (take span samples) phase) q.number None) file.found))
    (end_at file q.number None (told_with_sync plan plan.sync) (tells_the_mark width plan samples is)
    ∙ told_end plan)

-- ---- one channel

-- where a job must write the text of the channel's frames
signed_replies : (job : ℕ → ℕ → ℕ → Traffic → Job) (form : TunedText) →
    ((span workers fingers : ℕ) (traffic : Traffic) →
    WritesTheFrames (job span workers fingers traffic) span fingers (traffic_channel traffic) form) →
    (Sends : TrafficPlan → Type 0) (Is : CellPlan → TrafficPlan → ℕ → List ℕ → Type 0) →
    LinesComeBack form Sends Is → SignedRepliesComeBack job Sends Is
signed_replies job form asks Sends Is lines forms bytes width plan p span workers fingers traffic header
    samples reply at file marks has assigned sends required =
    subst
    (IsReplyFrom plan p at (λ frame line. TrafficFrameHasSigns plan p samples frame → Is plan p frame line))
    (one_reply forms (job span workers fingers traffic) bytes _ reply
    (asks span workers fingers traffic forms bytes header samples file.file file.enough) required) (
      lines width plan p (tuning file 1 None) traffic samples at file.receivable file.long
          (on file 1 None) (mark_is_at file 1 None at marks) has assigned sends,
      end_at file 1 None at marks,
    )

pub signed_rate2 : laws.SignedRate2RepliesComeBack
signed_rate2 =
    signed_replies rate2_job RateSetTwo
    (λ span workers fingers traffic.
    rate2_writes span workers fingers traffic.offset traffic.esn traffic.row)
    SendsSetTwo IsLineOfSetTwo set_two_lines

pub signed_list : laws.SignedListRepliesComeBack
signed_list k least =
    signed_replies (list_job k) (Listed k)
    (λ span workers fingers traffic.
    list_writes span workers fingers traffic.offset traffic.esn traffic.row k)
    SendsSetOne IsLineOfSetOne (listed_lines k least)

pub file_slots : FileSlotsComeBack
file_slots width plan p t key cycle at samples is long on has set signs =
    written_of_slots key cycle t p.number samples (one_near t plan on)
    ∙ slot_texts_back width plan p t key cycle at samples is long on has set signs

pub signed_idle : laws.SignedIdleRepliesComeBack
signed_idle forms bytes width plan p span workers fingers key cycle header samples reply at file marks has
    signs required =
    let job : Job = jobs.Idle span workers fingers p.number key cycle in
    let t = tuning_for (settings_for header fingers 1 None) (take span samples) in
    let there = on file 1 None in
    one_reply forms job bytes reply _ required
    (idle_writes span workers fingers p.number key cycle forms bytes header samples file.file file.enough)
    ∙ ap₂ whole
    (file_slots width plan p t key cycle at samples file.receivable file.long there has (marks t there)
    signs)
    (end_at file 1 None at marks)

-- ---- after the mark that the sync channel tells

-- where each of the channel's frames has the sent signs
sent_reply : (plan : CellPlan) (p : TrafficPlan) (Has : ℕ → Type 0) (Is : ℕ → List ℕ → Type 0)
    (reply : Reply) → ((frame : ℕ) → Has frame) →
    IsReplyFrom plan p (told_with_sync plan plan.sync) (λ frame line. Has frame → Is frame line) reply →
    IsSentReply plan p Is reply
sent_reply plan p Has Is (Ok given) have (text, end) =
    (all_lines plan p Has Is have (told_with_sync plan plan.sync) given.0 text, end ∙ told_end plan)
sent_reply plan p Has Is (Err fault) have none = none

pub told_replies : (job : ℕ → ℕ → ℕ → Traffic → Job) (Sends : TrafficPlan → Type 0)
    (Is : CellPlan → TrafficPlan → ℕ → List ℕ → Type 0) → SignedRepliesComeBack job Sends Is →
    (forms : List ℕ) (workers : ℕ) (reply : Reply) {bytes : List ℕ} {e : ℕ} {width : Width}
    {plan : CellPlan} {p : TrafficPlan} {span fingers : ℕ} {traffic : Traffic} {header : Header}
    {samples : List Sample} → IsSampleFile bytes header samples → span ≤ length samples →
    IsBorneFile e width plan span fingers header samples → Contains plan.traffic p →
    IsAssigned p traffic → Bears plan p.gain e → Sends p →
    IsReply forms (job span workers fingers traffic) bytes reply → IsSentReply plan p (Is plan p) reply
told_replies job Sends Is signed forms workers reply {bytes} {width = width} {plan} {p} {span} {fingers}
    {traffic} {header} {samples} file enough borne has assigned bears sends required =
    sent_reply plan p (TrafficFrameHasSigns plan p samples) (Is plan p) reply (borne_signs samples borne has bears)
    (signed forms bytes width plan p span workers fingers traffic header samples reply _
    (borne_on_path file enough borne)
    (tells_the_mark width plan samples (signs fingers 1 None borne)) has assigned sends required)

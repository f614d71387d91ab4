-- Files whose sync channel bears their noise: a handset that hears one is told the time just where
-- the cell tells it.
use Rattle.run_replies.proofs.Common.{named_receivable, sent_paging_rate, lawful_traffic, IsReceivable, made_samples, settings_for, length}
use Rattle.run_replies.proofs.Common.{All-contains, HasSyncSigns, IsPagingPlan, TrafficPlan, clean_signs, PagingPlan, IsNearFile, Contains}
use Rattle.run_replies.proofs.Common.{IsPlanFile, IsCellFile, tuning_for, IsSyncPlan, shows_sync, near-equal, none_borne, clean_end, subst}
use Rattle.run_replies.proofs.Common.{marked_in, near_sync, near-same, CellPlan, SyncPlan, IsOnPath, end_when, is_some, Traffic, Option, ℕ}
use Rattle.run_replies.proofs.Common.{Sample, Header, Tuning, IsNear, Width, Bears, List, take, refl, None, Some, mark, ◌≡◌, sym, ◌∙◌, ap}
use Rattle.run_replies.proofs.TuningLaw.{near_long, on_plans_path}

-- The sync channel bears noise of this size, or the cell sends none and there is no noise.
abbrev pub BearsSync : CellPlan → ℕ → Option SyncPlan → Type 0
BearsSync plan e None = e ≡ 0
BearsSync plan e (Some sync) = Bears plan sync.gain e

-- a file that is near to what a cell sends, in which that is so
pub record IsBorneFile (e : ℕ) (width : Width) (plan : CellPlan) (span fingers : ℕ)
    (header : Header) (samples : List Sample) : Type 0 where
  pub near : IsNearFile e width plan span fingers header samples
  pub counted : length samples ≡ header.count
  pub sync : BearsSync plan e plan.sync

-- ---- without noise

-- each channel of the cell bears noise of the size 0
none_on_channel : {width : Width} {plan : CellPlan} → IsReceivable width plan →
    (channel : Option SyncPlan) → IsSyncPlan channel → BearsSync plan 0 channel
none_on_channel is None lawful = refl
none_on_channel {width} {plan} is (Some sync) lawful = none_borne width plan sync.gain is lawful.0

pub none_on_traffic : {width : Width} {plan : CellPlan} {p : TrafficPlan} →
    IsReceivable width plan → Contains plan.traffic p → Bears plan p.gain 0
none_on_traffic {width} {plan} {p} is has =
    none_borne width plan p.gain is (lawful_traffic width plan p is.lawful has).gain

pub none_on_paging : {width : Width} {plan : CellPlan} {p : PagingPlan} →
    IsReceivable width plan → Contains plan.paging p → Bears plan p.gain 0
none_on_paging {width} {plan} {p} is has =
    none_borne width plan p.gain is
    (All-contains (IsPagingPlan (sent_paging_rate plan.sync)) plan.paging p is.lawful.paging has).gain

-- so a file that holds just what the cell sends is such a file
pub plan_borne : {width : Width} {plan : CellPlan} {span fingers : ℕ} {header : Header}
    {samples : List Sample} → IsPlanFile width plan span fingers header samples →
    length samples ≡ header.count → IsBorneFile 0 width plan span fingers header samples
plan_borne {width} {plan} file counted = record {
  near = file;
  counted = counted;
  sync = none_on_channel file.receivable plan.sync file.receivable.lawful.sync;
}

-- and so is one of a script's cell, since its plan can be received
pub cell_borne : {width : Width} {script : List ℕ} {plan : CellPlan} {span fingers : ℕ}
    {header : Header} {samples : List Sample} →
    IsCellFile width script plan span fingers header samples → length samples ≡ header.count →
    IsBorneFile 0 width plan span fingers header samples
cell_borne {width} {script} {plan} {samples = samples} file counted =
    plan_borne
    (record {
      receivable = named_receivable width script plan file.named;
      near = near-equal 0 samples (made_samples plan) file.sent;
      checks_of_30 = file.checks_of_30;
      checks_of_16 = file.checks_of_16;
      found = file.found;
      alone = file.alone;
    }) counted

-- ---- what is heard

module _ {e : ℕ} {width : Width} {plan : CellPlan} {span : ℕ} {header : Header}
    {samples : List Sample} (fingers paging : ℕ) (traffic : Option Traffic)
    (file : IsBorneFile e width plan span fingers header samples) where
  abbrev tuning : Tuning
  tuning = tuning_for (settings_for header fingers paging traffic) (take span samples)

  pub path : IsOnPath plan tuning
  path = on_plans_path e width plan span fingers paging traffic header samples file.near file.counted

  pub long : length samples ≡ plan.link.samples
  long = near_long e width plan span fingers header samples file.near

  -- Each frame of the sync channel has the sent signs: where one is sent it bears the noise, and where
  -- none is, the samples are the cell's.
  pub signs : HasSyncSigns width plan samples
  signs = by_channel plan.sync refl file.sync
    where
      by_channel : (channel : Option SyncPlan) → plan.sync ≡ channel → BearsSync plan e channel →
          HasSyncSigns width plan samples
      by_channel None silent none =
          subst (HasSyncSigns width plan)
          (sym (near-same samples (made_samples plan)
          (subst (λ (n : ℕ). IsNear n samples (made_samples plan)) none file.near.near)))
          (clean_signs width plan file.near.receivable)
      by_channel (Some sync) sends bears = near_sync samples file.near.receivable sends file.near.near bears

  -- so each whole transmission tells the time
  pub end_is : end_when (is_some (mark tuning samples (length samples))) ≡ clean_end plan
  end_is =
      ap (λ (n : ℕ). end_when (is_some (mark tuning samples n))) long
      ∙ ap end_when (marked_in (shows_sync signs) path)

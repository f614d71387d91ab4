-- The cells that a script may name.
use Rattle.cell_plan.specs.Common.{IsState, Width, Sixteen, Eight, IsSyncMessage, Rate, PagingPlan}
use Rattle.cell_plan.specs.Common.{half_frame_body, TrafficPlan, CellPlan, SyncPlan}
use Rattle.std.specs.Prelude.{ℕ, ◌+◌, ◌*◌, ◌<◌, ◌≤◌, ◌^◌, ◌≢◌, All, List, [], ◌∷◌, length, Option}
use Rattle.std.specs.Prelude.{Some, None, unsigned_abs}
use Rattle.cdma_io.specs.SampleFile.{most_samples}
use Rattle.cell_plan.specs.Pages.{sent_paging_rate, AreSendable}
use Rattle.cell_plan.specs.TrafficFrames.{IsTrafficFrame}

-- the greatest absolute value of a part of a sample
abbrev pub most_part : Width → ℕ
most_part Sixteen = 32767
most_part Eight = 127

-- the sum of the channels' gains
abbrev pub sync_gain : Option SyncPlan → ℕ
sync_gain None = 0
sync_gain (Some sync) = sync.gain

abbrev pub paging_gains : List PagingPlan → ℕ
paging_gains [] = 0
paging_gains (p ∷ paging) = p.gain + paging_gains paging

abbrev pub traffic_gains : List TrafficPlan → ℕ
traffic_gains [] = 0
traffic_gains (t ∷ traffic) = t.gain + traffic_gains traffic

abbrev pub gain_sum : CellPlan → ℕ
gain_sum plan =
    plan.pilot.gain
    + (sync_gain plan.sync + (paging_gains plan.paging + traffic_gains plan.traffic))

-- a bound on the parts of the samples: the sum of the absolute values of the link's parts, times
-- the sum of the gains
abbrev pub loudness : CellPlan → ℕ
loudness plan = (unsigned_abs plan.link.factor.i + unsigned_abs plan.link.factor.q) * gain_sum plan

-- a sync channel sends a message, whatever its PILOT_PN, SYS_TIME and LC_STATE
abbrev pub IsSyncPlan : Option SyncPlan → Type 0
IsSyncPlan None = Unit {0}
IsSyncPlan (Some sync) = (0 < sync.gain) × IsSyncMessage sync.message

-- a paging channel with pages that can be sent
pub record IsPagingPlan (rate : Rate) (p : PagingPlan) : Type 0 where
  pub first : 1 ≤ p.number
  pub last : p.number ≤ 7
  pub gain : 0 < p.gain
  pub some : 1 ≤ length p.pages
  pub pages : AreSendable (half_frame_body rate) 0 p.pages

-- no two paging channels have the same number
abbrev pub HaveOwnNumbers : List PagingPlan → Type 0
HaveOwnNumbers [] = Unit {0}
HaveOwnNumbers (p ∷ paging) =
    All (λ (q : PagingPlan). q.number ≢ p.number) paging × HaveOwnNumbers paging

-- a traffic channel that can be sent; rows 0 and 32 are the pilot's and the sync channel's
pub record IsTrafficPlan (t : TrafficPlan) : Type 0 where
  pub first : 1 ≤ t.row
  pub last : t.row ≤ 63
  pub other : t.row ≢ 32
  pub latest : t.offset ≤ 15
  pub gain : 0 < t.gain
  pub some : 1 ≤ length t.frames
  pub sized : All IsTrafficFrame t.frames

-- no two traffic channels have the same row
abbrev pub HaveOwnTrafficRows : List TrafficPlan → Type 0
HaveOwnTrafficRows [] = Unit {0}
HaveOwnTrafficRows (t ∷ traffic) =
    All (λ (u : TrafficPlan). u.row ≢ t.row) traffic × HaveOwnTrafficRows traffic

-- a Walsh row that no traffic channel has
abbrev pub IsFreeOf : List TrafficPlan → ℕ → Type 0
IsFreeOf traffic row = All (λ (t : TrafficPlan). t.row ≢ row) traffic

-- traffic channels that can be sent together with these paging channels: there are at most 62, and
-- each has a row of its own
pub record AreLawfulBeside (paging : List PagingPlan) (traffic : List TrafficPlan) : Type 0 where
  pub few : length traffic ≤ 62
  pub are : All IsTrafficPlan traffic
  pub apart : HaveOwnTrafficRows traffic
  pub free : All (λ (p : PagingPlan). IsFreeOf traffic p.number) paging

-- a cell that can be sent in samples of this width
pub record IsLawfulPlan (width : Width) (plan : CellPlan) : Type 0 where
  pub pn : plan.cell.pn < 512
  pub time : plan.cell.time ≤ 34359738368
  pub lc : IsState plan.cell.lc
  pub start : plan.link.start < 2 ^ 32
  pub samples : plan.link.samples ≤ most_samples width
  pub pilot : 0 < plan.pilot.gain
  pub sync : IsSyncPlan plan.sync
  pub few : length plan.paging ≤ 7
  pub paging : All (IsPagingPlan (sent_paging_rate plan.sync)) plan.paging
  pub apart : HaveOwnNumbers plan.paging
  pub traffic : AreLawfulBeside plan.paging plan.traffic
  pub loud : loudness plan ≤ most_part width

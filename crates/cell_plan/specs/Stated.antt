-- The plan of a cell as stated, within its bounds, and the channels that a handset can receive from
-- it.
use Rattle.cell_plan.specs.Common.{CheckForm, norm, IsState, IsSyncMessage, Rate, bits_left, M30}
use Rattle.cell_plan.specs.Common.{capsules_in, half_frame_body, CellPlan, Page, PagingPlan, Width}
use Rattle.cell_plan.specs.Common.{SyncPlan, TrafficPlan, CellIdentity, capsule}
use Rattle.std.specs.Prelude.{◌≡◌, ℕ, ◌+◌, ◌^◌, ◌<◌, ◌≤◌, All, true, List, [], ◌∷◌, length, map}
use Rattle.std.specs.Prelude.{Option, Some, None, unsigned_abs}
use Rattle.paging_message.specs.Admitted.{HasMessage}
use Rattle.cell_plan.specs.Pages.{laid_after, page_cycle, sent_paging_rate, AreSendable}
use Rattle.cell_plan.specs.declared.plan.LinkPlan.{LinkPlan}
use Rattle.cell_plan.specs.TrafficFrames.{IsTrafficFrame}
use Rattle.cell_plan.specs.Plan.{IsLawfulPlan}

pub record IsStatedCell (cell : CellIdentity) : Type 0 where
  pub pn : cell.pn < 512
  pub time : cell.time ≤ 34359738368
  pub lc : IsState cell.lc

pub record IsStatedLink (link : LinkPlan) : Type 0 where
  pub in_phase : unsigned_abs link.factor.i ≤ 32768
  pub quadrature : unsigned_abs link.factor.q ≤ 32768
  pub start : link.start < 2 ^ 32

abbrev pub IsStatedSync : Option SyncPlan → Type 0
IsStatedSync None = Unit {0}
IsStatedSync (Some sync) = IsSyncMessage sync.message

-- Pages laid after `count` body bits: each is a message, and a page follows the previous one
-- immediately only if at least 8 body bits of the half-frame are left.
abbrev pub AreHeard : ℕ → ℕ → List Page → Type 0
AreHeard size count [] = Unit {0}
AreHeard size count (page ∷ pages) =
    HasMessage page.body × (page.follows ≡ true → 8 ≤ bits_left size count)
    × AreHeard size (laid_after size count page.follows (38 + length page.body)) pages

-- each page of a channel is a message
abbrev pub HasMessages : PagingPlan → Type 0
HasMessages p = All (λ (page : Page). HasMessage page.body) p.pages

-- the half-frames of a channel's pages carry exactly their capsules, in order
abbrev pub IsCarried : Rate → CheckForm → PagingPlan → Type 0
IsCarried rate form p =
    capsules_in (half_frame_body rate) (page_cycle rate form p.pages)
    ≡ map (λ (page : Page). capsule M30 form page.body) p.pages

-- a paging channel with pages that can be sent
pub record IsStatedPaging (rate : Rate) (p : PagingPlan) : Type 0 where
  pub first : 1 ≤ p.number
  pub last : p.number ≤ 7
  pub some : 1 ≤ length p.pages
  pub pages : AreSendable (half_frame_body rate) 0 p.pages
  pub heard : AreHeard (half_frame_body rate) 0 p.pages

-- a traffic channel whose frames can be sent, on any row
pub record IsStatedTraffic (t : TrafficPlan) : Type 0 where
  pub last : t.row ≤ 63
  pub latest : t.offset ≤ 15
  pub some : 1 ≤ length t.frames
  pub sized : All IsTrafficFrame t.frames

pub record IsStatedPlan (plan : CellPlan) : Type 0 where
  pub cell : IsStatedCell plan.cell
  pub link : IsStatedLink plan.link
  pub sync : IsStatedSync plan.sync
  pub paging : All (IsStatedPaging (sent_paging_rate plan.sync)) plan.paging
  pub traffic : All IsStatedTraffic plan.traffic

-- what was stated is within its bounds, and the link isn't 0
pub record HasSaid (plan : CellPlan) : Type 0 where
  pub lawful : IsStatedPlan plan
  pub linked : 0 < norm plan.link.factor

-- a lawful cell whose link is not 0 and whose pages are messages that half-frames carry
pub record IsReceivable (width : Width) (plan : CellPlan) : Type 0 where
  pub lawful : IsLawfulPlan width plan
  pub link : 0 < norm plan.link.factor
  pub pages : All (IsStatedPaging (sent_paging_rate plan.sync)) plan.paging

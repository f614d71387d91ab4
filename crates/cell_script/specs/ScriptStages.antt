-- Which statements of a script may follow one another.
use Rattle.cell_script.specs.Common.{R9600, R4800, bits_left, half_frame_body, Page, SyncPlan}
use Rattle.cell_script.specs.Common.{rate_set, FrameRate, SetOne, SetTwo, Statement}
use Rattle.std.specs.Prelude.{ℕ, ◌+◌, ◌==◌, nat_le, ◌&&◌, Bool, true, false, if◌then◌else◌, length}
use Rattle.std.specs.Prelude.{Option, None, Some}
use Rattle.quality_bits.specs.declared.rate.Rate.{Rate}
use Rattle.cell_plan.specs.declared.traffic_frame.RateSet.{RateSet}
use Rattle.cell_plan.specs.declared.traffic_frame.RateSet.TheVariants.{One, Two}
use Rattle.cell_script.specs.declared.stage.Stage.{Stage}
use Rattle.cell_script.specs.declared.stage.Stage.TheVariants.{Cell, Link, Pilot, Sync, Paging}
use Rattle.cell_script.specs.declared.stage.Stage.TheVariants.{FirstPage, Pages, Traffic, Frames}
use Rattle.cell_script.specs.declared.stage.Stage.TheVariants.{FirstFrame}
use Rattle.cell_plan.specs.Pages.{half_frame_bits, laid_after}
use Rattle.cell_script.specs.declared.statements.Statement.TheVariants as statements

-- ---- pages (TIA/EIA-95-B, 7.7.2.1)

-- the number of body bits of a cycle after another page, whose capsule has 8 bits of length and a
-- check of 30 bits
abbrev pub count_after : Rate → ℕ → Page → ℕ
count_after rate count page =
    laid_after (half_frame_body rate) count page.follows (38 + length page.body)

-- A capsule may follow another one at once if at least 8 body bits of the half-frame are left.
abbrev pub may_follow : Rate → ℕ → Bool → Bool
may_follow rate count follows =
    if follows then nat_le 8 (bits_left (half_frame_body rate) count) else true

-- whether a cycle of `count` body bits is not too long
abbrev pub is_cycle : Rate → ℕ → Bool
is_cycle rate count = nat_le (half_frame_bits (half_frame_body rate) count) 8192

unfoldable pub page_stage : Rate → ℕ → Page → Option Stage
page_stage rate count page =
    if may_follow rate count page.follows && is_cycle rate (count_after rate count page)
    then Some (Pages rate (count_after rate count page)) else None

-- ---- what may stand after each kind of statement

abbrev pub after_cell : Stage → Option Stage
after_cell Cell = Some Link
after_cell _ = None

abbrev pub after_link : Stage → Option Stage
after_link Link = Some Pilot
after_link _ = None

abbrev pub after_pilot : Stage → Option Stage
after_pilot Pilot = Some Sync
after_pilot _ = None

-- traffic channels, preceded by paging channels if PRAT is 0 or 1: 9600 or 4800 bits per second
-- (7.7.1.3)
abbrev pub stage_after_sync : SyncPlan → Stage
stage_after_sync sync =
    if sync.message.prat == 0 then Paging R9600
    else (if sync.message.prat == 1 then Paging R4800 else Traffic)

abbrev pub after_sync : Stage → SyncPlan → Option Stage
after_sync Sync sync = Some (stage_after_sync sync)
after_sync _ sync = None

abbrev pub after_paging : Stage → Option Stage
after_paging (Paging rate) = Some (FirstPage rate)
after_paging (Pages rate count) = Some (FirstPage rate)
after_paging _ = None

abbrev pub after_page : Stage → Page → Option Stage
after_page (FirstPage rate) page = page_stage rate 0 page
after_page (Pages rate count) page = page_stage rate count page
after_page _ page = None

abbrev pub after_traffic : Stage → Option Stage
after_traffic (Paging rate) = Some FirstFrame
after_traffic (Pages rate count) = Some FirstFrame
after_traffic Traffic = Some FirstFrame
after_traffic (Frames set) = Some FirstFrame
after_traffic _ = None

-- the frames of a channel are all of one rate set
abbrev pub frames_stage : RateSet → FrameRate → Option Stage
frames_stage One (SetOne rate) = Some (Frames One)
frames_stage Two (SetTwo rate) = Some (Frames Two)
frames_stage set rate = None

abbrev pub after_frame : Stage → FrameRate → Option Stage
after_frame FirstFrame rate = Some (Frames (rate_set rate))
after_frame (Frames set) rate = frames_stage set rate
after_frame _ rate = None

-- what may come after a statement; None if the statement is misplaced
abbrev pub next_stage : Stage → Statement → Option Stage
next_stage stage (statements.Cell cell) = after_cell stage
next_stage stage (statements.Link link) = after_link stage
next_stage stage (statements.Pilot pilot) = after_pilot stage
next_stage stage (statements.Sync sync) = after_sync stage sync
next_stage stage (statements.Paging line) = after_paging stage
next_stage stage (statements.Page page) = after_page stage page
next_stage stage (statements.Traffic line) = after_traffic stage
next_stage stage (statements.Frame frame) = after_frame stage frame.rate

-- whether a script may end
abbrev pub is_complete : Stage → Bool
is_complete Cell = false
is_complete Link = false
is_complete Pilot = false
is_complete Sync = true
is_complete (Paging rate) = true
is_complete (FirstPage rate) = false
is_complete (Pages rate count) = true
is_complete Traffic = true
is_complete FirstFrame = false
is_complete (Frames set) = true

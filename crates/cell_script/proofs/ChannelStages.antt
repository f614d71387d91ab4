-- The channels of a plan at each stage of its script, and the statements that make them.
use Rattle.cell_script.proofs.Common.{◌≡◌, ℕ, ◌+◌, ◌<◌, ◌≤◌, Bool, true, false, cond, List, [], ◌∷◌, ◌++◌, length, refl, sym, ap, subst}
use Rattle.cell_script.proofs.Common.{◌∙◌, arith, None, Some, ◌==◌, All, and_parts, cond-true, cond-false, eqb-true, leb-true, All-nil, M30}
use Rattle.cell_script.proofs.Common.{All-push, cond_some, same_Some, norm, FillsCapsule, Rate, R9600, R4800, HasMessage, bits_left, Page}
use Rattle.cell_script.proofs.Common.{half_frame_body, half_frame_bits, laid_after, sent_paging_rate, AreSendable, CellPlan, PagingPlan}
use Rattle.cell_script.proofs.Common.{SyncPlan, Stage, Cell, Link, Pilot, Sync, Paging, FirstPage, Pages, Traffic, FirstFrame, Frames, One}
use Rattle.cell_script.proofs.Common.{TrafficPlan, TrafficFrame, PagingLine, TrafficLine, Statement, empty_plan, opened_paging, on_last}
use Rattle.cell_script.proofs.Common.{opened_traffic, with_page, with_statement, with_frame, one_frame_more, one_page_more, rate_set, Two}
use Rattle.cell_script.proofs.Common.{FrameRate, SetOne, SetTwo, RateSet, IsTrafficFrame, IsInOrder, AreHeard, HasSaid, IsStatedCell}
use Rattle.cell_script.proofs.Common.{IsStatedLink, IsStatedPaging, IsStatedSync, IsStatedTraffic, IsLawfulStatement, after_frame, is_cycle}
use Rattle.cell_script.proofs.Common.{after_page, after_paging, after_traffic, stage_after_sync, count_after, may_follow, next_stage}
use Rattle.cell_script.proofs.Common.{page_stage, is_complete, statements_of, length-append, cond_both}
use Rattle.cell_script.proofs.LastChanged.{on_last-last}
use Rattle.cell_script.specs.declared.statements.Statement.TheVariants as statements

-- ---- pages of a cycle

-- the body bits of a cycle after these pages
abbrev pub count_of : ℕ → ℕ → List Page → ℕ
count_of size count [] = count
count_of size count (page ∷ pages) = count_of size (laid_after size count page.follows (38 + length page.body)) pages

count_of-append : (size count : ℕ) (pages : List Page) (page : Page) → count_of size count (pages ++ page ∷ [])
    ≡ laid_after size (count_of size count pages) page.follows (38 + length page.body)
count_of-append size count [] page = refl
count_of-append size count (p ∷ pages) page =
    count_of-append size (laid_after size count p.follows (38 + length p.body)) pages page

sendable-append : (size count : ℕ) (pages : List Page) (page : Page) →
    AreSendable size count pages → FillsCapsule M30 page.body → half_frame_bits size
    (laid_after size (count_of size count pages) page.follows (38 + length page.body)) ≤ 8192 →
    AreSendable size count (pages ++ page ∷ [])
sendable-append size count [] page are fills few = (fills, few, tt)
sendable-append size count (p ∷ pages) page are fills few = (
  are.0,
  are.1,
  sendable-append size (laid_after size count p.follows (38 + length p.body)) pages page are.2
      fills few,
)

heard-append : (size count : ℕ) (pages : List Page) (page : Page) → AreHeard size count pages →
    HasMessage page.body → (page.follows ≡ true → 8 ≤ bits_left size (count_of size count pages)) →
    AreHeard size count (pages ++ page ∷ [])
heard-append size count [] page are is room = (is, room, tt)
heard-append size count (p ∷ pages) page are is room = (
  are.0,
  are.1,
  heard-append size (laid_after size count p.follows (38 + length p.body)) pages page are.2 is
      room,
)

-- ---- the channels at a stage

-- the last channel is under way: its pages have `count` body bits
pub record IsChannelOpen (rate : Rate) (count : ℕ) (plan : CellPlan) : Type 0 where
  pub rate_is : sent_paging_rate plan.sync ≡ rate
  pub before : List PagingPlan
  pub last : PagingPlan
  pub channels : plan.paging ≡ before ++ last ∷ []
  pub bare : plan.traffic ≡ []
  pub stated : All (IsStatedPaging rate) before
  pub number : (1 ≤ last.number) × (last.number ≤ 7)
  pub pages : AreSendable (half_frame_body rate) 0 last.pages
  pub heard : AreHeard (half_frame_body rate) 0 last.pages
  pub laid : count ≡ count_of (half_frame_body rate) 0 last.pages

abbrev pub HasPages : Rate → ℕ → CellPlan → Type 0
HasPages rate count plan = (o : IsChannelOpen rate count plan) × (1 ≤ length o.last.pages)

-- the last traffic channel is under way
pub record IsOpenTraffic (plan : CellPlan) : Type 0 where
  pub paging : All (IsStatedPaging (sent_paging_rate plan.sync)) plan.paging
  pub before : List TrafficPlan
  pub last : TrafficPlan
  pub channels : plan.traffic ≡ before ++ last ∷ []
  pub stated : All IsStatedTraffic before
  pub bounds : (last.row ≤ 63) × (last.offset ≤ 15)
  pub frames : All IsTrafficFrame last.frames

abbrev pub HasFrames : CellPlan → Type 0
HasFrames plan = (o : IsOpenTraffic plan) × (1 ≤ length o.last.frames)

-- no paging channel and no traffic channel
abbrev pub IsBare : CellPlan → Type 0
IsBare plan = (plan.paging ≡ []) × (plan.traffic ≡ [])

abbrev pub HasChannels : Stage → CellPlan → Type 0
HasChannels (Paging rate) plan = IsBare plan × (sent_paging_rate plan.sync ≡ rate)
HasChannels (FirstPage rate) plan = IsChannelOpen rate 0 plan
HasChannels (Pages rate count) plan = HasPages rate count plan
HasChannels Traffic plan = IsBare plan
HasChannels FirstFrame plan = IsOpenTraffic plan
HasChannels (Frames set) plan = HasFrames plan
HasChannels stage plan = IsBare plan × (plan.sync ≡ None)

-- the statements that lead to a stage
abbrev pub said_at : Stage → CellPlan → List Statement
said_at Cell plan = []
said_at Link plan = statements.Cell plan.cell ∷ []
said_at Pilot plan = statements.Cell plan.cell ∷ (statements.Link plan.link ∷ [])
said_at stage plan = statements_of plan

-- where a script may end, they are all those of the plan
pub said_whole : (stage : Stage) (plan : CellPlan) → is_complete stage ≡ true → said_at stage plan ≡ statements_of plan
said_whole Cell plan e = absurd (cc e)
said_whole Link plan e = absurd (cc e)
said_whole Pilot plan e = absurd (cc e)
said_whole stage plan e = refl

-- ---- whole channels

-- the channel that was under way is one of them
closed : (rate : Rate) (count : ℕ) (plan : CellPlan) → HasPages rate count plan → All (IsStatedPaging rate) plan.paging
closed rate count plan has =
    let o = has.0 in
    let last : IsStatedPaging rate o.last =
    record { first = o.number.0; last = o.number.1; some = has.1; pages = o.pages; heard = o.heard } in
    subst (All (IsStatedPaging rate)) (sym o.channels) (All-push (IsStatedPaging rate) o.before o.last o.stated last)

no_channels : (rate : Rate) (plan : CellPlan) → plan.paging ≡ [] → All (IsStatedPaging rate) plan.paging
no_channels rate plan none = subst (All (IsStatedPaging rate)) (sym none) (All-nil (IsStatedPaging rate))

no_traffic : (plan : CellPlan) → plan.traffic ≡ [] → All IsStatedTraffic plan.traffic
no_traffic plan none = subst (All IsStatedTraffic) (sym none) (All-nil IsStatedTraffic)

-- the traffic channel that was under way is one of them
traffic_closed : (plan : CellPlan) → HasFrames plan → All IsStatedTraffic plan.traffic
traffic_closed plan has =
    let o = has.0 in
    let last : IsStatedTraffic o.last =
    record { last = o.bounds.0; latest = o.bounds.1; some = has.1; sized = o.frames } in
    subst (All IsStatedTraffic) (sym o.channels) (All-push IsStatedTraffic o.before o.last o.stated last)

-- all channels of a plan are whole
abbrev pub AreClosed : CellPlan → Type 0
AreClosed plan = All (IsStatedPaging (sent_paging_rate plan.sync)) plan.paging × All IsStatedTraffic plan.traffic

bare_whole : (plan : CellPlan) → IsBare plan → AreClosed plan
bare_whole plan bare = (no_channels (sent_paging_rate plan.sync) plan bare.0, no_traffic plan bare.1)

-- they are where a script may end
pub whole_at : (stage : Stage) (plan : CellPlan) → HasChannels stage plan → is_complete stage ≡ true → AreClosed plan
whole_at Sync plan has e = bare_whole plan has.0
whole_at (Paging rate) plan has e = bare_whole plan has.0
whole_at (Pages rate count) plan has e = (
  subst (λ (r : Rate). All (IsStatedPaging r) plan.paging) (sym has.0.rate_is)
      (closed rate count plan has),
  no_traffic plan has.0.bare,
)
whole_at Traffic plan has e = bare_whole plan has
whole_at (Frames set) plan has e = (has.0.paging, traffic_closed plan has)
whole_at stage plan has e = absurd (cc e)

-- ---- what may stand next

-- a paging channel stands after whole ones, and before the traffic channels
pub paging_next : (stage next : Stage) (plan : CellPlan) → HasChannels stage plan → after_paging stage ≡ Some next →
    (plan.traffic ≡ []) × (is_complete stage ≡ true) × (Some (FirstPage (sent_paging_rate plan.sync)) ≡ Some next)
paging_next (Paging rate) next plan has e = (has.0.1, refl, ap (λ (r : Rate). Some (FirstPage r)) has.1 ∙ e)
paging_next (Pages rate count) next plan has e =
    (has.0.bare, refl, ap (λ (r : Rate). Some (FirstPage r)) has.0.rate_is ∙ e)
paging_next stage next plan has e = absurd (cc e)

-- a page stands in a channel under way
pub page_next : (stage next : Stage) (plan : CellPlan) (page : Page) → HasChannels stage plan →
    after_page stage page ≡ Some next → (rate : Rate) × (count : ℕ) × IsChannelOpen rate count plan
    × (page_stage rate count page ≡ Some next) × (said_at stage plan ≡ statements_of plan)
page_next (FirstPage rate) next plan page has e = (rate, 0, has, e, refl)
page_next (Pages rate count) next plan page has e = (rate, count, has.0, e, refl)
page_next stage next plan page has e = absurd (cc e)

-- a traffic channel stands after whole ones
pub traffic_next : (stage next : Stage) → after_traffic stage ≡ Some next →
    (is_complete stage ≡ true) × (Some FirstFrame ≡ Some next)
traffic_next (Paging rate) next e = (refl, e)
traffic_next (Pages rate count) next e = (refl, e)
traffic_next Traffic next e = (refl, e)
traffic_next (Frames set) next e = (refl, e)
traffic_next stage next e = absurd (cc e)

-- a frame stands in a traffic channel under way
pub frame_next : (stage next : Stage) (plan : CellPlan) (rate : FrameRate) →
    HasChannels stage plan → after_frame stage rate ≡ Some next →
    (set : RateSet) × IsOpenTraffic plan × (Some (Frames set) ≡ Some next) × (said_at stage plan ≡ statements_of plan)
frame_next FirstFrame next plan rate has e = (rate_set rate, has, e, refl)
frame_next (Frames One) next plan (SetOne rate) has e = (One, has.0, e, refl)
frame_next (Frames Two) next plan (SetTwo rate) has e = (Two, has.0, e, refl)
frame_next stage next plan rate has e = absurd (cc e)

-- ---- one statement more

-- the stage that may come next is the one that comes
next_has : (stage next : Stage) (plan : CellPlan) → Some stage ≡ Some next →
    HasChannels stage plan → HasChannels next plan
next_has stage next plan e has = subst (λ (s : Stage). HasChannels s plan) (same_Some stage next e) has

-- PRAT tells the stage after a sync channel, and the rate of the paging channels
sync_channels : (plan : CellPlan) (sync : SyncPlan) → IsBare plan →
    HasChannels (stage_after_sync sync) (record plan { sync = Some sync })
sync_channels plan sync none =
    let prat = sync.message.prat in
    let now = λ (s : Stage). HasChannels s (record plan { sync = Some sync }) in
    cond_both (prat == 0) (Paging R9600) (cond (prat == 1) (Paging R4800) Traffic) now
    (λ full. (none, cond-false _ R4800 R9600 (ap (λ (n : ℕ). n == 1) (eqb-true prat 0 full))))
    (λ other. cond_both (prat == 1) (Paging R4800) Traffic now
    (λ one. (none, cond-true _ R4800 R9600 one)) (λ more. none))

abbrev pub with_channel : CellPlan → PagingLine → CellPlan
with_channel plan line = record plan { paging = plan.paging ++ opened_paging line ∷ [] }

-- a channel is opened after others
opened_after : (plan : CellPlan) (line : PagingLine) → (1 ≤ line.number) × (line.number ≤ 7) →
    plan.traffic ≡ [] → All (IsStatedPaging (sent_paging_rate plan.sync)) plan.paging →
    IsChannelOpen (sent_paging_rate plan.sync) 0 (with_channel plan line)
opened_after plan line number bare are = record {
  rate_is = refl;
  before = plan.paging;
  last = opened_paging line;
  channels = refl;
  bare = bare;
  stated = are;
  number = number;
  pages = tt;
  heard = tt;
  laid = refl;
}

abbrev pub with_more : CellPlan → Page → CellPlan
with_more plan page = record plan { paging = with_page plan.paging page }

-- With one page more the channel under way is open with pages: the count before is that of its
-- pages' bits, so the page can be sent and heard after them, and the new count is that of all.
page_laid : (rate : Rate) (count : ℕ) (plan : CellPlan) (page : Page) →
    FillsCapsule M30 page.body × HasMessage page.body → IsChannelOpen rate count plan →
    (page.follows ≡ true → 8 ≤ bits_left (half_frame_body rate) count) →
    half_frame_bits (half_frame_body rate) (count_after rate count page) ≤ 8192 →
    HasPages rate (count_after rate count page) (with_more plan page)
page_laid rate count plan page is o room few =
    let size = half_frame_body rate in
    let pages = o.last.pages ++ page ∷ [] in
    let last : PagingPlan = record o.last { pages = pages } in
    let following : count_after rate count page
    ≡ laid_after size (count_of size 0 o.last.pages) page.follows (38 + length page.body) =
    ap (λ (n : ℕ). laid_after size n page.follows (38 + length page.body)) o.laid in
    let all : with_page plan.paging page ≡ o.before ++ last ∷ [] =
    ap (λ (ps : List PagingPlan). with_page ps page) o.channels
    ∙ on_last-last (one_page_more page) o.before o.last in
    let open_now : IsChannelOpen rate (count_after rate count page) (with_more plan page) = record {
      rate_is = o.rate_is;
      before = o.before;
      last = last;
      channels = all;
      bare = o.bare;
      stated = o.stated;
      number = o.number;
      pages = sendable-append size 0 o.last.pages page o.pages is.0
          (subst (λ (n : ℕ). half_frame_bits size n ≤ 8192) following few);
      heard = heard-append size 0 o.last.pages page o.heard is.1
          (λ follows. subst (λ (n : ℕ). 8 ≤ bits_left size n) o.laid (room follows));
      laid = following ∙ sym (count_of-append size 0 o.last.pages page);
    } in
    (open_now, omega (arith, length-append o.last.pages (page ∷ [])))

follow_room : (rate : Rate) (count : ℕ) (follows : Bool) → may_follow rate count follows ≡ true →
    follows ≡ true → 8 ≤ bits_left (half_frame_body rate) count
follow_room rate count true test same = leb-true 8 (bits_left (half_frame_body rate) count) test
follow_room rate count false test same = absurd (cc same)

-- A page that a script may have at this place leaves the channels as they have to be: the stage
-- after it exists only where a page that follows has the eight bits it needs in its half-frame and
-- where the cycle is of at most 8,192 bits.
page_taken : (rate : Rate) (count : ℕ) (next : Stage) (plan : CellPlan) (page : Page) →
    FillsCapsule M30 page.body × HasMessage page.body → IsChannelOpen rate count plan →
    page_stage rate count page ≡ Some next → HasChannels next (with_more plan page)
unfolding page_stage
page_taken rate count next plan page is o e =
    let following = count_after rate count page in
    let told = cond_some _ (Pages rate following) next e in
    let both = and_parts (may_follow rate count page.follows) (is_cycle rate following) told.0 in
    subst (λ (s : Stage). HasChannels s (with_more plan page)) told.1
    (page_laid rate count plan page is o (follow_room rate count page.follows both.0)
    (leb-true (half_frame_bits (half_frame_body rate) following) 8192 both.1))

abbrev pub with_traffic : CellPlan → TrafficLine → CellPlan
with_traffic plan line = record plan { traffic = plan.traffic ++ opened_traffic line ∷ [] }

abbrev IsRowed : TrafficLine → Type 0
IsRowed line = (line.row ≤ 63) × (line.offset ≤ 15)

-- a traffic channel is opened after others
traffic_after : (plan : CellPlan) (line : TrafficLine) → IsRowed line →
    All (IsStatedPaging (sent_paging_rate plan.sync)) plan.paging → All IsStatedTraffic plan.traffic →
    IsOpenTraffic (with_traffic plan line)
traffic_after plan line bounds paging are = record {
  paging = paging;
  before = plan.traffic;
  last = opened_traffic line;
  channels = refl;
  stated = are;
  bounds = bounds;
  frames = All-nil IsTrafficFrame;
}

abbrev pub with_sent : CellPlan → TrafficFrame → CellPlan
with_sent plan frame = record plan { traffic = with_frame plan.traffic frame }

-- the traffic channel under way has one frame more
frame_sent : (plan : CellPlan) (frame : TrafficFrame) → IsTrafficFrame frame →
    IsOpenTraffic plan → HasFrames (with_sent plan frame)
frame_sent plan frame is o =
    let change = one_frame_more frame in
    let frames = o.last.frames in
    let open_now : IsOpenTraffic (with_sent plan frame) = record {
      paging = o.paging;
      before = o.before;
      last = change o.last;
      channels = ap (on_last change) o.channels ∙ on_last-last change o.before o.last;
      stated = o.stated;
      bounds = o.bounds;
      frames = All-push IsTrafficFrame frames frame o.frames is;
    } in
    (open_now, omega (arith, length-append frames (frame ∷ [])))

channels_with : (statement : Statement) (stage next : Stage) (plan : CellPlan) →
    IsLawfulStatement statement → HasChannels stage plan → next_stage stage statement ≡ Some next →
    HasChannels next (with_statement plan statement)
channels_with (statements.Cell cell) Cell next plan is has e = next_has Link next (record plan { cell = cell }) e has
channels_with (statements.Link link) Link next plan is has e = next_has Pilot next (record plan { link = link }) e has
channels_with (statements.Pilot pilot) Pilot next plan is has e =
    next_has Sync next (record plan { pilot = pilot }) e has
channels_with (statements.Sync sync) Sync next plan is has e =
    next_has (stage_after_sync sync) next (record plan { sync = Some sync }) e (sync_channels plan sync has.0)
channels_with (statements.Paging line) stage next plan is has e =
    let told = paging_next stage next plan has e in
    next_has (FirstPage (sent_paging_rate plan.sync)) next (with_channel plan line) told.2
    (opened_after plan line is told.0 (whole_at stage plan has told.1).0)
channels_with (statements.Page page) stage next plan is has e =
    let told = page_next stage next plan page has e in
    page_taken told.0 told.1 next plan page is told.2 told.3
channels_with (statements.Traffic line) stage next plan is has e =
    let told = traffic_next stage next e in
    let whole = whole_at stage plan has told.0 in
    next_has FirstFrame next (with_traffic plan line) told.1 (traffic_after plan line is whole.0 whole.1)
channels_with (statements.Frame frame) stage next plan is has e =
    let told = frame_next stage next plan frame.rate has e in
    next_has (Frames told.0) next (with_sent plan frame) told.2 (frame_sent plan frame is told.1)
channels_with statement stage next plan is has e = absurd (cc e)

-- ---- what was said at a stage

pub record HasParts (plan : CellPlan) : Type 0 where
  pub cell : IsStatedCell plan.cell
  pub link : IsStatedLink plan.link
  pub sync : IsStatedSync plan.sync
  pub linked : 0 < norm plan.link.factor

pub record IsAtStage (stage : Stage) (plan : CellPlan) : Type 0 where
  pub parts : HasParts plan
  pub channels : HasChannels stage plan

parts_with : (plan : CellPlan) (statement : Statement) → IsLawfulStatement statement → HasParts plan →
    HasParts (with_statement plan statement)
parts_with plan (statements.Cell cell) is parts =
    record { cell = is; link = parts.link; sync = parts.sync; linked = parts.linked }
parts_with plan (statements.Link link) is parts =
    record { cell = parts.cell; link = is.0; sync = parts.sync; linked = is.1 }
parts_with plan (statements.Sync sync) is parts =
    record { cell = parts.cell; link = parts.link; sync = is; linked = parts.linked }
parts_with plan statement is parts =
    record { cell = parts.cell; link = parts.link; sync = parts.sync; linked = parts.linked }

-- a statement adds what is within its bounds to a plan that is
pub added : (stage next : Stage) (plan : CellPlan) (statement : Statement) → IsLawfulStatement statement →
    IsAtStage stage plan → next_stage stage statement ≡ Some next → IsAtStage next (with_statement plan statement)
added stage next plan statement is before e = record {
  parts = parts_with plan statement is before.parts;
  channels = channels_with statement stage next plan is before.channels e;
}

-- a statement that may stand next stands after those whose channels come first
pub in_order : (stage next : Stage) (plan : CellPlan) (statement : Statement) → IsAtStage stage plan →
    next_stage stage statement ≡ Some next → IsInOrder plan statement
in_order stage next plan (statements.Paging line) before e = (paging_next stage next plan before.channels e).0
in_order stage next plan statement before e = tt

pub empty_said : IsAtStage Cell empty_plan
empty_said = record {
  parts = record {
    cell = record { pn = omega arith; time = omega arith; lc = (omega arith, omega arith) };
    link = record { in_phase = omega arith; quadrature = omega arith; start = omega arith };
    sync = tt;
    linked = omega arith;
  };
  channels = ((refl, refl), refl);
}

-- what was said where a script may end is within its bounds
pub all_said : (stage : Stage) (plan : CellPlan) → IsAtStage stage plan → is_complete stage ≡ true → HasSaid plan
all_said stage plan is complete =
    let whole = whole_at stage plan is.channels complete in
    record {
      lawful = record {
        cell = is.parts.cell;
        link = is.parts.link;
        sync = is.parts.sync;
        paging = whole.0;
        traffic = whole.1;
      };
      linked = is.parts.linked;
    }

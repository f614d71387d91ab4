-- The pages that a cell sends whole on its paging channels, each with the number of samples at
-- which it is known, and the capsules that frames complete.
use Rattle.clean_frames.specs.Common.{half_frame_capsule_ending, paging_frame_size, half_frame_body}
use Rattle.clean_frames.specs.Common.{data_frame_chips, sent_paging_rate, PagingMessage, message_at}
use Rattle.clean_frames.specs.Common.{AreSendable, PagingPlan, page_cycle, number_at, CheckForm}
use Rattle.clean_frames.specs.Common.{CellPlan, AreHeard, capsule, places, cycled, Rate, Page, M30}
use Rattle.std.specs.Prelude.{ℕ, ◌+◌, ◌-◌, ◌*◌, ◌/◌, ◌≤◌, ◌≡◌, ◌==◌, Bool, if◌then◌else◌, List, []}
use Rattle.std.specs.Prelude.{◌∷◌, map, filter, drop, ◌&&◌, ◌++◌, length, take, nat_le, nat_lt}
use Rattle.std.specs.List.{flat_map}
use Rattle.std.specs.Option.{option_to_list}
use Rattle.clean_frames.specs.WholeSendings.{heard_after}

-- ---- what frames complete

-- the capsules that the bits of frame k complete, after those of the frames before it
abbrev pub frame_capsules : ℕ → (ℕ → List Bool) → ℕ → List (List Bool)
frame_capsules size own k =
    flat_map
    (λ i. option_to_list
    (half_frame_capsule_ending size (flat_map own (places k) ++ take (i + 1) (own k))))
    (places (length (own k)))

-- the capsules that n frames complete, each with the number of its frame
abbrev pub capsules_with_frames : ℕ → (ℕ → List Bool) → ℕ → List (ℕ × List Bool)
capsules_with_frames size own n =
    flat_map (λ k. map (λ (c : List Bool). (k, c)) (frame_capsules size own k)) (places n)

-- ---- what is sent

-- one or more pages that a channel can send and a handset can read; the first follows no other
pub record AreWholePages (rate : Rate) (pages : List Page) : Type 0 where
  pub some : 1 ≤ length pages
  pub sendable : AreSendable (half_frame_body rate) 0 pages
  pub heard : AreHeard (half_frame_body rate) 0 pages

-- A run is a page that begins with a half-frame, and those that follow it. The position of a page
-- in its cycle: the half-frame in which its run begins, and that of its last bit.
pub record Placed : Type 0 where
  pub run : ℕ
  pub last : ℕ
  pub page : Page

-- the positions of the pages after `at` body bits, if the current run began in half-frame `run`
abbrev pub placed : ℕ → CheckForm → ℕ → ℕ → List Page → List Placed
placed size form at run [] = []
placed size form at run (page ∷ pages) =
    let begins = if page.follows then at else (at + size - 1) / size * size in
    let began = if page.follows then run else begins / size in
    let ends = begins + length (capsule M30 form page.body) in
    record { run = began; last = (ends - 1) / size; page = page } ∷
    placed size form ends began pages

-- the number of half-frames in a cycle
abbrev pub cycle_half_frames : Rate → CheckForm → List Page → ℕ
cycle_half_frames rate form pages = length (page_cycle rate form pages) / (half_frame_body rate + 1)

-- whether the transmission of a page `half_frames` half-frames after its first one begins its run
-- in half-frame `low` or later and ends before half-frame `high`
abbrev pub is_between : ℕ → ℕ → ℕ → Placed → Bool
is_between low high half_frames p =
    nat_le low (half_frames + p.run) && nat_lt (half_frames + p.last) high

-- a transmission of a page: the frame in which it ends, counted from frame `first`, and its capsule
abbrev pub sending_of : CheckForm → ℕ → ℕ → Placed → ℕ × List Bool
sending_of form first half_frames p =
    ((half_frames + p.last) / 2 - first, capsule M30 form p.page.body)

-- The transmissions of the pages in `rounds` rounds of the cycle whose runs, up to the page's last
-- bit, lie in the n frames from frame `first` on.
abbrev pub sendings_between : Rate → CheckForm → List Page → ℕ → ℕ → ℕ → List (ℕ × List Bool)
sendings_between rate form pages first n rounds =
    let cycle = cycle_half_frames rate form pages in
    flat_map
    (λ r. map (sending_of form first (cycle * r))
    (filter (is_between (2 * first) (2 * (first + n)) (cycle * r))
    (placed (half_frame_body rate) form 0 0 pages)))
    (places rounds)

-- ---- in a file

-- whether the transmission of a page `half_frames` half-frames after its first one begins its run
-- at the mark or later and ends in a frame that the file holds whole; mark and end are local chips
abbrev pub is_whole_page : ℕ → ℕ → ℕ → Placed → Bool
is_whole_page mark_chip end_chip half_frames p =
    nat_le mark_chip (12288 * (half_frames + p.run)) &&
    nat_le (data_frame_chips * ((half_frames + p.last) / 2 + 1)) end_chip

-- the whole transmissions of the pages, if the mark is the first chip of frame `first`
abbrev pub whole_page_sendings : Rate → CheckForm → List Page → ℕ → ℕ → List (ℕ × List Bool)
whole_page_sendings rate form pages first end_chip =
    let cycle = cycle_half_frames rate form pages in
    flat_map
    (λ r. map (sending_of form first (cycle * r))
    (filter (is_whole_page (data_frame_chips * first) end_chip (cycle * r))
    (placed (half_frame_body rate) form 0 0 pages)))
    (places (end_chip / 12288 + 1))

-- ---- what is read from half-frames

-- From any frame on, the frames complete exactly the capsules of the pages whose run begins there
-- or later, once for each round of the cycle, in order, each in the frame of its last bit.
abbrev pub PageSendingsComeBack : Type 0
PageSendingsComeBack = (rate : Rate) (form : CheckForm) (pages : List Page) (first n rounds : ℕ) →
    AreWholePages rate pages → 2 * (first + n) ≤ cycle_half_frames rate form pages * rounds →
    capsules_with_frames (half_frame_body rate)
    (λ k. cycled (page_cycle rate form pages) (paging_frame_size rate) (first + k)) n
    ≡ sendings_between rate form pages first n rounds

-- So the frames from a mark to a file's end, local chip `end_chip`, complete the capsules of the
-- whole transmissions.
abbrev pub WholePagesComeBack : Type 0
WholePagesComeBack = (rate : Rate) (form : CheckForm) (pages : List Page) (first end_chip : ℕ) →
    AreWholePages rate pages →
    capsules_with_frames (half_frame_body rate)
    (λ k. cycled (page_cycle rate form pages) (paging_frame_size rate) (first + k))
    (end_chip / data_frame_chips - first)
    ≡ whole_page_sendings rate form pages first end_chip

-- a page, and the number of samples at which it is known
pub record KnownPage : Type 0 where
  pub at : ℕ
  pub capsule : List Bool
  pub message : PagingMessage

-- ---- the pages of a channel

-- the message that a body spells, if it spells one
abbrev pub message_in : List Bool → PagingMessage
message_in body = message_at (number_at 0 8 body) (drop 8 body)

-- the event for the transmission of a page `half_frames` half-frames after its first one, when the
-- handset knows the frame of its last bit
abbrev pub page_told : CellPlan → ℕ → Placed → KnownPage
page_told plan half_frames p = record {
  at = heard_after data_frame_chips plan.link.samples
      (data_frame_chips * ((half_frames + p.last) / 2 + 1) - plan.link.start);
  capsule = capsule M30 plan.cell.check30 p.page.body;
  message = message_in p.page.body;
}

-- the positions of a channel's pages in its cycle
abbrev pub placed_pages : CellPlan → PagingPlan → List Placed
placed_pages plan p =
    placed (half_frame_body (sent_paging_rate plan.sync)) plan.cell.check30 0 0 p.pages

-- the local chip after the file's last one
abbrev pub end_chip : CellPlan → ℕ
end_chip plan = plan.link.start + plan.link.samples

-- the pages that round r of the cycle sends whole, if the mark is at local chip `mark_chip`
abbrev pub round_sent : CellPlan → PagingPlan → ℕ → ℕ → List KnownPage
round_sent plan p mark_chip r =
    let before = cycle_half_frames (sent_paging_rate plan.sync) plan.cell.check30 p.pages * r in
    map (page_told plan before)
    (filter (is_whole_page mark_chip (end_chip plan) before) (placed_pages plan p))

-- the pages of all rounds that begin in the file, in order
abbrev pub pages_of_channel : CellPlan → PagingPlan → ℕ → List KnownPage
pages_of_channel plan p mark_chip =
    flat_map (round_sent plan p mark_chip) (places (end_chip plan / 12288 + 1))

-- the pages of the first channel whose number is `channel`
abbrev pub pages_numbered : CellPlan → List PagingPlan → ℕ → ℕ → List KnownPage
pages_numbered plan [] channel mark_chip = []
pages_numbered plan (p ∷ paging) channel mark_chip =
    if p.number == channel then pages_of_channel plan p mark_chip
    else pages_numbered plan paging channel mark_chip

-- the whole pages of a paging channel of the cell, if the mark is at local chip `mark_chip`
unfoldable pub pages_sent : CellPlan → ℕ → ℕ → List KnownPage
pages_sent plan channel mark_chip = pages_numbered plan plan.paging channel mark_chip

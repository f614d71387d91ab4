-- Pages, and the half-frames in which a paging channel sends them (TIA/EIA-95-B, 7.7.2.1).
use Rattle.cell_plan.specs.Common.{CheckForm, capsule, FillsCapsule, M30, Rate, half_frame_body}
use Rattle.cell_plan.specs.Common.{Page, SyncPlan}
use Rattle.std.specs.Prelude.{ℕ, ◌+◌, ◌-◌, ◌/◌, ◌≤◌, ◌==◌, if◌then◌else◌, Bool, List, [], ◌∷◌, map}
use Rattle.std.specs.Prelude.{length, Option, None, Some}
use Rattle.quality_bits.specs.declared.rate.Rate.TheVariants.{R9600, R4800}
use Rattle.paging_message.specs.Laying.{fill, half_frames_of, laid_all, nothing_laid, Laid, Put}

-- the rate of a cell's paging channels: 4800 if its sync message has PRAT 1, otherwise 9600
-- (7.7.1.3)
abbrev pub sent_paging_rate : Option SyncPlan → Rate
sent_paging_rate None = R9600
sent_paging_rate (Some sync) = if sync.message.prat == 1 then R4800 else R9600

-- a page's capsule, and whether it follows the previous one immediately
abbrev pub put_of : CheckForm → Page → Put
put_of form page = record { follows = page.follows; capsule = capsule M30 form page.body }

-- the pages laid in half-frames of `size` body bits
abbrev pub laid_pages : ℕ → CheckForm → List Page → Laid
laid_pages size form pages = laid_all size nothing_laid (map (put_of form) pages)

-- the half-frames of pages, padded with zeros to whole ones
unfoldable pub page_cycle : Rate → CheckForm → List Page → List Bool
page_cycle rate form pages =
    half_frames_of (half_frame_body rate) (laid_pages (half_frame_body rate) form pages)

-- ---- the number of their bits

-- the number of body bits after a capsule of `bits` bits is laid after `count` body bits
abbrev pub laid_after : ℕ → ℕ → Bool → ℕ → ℕ
laid_after size count follows bits =
    if follows then count + bits else count + fill size count + bits

-- the number of bits of half-frames up to the last of `count` body bits, including SCI bits
abbrev pub half_frame_bits : ℕ → ℕ → ℕ
half_frame_bits size count = count + (count + size - 1) / size

-- Pages laid after `count` body bits: each fills a capsule, and the half-frames have at most 8,192
-- bits up to the end of the last capsule.
abbrev pub AreSendable : ℕ → ℕ → List Page → Type 0
AreSendable size count [] = Unit {0}
AreSendable size count (page ∷ pages) =
    let following = laid_after size count page.follows (38 + length page.body) in
    FillsCapsule M30 page.body × (half_frame_bits size following ≤ 8192)
    × AreSendable size following pages

-- The pages that a handset receives on a paging channel of a clean link, each with the number of
-- samples at which it is known.
use Rattle.clean_link.specs.Common.{places, Sample, Width, sent_paging_rate, IsFreeOf, made_samples}
use Rattle.clean_link.specs.Common.{IsStatedPaging, IsReceivable, CellPlan, SyncPlan, Tuning, Mark}
use Rattle.clean_link.specs.Common.{pages_if_marked, as_spelled_page}
use Rattle.std.specs.Prelude.{ℕ, ◌+◌, ◌<◌, ◌≤◌, ◌≡◌, All, List, [], map, None, Option, Some}
use Rattle.std.specs.List.{flat_map}
use Rattle.clean_link.specs.CleanLink.{IsOnPath, IsTrueMark}
use Rattle.clean_frames.specs.WholePages.{KnownPage, pages_sent}

-- the type of the value that an option may hold
abbrev pub type_within : {A : Type 0} → Option A → Type 0
type_within {A} given = A

-- a page as a handset reads it: a capsule, and the message that it spells
abbrev pub ReadPage : Type 0
ReadPage = type_within (as_spelled_page [] None)

-- that page, known at n samples
abbrev pub known_page : ℕ → ReadPage → KnownPage
known_page n page = record { at = n; capsule = page.capsule; message = page.message }

-- the pages of a channel after the mark, if one is set, that are known within the first n samples,
-- in order
abbrev pub pages_within : Tuning → ℕ → Option Mark → List Sample → ℕ → List KnownPage
pages_within t channel m samples n =
    flat_map (λ i. map (known_page i) (pages_if_marked t channel m samples i)) (places (n + 1))

-- ---- the law

-- If no traffic channel has a channel's row, a handset receives exactly the channel's whole pages
-- after its mark, in order, each when it knows the frame of its last bit.
abbrev pub PagesComeBack : Type 0
PagesComeBack = (width : Width) (plan : CellPlan) (sync : SyncPlan) (t : Tuning) (channel : ℕ)
    (m : Mark) (superframes : ℕ) →
    IsReceivable width plan → All (IsStatedPaging (sent_paging_rate plan.sync)) plan.paging →
    IsOnPath plan t → 1 ≤ channel → channel ≤ 7 → IsFreeOf plan.traffic channel →
    plan.sync ≡ Some sync → m.prat ≡ sync.message.prat → m.prat < 2 →
    IsTrueMark plan m superframes →
    pages_within t channel (Some m) (made_samples plan) plan.link.samples ≡
    pages_sent plan channel (plan.link.start + m.sample)

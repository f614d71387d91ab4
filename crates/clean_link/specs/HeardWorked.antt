-- Worked values of the whole pages of a clean link, and of a cycle of them, which the checker
-- computes.
use Rattle.clean_link.specs.Common.{binary, places, Plain, capsule, check_bits, fill, framed, Page}
use Rattle.clean_link.specs.Common.{half_frames_of, laid_on, number_at, page_cycle, CellPlan, M30}
use Rattle.clean_link.specs.Common.{R9600, cell_with}
use Rattle.std.specs.Prelude.{◌≡◌, ℕ, refl, Bool, true, false, List, [], ◌∷◌, ◌++◌, map, replicate}
use Rattle.std.specs.Prelude.{None}
use Rattle.clean_frames.specs.WholePages.{KnownPage, pages_sent, cycle_half_frames}
use Rattle.clean_frames.specs.WholePages.{sendings_between, whole_page_sendings}

-- a page whose capsule has nine octets, with this message type
page : Bool → ℕ → Page
page follows kind = record { follows = follows; body = binary 8 kind ++ replicate 26 false }

-- `samples` samples of a cell with paging channel 1, whose cycle has three half-frames: a run of
-- two pages lies in the first two, and a third page in the last
cell : ℕ → CellPlan
cell samples = cell_with 0 samples Plain None (record {
  number = 1;
  gain = 60;
  pages = page false 20 ∷ page true 21 ∷ page false 22 ∷ [];
} ∷ []) []

-- the numbers of samples at which the pages after superframe 8 are known, and their message types
heard : ℕ → ℕ → List (ℕ × ℕ)
heard samples channel =
    map (λ (known : KnownPage). (known.at, number_at 8 8 known.capsule))
    (pages_sent (cell samples) channel 786432)

-- The mark lies after the first half-frame of a round, so that round's run isn't whole. The file
-- ends three frames after the mark; if it is one sample shorter, the last frame isn't whole. There
-- are no pages if the mark lies after the file, or on a channel that isn't sent.
three_frames : (heard 860160 1 ≡
    (835584, 22) ∷ (860160, 20) ∷ (860160, 21) ∷ (860160, 22) ∷ (860160, 20) ∷ [])
    × (heard 860159 1 ≡ (835584, 22) ∷ (835584, 20) ∷ (835584, 21) ∷ [])
    × (heard 786431 1 ≡ []) × (heard 860160 2 ≡ [])
unfolding heard cell page pages_sent page_cycle half_frames_of framed laid_on fill
    capsule check_bits places binary
three_frames = (refl, refl, refl, refl)

-- ---- a cycle of pages

-- The second page follows the first: 48 and 56 bits in two half-frames. The third page begins a run
-- of its own in a third one.
pages : List Page
pages =
    record { follows = false; body = replicate 10 true } ∷
    record { follows = true; body = replicate 18 false } ∷
    record { follows = false; body = replicate 10 false } ∷ []

-- the capsules of the three
first : List Bool
first = capsule M30 Plain (replicate 10 true)

second : List Bool
second = capsule M30 Plain (replicate 18 false)

third : List Bool
third = capsule M30 Plain (replicate 10 false)

-- Frame 1 begins with half-frame 2: the third page ends there, and then the next round begins in
-- half-frame 3. In frame 2 by itself, the run that began in half-frame 3 isn't received. The file
-- ends with frame 2, or one chip before its end.
three_half_frames : (cycle_half_frames R9600 Plain pages ≡ 3)
    × (sendings_between R9600 Plain pages 1 2 3
    ≡ (0, third) ∷ (0, first) ∷ (1, second) ∷ (1, third) ∷ [])
    × (sendings_between R9600 Plain pages 2 1 3 ≡ (0, third) ∷ [])
    × (whole_page_sendings R9600 Plain pages 2 73728 ≡ (0, third) ∷ [])
    × (whole_page_sendings R9600 Plain pages 2 73727 ≡ [])
unfolding pages first second third page_cycle half_frames_of framed laid_on fill
    capsule check_bits places binary
three_half_frames = (refl, refl, refl, refl, refl)

-- Soft values with the signs that a cell sends, in a file of any origin, and a mark that is the
-- cell's.
use Rattle.clean_link.specs.Common.{CellPlan, PagingPlan, SyncPlan, TrafficPlan, Carrier, Data}
use Rattle.clean_link.specs.Common.{IsReceivable, Mark, Sample, softs, Tuning, Width, mark, symbols}
use Rattle.clean_link.specs.Common.{Form, HaveSigns, path_finger, IsFrameAt, IsFrameOf}
use Rattle.std.specs.Prelude.{◌≡◌, ℕ, ◌+◌, ◌*◌, List, [], ◌∷◌, length, pos, replicate, None, Option}
use Rattle.std.specs.Prelude.{Some}
use Rattle.cell_plan.specs.Signal.{sync_carrier, paging_carrier, traffic_carrier}
use Rattle.clean_link.specs.CleanLink.{IsOnPath, IsTrueMark}
use Rattle.rake_finger.specs.declared.form.Form.TheVariants.{Sync}

-- ---- soft values with the sent signs

-- If frame `frame` of a channel lies in the file, its soft values have the signs of the symbols
-- that the channel sends in it, and none is 0. They are the values that one finger on the cell's
-- path finds on the channel's row, not descrambled. A traffic frame's symbols are those that are
-- sent, including power control bits. Nothing else is required of the samples, so they may contain
-- any noise and any other channels, cells and paths.
abbrev pub FrameHasSigns : CellPlan → Carrier → Form → List Sample → ℕ → Type 0
FrameHasSigns plan c form samples frame = (u : ℕ) → IsFrameOf plan c form u frame →
    length (c.symbols frame) ≡ symbols form →
    HaveSigns (c.symbols frame) (softs samples (path_finger plan c.row ∷ []) form u)

-- each frame of the sync channel has the sent signs
abbrev pub SyncHasSigns : CellPlan → SyncPlan → List Sample → Type 0
SyncHasSigns plan sync samples =
    (frame : ℕ) → FrameHasSigns plan (sync_carrier plan sync) Sync samples frame

-- a paging channel's frames have 24,576 chips from local chip 0 on, so four make a superframe
abbrev pub PagingFrameHasSigns : CellPlan → PagingPlan → List Sample → ℕ → Type 0
PagingFrameHasSigns plan p samples = FrameHasSigns plan (paging_carrier plan p) Data samples

-- so do four of a traffic channel's frames
abbrev pub TrafficFrameHasSigns : CellPlan → TrafficPlan → List Sample → ℕ → Type 0
TrafficFrameHasSigns plan p samples = FrameHasSigns plan (traffic_carrier plan p) Data samples

-- A condition holds for each frame from the mark on, if one is set. The mark's place is counted in
-- superframes after local chip 0; each of them has four frames.
abbrev pub FromMark : (ℕ → Type 0) → Option ℕ → Type 0
FromMark Is at = (superframes k : ℕ) → at ≡ Some superframes → Is (4 * superframes + k)

-- ---- a file, whatever its origin

-- There are as many samples as a cell's link has, and the cell can be received. Each frame of its
-- sync channel has the sent signs. If the cell sends none, the soft values of the sync channel's
-- row are 0.
pub record HasSyncSigns (width : Width) (plan : CellPlan) (samples : List Sample) : Type 0 where
  pub receivable : IsReceivable width plan
  pub long : length samples ≡ plan.link.samples
  pub signs : (sync : SyncPlan) → plan.sync ≡ Some sync → SyncHasSigns plan sync samples
  pub silent : plan.sync ≡ None → (u : ℕ) → IsFrameAt plan Sync u →
      softs samples (path_finger plan 32 ∷ []) Sync u ≡ replicate 128 (pos 0)

-- A mark is the cell's: it is at the start of this superframe, its time and its long-code state are
-- the cell's there, and its PRAT is the sync message's.
pub record IsCellMark (plan : CellPlan) (m : Mark) (superframes : ℕ) : Type 0 where
  pub marked : IsTrueMark plan m superframes
  pub sync : SyncPlan
  pub sends : plan.sync ≡ Some sync
  pub rate : m.prat ≡ sync.message.prat

-- If a mark is set, it is the cell's, this many superframes after local chip 0.
abbrev pub MarkIsAt : CellPlan → Option Mark → Option ℕ → Type 0
MarkIsAt plan None at = at ≡ None
MarkIsAt plan (Some m) at =
    (superframes : ℕ) × (at ≡ Some superframes) × IsCellMark plan m superframes

-- The mark that these samples set for each handset on the cell's path is the cell's.
abbrev pub MarksAreAt : CellPlan → List Sample → Option ℕ → Type 0
MarksAreAt plan samples at =
    (t : Tuning) → IsOnPath plan t → MarkIsAt plan (mark t samples plan.link.samples) at

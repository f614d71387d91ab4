-- What comes back in a file of any origin, by the signs of its soft values: a frame's own bits on
-- any channel, then the sync channel, and paging channels after the cell's mark. Also the soft
-- values of a clean link, and that bounded noise keeps their signs.
use Rattle.clean_link.specs.Common.{places, signed, Width, made_samples, sync_frame_bits, CellPlan}
use Rattle.clean_link.specs.Common.{sync_symbols, SyncPlan, mark, frame_own_bits, frame_softs, Mark}
use Rattle.clean_link.specs.Common.{is_in_file, span_first, span_frames, sync_events_at, Tuning}
use Rattle.clean_link.specs.Common.{sync_stream, IsReceivable, Sample, cycle_frame_bits, cycle_of}
use Rattle.clean_link.specs.Common.{PagingPlan, paging_stream, Data, data_shape, sent, repeats_of}
use Rattle.clean_link.specs.Common.{Cycle, IsFreeOf, continued_symbols, Carrier, carriers, Stream}
use Rattle.clean_link.specs.Common.{IsOnlyBest, span_codeword, soft_strength, AreReadBy, IsHeardBy}
use Rattle.clean_link.specs.Common.{first_sync_frame, Bears, IsNear, Form}
use Rattle.std.specs.Prelude.{ℕ, ◌+◌, ◌<◌, ◌≡◌, true, false, nat_lt, length, replicate, pos, None}
use Rattle.std.specs.Prelude.{is_some, Some, List, ◌*◌, ◌≤◌, ◌≢◌, All, Bool}
use Rattle.std.specs.List.{flat_map, Contains}
use Rattle.rake_finger.specs.declared.form.Form.TheVariants.{Sync}
use Rattle.clean_link.specs.CleanLink.{IsOnPath, IsTrueMark, sync_sent}
use Rattle.clean_link.specs.SentSigns.{FrameHasSigns, HasSyncSigns, IsCellMark, PagingFrameHasSigns}
use Rattle.clean_frames.specs.WholePages.{pages_of_channel}
use Rattle.clean_link.specs.HeardPages.{pages_within}

-- ---- any channel

-- If a stream hears a channel and reads its bits, and each frame has the sent signs, the own bits
-- of each frame are those that the channel sends in it.
abbrev pub ChannelFramesComeBack : Type 0
ChannelFramesComeBack = (plan : CellPlan) (c : Carrier) (s : Stream) (bits_of : ℕ → List Bool)
    (base k : ℕ) (samples : List Sample) →
    IsHeardBy plan c s base → AreReadBy c s bits_of base →
    ((j : ℕ) → FrameHasSigns plan c s.form samples (base + j)) →
    is_in_file plan.link.samples s k ≡ true →
    frame_own_bits plan.link.samples samples s k ≡ bits_of (base + k)

-- ---- the sync channel

-- the soft values of a received sync frame are one positive number times the signs of the symbols
-- that were sent
abbrev pub HaveSentSigns : Type 0
HaveSentSigns = (width : Width) (plan : CellPlan) (sync : SyncPlan) (t : Tuning) (k : ℕ) →
    IsReceivable width plan → plan.sync ≡ Some sync → IsOnPath plan t →
    is_in_file t.count (sync_stream t) k ≡ true →
    (0 < soft_strength plan Sync sync.gain)
    × (frame_softs (made_samples plan) (sync_stream t) k ≡
    signed (soft_strength plan Sync sync.gain)
    (sync_symbols plan.cell sync.message (first_sync_frame plan + k)))

-- without a sync channel they are all 0
abbrev pub AreZeroWithoutSync : Type 0
AreZeroWithoutSync = (width : Width) (plan : CellPlan) (t : Tuning) (k : ℕ) →
    IsReceivable width plan → plan.sync ≡ None → IsOnPath plan t →
    is_in_file t.count (sync_stream t) k ≡ true →
    frame_softs (made_samples plan) (sync_stream t) k ≡ replicate 128 (pos 0)

-- If each frame has the sent signs, its own bits are the ones that were sent.
abbrev pub FramesComeBack : Type 0
FramesComeBack = (width : Width) (plan : CellPlan) (samples : List Sample) (sync : SyncPlan)
    (t : Tuning) (k : ℕ) → HasSyncSigns width plan samples → plan.sync ≡ Some sync →
    IsOnPath plan t → is_in_file t.count (sync_stream t) k ≡ true →
    frame_own_bits t.count samples (sync_stream t) k ≡
    sync_frame_bits plan.cell sync.message (first_sync_frame plan + k)

-- The codeword that was sent in the frame's span, with the bits before it, is the only one with the
-- greatest score.
abbrev pub SentCodewordsAreTheOnlyBest : Type 0
SentCodewordsAreTheOnlyBest = (width : Width) (plan : CellPlan) (samples : List Sample)
    (sync : SyncPlan) (t : Tuning) (k : ℕ) → HasSyncSigns width plan samples →
    plan.sync ≡ Some sync → IsOnPath plan t → is_in_file t.count (sync_stream t) k ≡ true →
    IsOnlyBest t.count samples (sync_stream t) k
    (span_codeword (sync_frame_bits plan.cell sync.message)
    (first_sync_frame plan + span_first t.count (sync_stream t) k)
    (span_frames t.count (sync_stream t) k))

-- without a sync channel a frame's bits are zeros
abbrev pub FramesAreZeros : Type 0
FramesAreZeros = (width : Width) (plan : CellPlan) (samples : List Sample) (t : Tuning) (k : ℕ) →
    HasSyncSigns width plan samples → plan.sync ≡ None → IsOnPath plan t →
    is_in_file t.count (sync_stream t) k ≡ true →
    frame_own_bits t.count samples (sync_stream t) k ≡ replicate 32 false

-- on the sync channel a handset receives exactly the whole transmissions, each with its message, in
-- order
abbrev pub WholeSendingsComeBack : Type 0
WholeSendingsComeBack = (width : Width) (plan : CellPlan) (samples : List Sample) (t : Tuning) →
    HasSyncSigns width plan samples → IsOnPath plan t →
    flat_map (sync_events_at t samples) (places (plan.link.samples + 1)) ≡ sync_sent plan

-- the mark of the first n samples, for any n, has the cell's time and long-code state
abbrev pub MarksAreTrue : Type 0
MarksAreTrue = (width : Width) (plan : CellPlan) (samples : List Sample) (t : Tuning) (n : ℕ)
    (m : Mark) → HasSyncSigns width plan samples → IsOnPath plan t → mark t samples n ≡ Some m →
    (superframes : ℕ) × IsTrueMark plan m superframes

-- the file sets a mark exactly if a transmission is whole
abbrev pub IsMarkedWhereHeard : Type 0
IsMarkedWhereHeard = (width : Width) (plan : CellPlan) (samples : List Sample) (t : Tuning) →
    HasSyncSigns width plan samples → IsOnPath plan t →
    is_some (mark t samples plan.link.samples) ≡ nat_lt 0 (length (sync_sent plan))

-- the mark has the sync message's PRAT
abbrev pub MarksTellTheRate : Type 0
MarksTellTheRate = (width : Width) (plan : CellPlan) (samples : List Sample) (sync : SyncPlan)
    (t : Tuning) (n : ℕ) (m : Mark) → HasSyncSigns width plan samples → plan.sync ≡ Some sync →
    IsOnPath plan t → mark t samples n ≡ Some m → m.prat ≡ sync.message.prat

-- without a sync channel there is no mark
abbrev pub UnmarkedWithoutSync : Type 0
UnmarkedWithoutSync = (width : Width) (plan : CellPlan) (samples : List Sample) (t : Tuning)
    (n : ℕ) → HasSyncSigns width plan samples → plan.sync ≡ None → IsOnPath plan t →
    mark t samples n ≡ None

-- ---- samples from which sync frames come back

-- The cell can be received. From these samples, a handset with one finger on its path reads the
-- bits that the cell's sync channel sends in each sync frame in the file, or zeros if the cell
-- sends none.
pub record ShowsSync (width : Width) (plan : CellPlan) (samples : List Sample) : Type 0 where
  pub receivable : IsReceivable width plan
  pub back : (sync : SyncPlan) (t : Tuning) (k : ℕ) → plan.sync ≡ Some sync → IsOnPath plan t →
      is_in_file t.count (sync_stream t) k ≡ true →
      frame_own_bits t.count samples (sync_stream t) k ≡
      sync_frame_bits plan.cell sync.message (first_sync_frame plan + k)
  pub none : (t : Tuning) (k : ℕ) → plan.sync ≡ None → IsOnPath plan t →
      is_in_file t.count (sync_stream t) k ≡ true →
      frame_own_bits t.count samples (sync_stream t) k ≡ replicate 32 false

-- ---- noise keeps the signs

-- Each frame of a channel that bears the noise of a file has the sent signs.
abbrev pub NearChannelsHaveSigns : Type 0
NearChannelsHaveSigns = (width : Width) (plan : CellPlan) (c : Carrier) (form : Form) (e : ℕ)
    (samples : List Sample) (frame : ℕ) → IsReceivable width plan →
    Contains (carriers plan) c → IsNear e samples (made_samples plan) → Bears plan c.gain e →
    FrameHasSigns plan c form samples frame

-- A file's samples are near, within e, to those of a cell that can be received and sends a sync
-- channel, and the sync channel bears noise of that size.
pub record HearsSentSync (width : Width) (plan : CellPlan) (sync : SyncPlan) (e : ℕ)
    (samples : List Sample) : Type 0 where
  pub receivable : IsReceivable width plan
  pub sends : plan.sync ≡ Some sync
  pub near : IsNear e samples (made_samples plan)
  pub bears : Bears plan sync.gain e

-- In such a file each frame of the sync channel has the sent signs.
abbrev pub NearSyncHasSigns : Type 0
NearSyncHasSigns = (width : Width) (plan : CellPlan) (sync : SyncPlan) (e : ℕ)
    (samples : List Sample) → HearsSentSync width plan sync e samples →
    HasSyncSigns width plan samples

-- So does each frame on a clean link; without a sync channel, that channel's row is silent.
abbrev pub CleanSyncHasSigns : Type 0
CleanSyncHasSigns = (width : Width) (plan : CellPlan) → IsReceivable width plan →
    HasSyncSigns width plan (made_samples plan)

-- ---- channels that are sent

-- the 384 symbols of a frame before scrambling, in the order in which they are sent
abbrev pub ordered_symbols : Cycle → ℕ → List Bool
ordered_symbols c frame =
    sent data_shape (repeats_of c.rate) (continued_symbols (cycle_frame_bits c) frame)

-- Frame k after a true mark is the one that the channel sends k frames after the start of the
-- mark's superframe; each superframe has four. On a clean link its soft values are one positive
-- number times the signs of the symbols before scrambling.
abbrev pub PagingHaveSentSigns : Type 0
PagingHaveSentSigns = (width : Width) (plan : CellPlan) (sync : SyncPlan) (p : PagingPlan)
    (t : Tuning) (m : Mark) (superframes k : ℕ) →
    IsReceivable width plan → plan.sync ≡ Some sync → Contains plan.paging p → IsOnPath plan t →
    IsTrueMark plan m superframes → m.prat ≡ sync.message.prat →
    is_in_file t.count (paging_stream t p.number m) k ≡ true →
    (0 < soft_strength plan Data p.gain)
    × (frame_softs (made_samples plan) (paging_stream t p.number m) k ≡
    signed (soft_strength plan Data p.gain)
    (ordered_symbols (cycle_of plan p) (4 * superframes + k)))

-- P holds for frame k of a paging channel after the cell's mark, if each frame from the mark on has
-- the sent signs.
abbrev pub HoldsOfPaging : (CellPlan → PagingPlan → Tuning → Mark → ℕ → ℕ → List Sample →
    Type 0) → Type 0
HoldsOfPaging P = (plan : CellPlan) (p : PagingPlan) (t : Tuning) (m : Mark) (superframes k : ℕ)
    (samples : List Sample) → IsOnPath plan t → IsCellMark plan m superframes →
    ((j : ℕ) → PagingFrameHasSigns plan p samples (4 * superframes + j)) →
    is_in_file t.count (paging_stream t p.number m) k ≡ true → P plan p t m superframes k samples

-- Its own bits are the ones that were sent.
abbrev pub PagingFramesComeBack : Type 0
PagingFramesComeBack = HoldsOfPaging (λ plan p t m superframes k samples.
    frame_own_bits t.count samples (paging_stream t p.number m) k ≡
    cycle_frame_bits (cycle_of plan p) (4 * superframes + k))

-- The codeword that was sent in the frame's span, with the bits before it, is the only one with the
-- greatest score.
abbrev pub PagingCodewordsAreTheOnlyBest : Type 0
PagingCodewordsAreTheOnlyBest = HoldsOfPaging (λ plan p t m superframes k samples.
    IsOnlyBest t.count samples (paging_stream t p.number m) k
    (span_codeword (cycle_frame_bits (cycle_of plan p))
    (4 * superframes + span_first t.count (paging_stream t p.number m) k)
    (span_frames t.count (paging_stream t p.number m) k)))

-- So a handset receives exactly the whole pages of the channel, in order.
abbrev pub SignedPagesComeBack : Type 0
SignedPagesComeBack = (width : Width) (plan : CellPlan) (p : PagingPlan) (t : Tuning) (m : Mark)
    (superframes : ℕ) (samples : List Sample) → IsReceivable width plan → Contains plan.paging p →
    IsOnPath plan t → IsCellMark plan m superframes → m.prat < 2 →
    ((k : ℕ) → PagingFrameHasSigns plan p samples (4 * superframes + k)) →
    pages_within t p.number (Some m) samples plan.link.samples ≡
    pages_of_channel plan p (plan.link.start + m.sample)

-- ---- channels that are not sent

-- the soft values on the row of a channel that the cell doesn't send are all 0, if no traffic
-- channel has the row
abbrev pub SilentPagingIsZero : Type 0
SilentPagingIsZero = (width : Width) (plan : CellPlan) (t : Tuning) (m : Mark)
    (superframes channel k : ℕ) →
    IsReceivable width plan → 1 ≤ channel → channel ≤ 7 →
    All (λ (p : PagingPlan). p.number ≢ channel) plan.paging → IsFreeOf plan.traffic channel →
    IsOnPath plan t →
    IsTrueMark plan m superframes → is_in_file t.count (paging_stream t channel m) k ≡ true →
    frame_softs (made_samples plan) (paging_stream t channel m) k ≡ replicate 384 (pos 0)

-- so a frame's bits are zeros
abbrev pub SilentPagingFramesAreZeros : Type 0
SilentPagingFramesAreZeros = (width : Width) (plan : CellPlan) (t : Tuning) (m : Mark)
    (superframes channel k : ℕ) →
    IsReceivable width plan → 1 ≤ channel → channel ≤ 7 →
    All (λ (p : PagingPlan). p.number ≢ channel) plan.paging → IsFreeOf plan.traffic channel →
    IsOnPath plan t →
    IsTrueMark plan m superframes → is_in_file t.count (paging_stream t channel m) k ≡ true →
    frame_own_bits t.count (made_samples plan) (paging_stream t channel m) k ≡
    replicate (paging_stream t channel m).channel.bits false

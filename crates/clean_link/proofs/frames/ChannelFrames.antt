-- What comes back of any channel that a stream hears, then of the sync channel and of paging channels.
use Rattle.clean_link.proofs.Common.{NearChannelsHaveSigns, NearSyncHasSigns, ◌≡◌, ℕ, ◌+◌, ◌<◌, true, List, [], ◌∷◌, refl, sym, ap, subst}
use Rattle.clean_link.proofs.Common.{inl, ◌∙◌, arith, pos, unsigned_abs, Some, ◌+ℤ◌, ints, int_rem_euclid_is, sent, sync_shape, SyncFields}
use Rattle.clean_link.proofs.Common.{IsSyncPlan, made_samples, continued_symbols, sync_frame_bits, sync_symbols, sync_carrier, phase_at, ℤ}
use Rattle.clean_link.proofs.Common.{CellPlan, SyncPlan, length-sync_frame_bits, softs, Finger, Sync, signed, frame_start, is_in_file, None}
use Rattle.clean_link.proofs.Common.{Tuning, fingers_of, modulo_code, sync_stream, AreZeroWithoutSync, FramesAreZeros, FramesComeBack, ◌≤◌}
use Rattle.clean_link.proofs.Common.{HaveSentSigns, SentCodewordsAreTheOnlyBest, IsOnPath, first_sync_frame, soft_strength, AreReadBy, ◌*◌}
use Rattle.clean_link.proofs.Common.{IsHeardBy, path_finger, reference_finger, IsReceivable, Option, Sample, Width, unwrap_or, Bears, ◌/◌}
use Rattle.clean_link.proofs.Common.{IsNear, ShowsSync, symbols, frame_own_bits, false, Bool, length, inr, replicate, Contains, length-map}
use Rattle.clean_link.proofs.Common.{All-contains, places, xor, zip_with, length-places, after, long_chip, paging_mask, scrambling, Rate}
use Rattle.clean_link.proofs.Common.{data_shape, repeats_of, R9600, Cycle, cycle_frame_bits, cycle_symbols, cycled, frame_scrambling, Data}
use Rattle.clean_link.proofs.Common.{paging_frame_size, IsLawfulPlan, IsPagingPlan, cycle_of, paging_carrier, PagingPlan, paging_stream}
use Rattle.clean_link.proofs.Common.{descrambled, unscrambled, Stream, Mark, IsTrueMark, PagingFramesComeBack, PagingHaveSentSigns, HasSign}
use Rattle.clean_link.proofs.Common.{PagingCodewordsAreTheOnlyBest, SilentPagingFramesAreZeros, FrameHasSigns, HasSyncSigns, IsCellMark}
use Rattle.clean_link.proofs.Common.{PagingFrameHasSigns, frame_softs, Carrier, carriers, SilentPagingIsZero, ordered_symbols, length-near}
use Rattle.clean_link.proofs.Common.{scrambled_with, ChannelFramesComeBack, none_borne, near-self, signs_turn, noisy_relates, length-made}
use Rattle.clean_signal.proofs.signal.CarriersApart.{sync_sent, sync_silent, paging_sent, paging_silent}
use Rattle.clean_signal.specs.Signals.{IsFrameAt}
use Rattle.rake_finger.specs.declared.form.Form.{Form}
use Rattle.viterbi.specs.Signs.{HaveSigns}
use Rattle.clean_signal.proofs.frames.Scores.{whole_frames}
use Rattle.clean_signal.proofs.frames.Heard.{heard_shown, AreFramesShown, order_of, own_of_span, shown_alone, shown_in_span, silent_in_span}
use Rattle.clean_signal.proofs.frames.Heard.{stream_related}
use Rattle.clean_link.proofs.frames.Times.{frames_begin, in_file_to, paging_file_to}
use Rattle.heard_events.specs.PagingStreams.{paging_rate}
use Rattle.clean_signal.proofs.frames.ChannelSigns.{strength_some, silent_rows, stream_symbols}
use Rattle.frame_decoder.specs.declared.span_format.FrameKind as kinds
use Rattle.symbol_path.specs.Scrambling as codes
use Rattle.cell_plan.specs.PageCycles as cycles
use Rattle.cell_plan.specs.Pages as pages

-- ---- what is decoded of a frame

-- What a handset decodes of a frame is what the soft values of its span show, or zeros where they are 0.
own-is : (count : ℕ) (samples : List Sample) (s : Stream) (k : ℕ) →
    frame_own_bits count samples s k ≡ own_of_span count samples s k
unfolding frame_own_bits
own-is count samples s k = refl

-- a frame in the file has the bits that were sent
pub shown_back : {count : ℕ} {samples : List Sample} {s : Stream} {bits_of : ℕ → List Bool} {base : ℕ} →
    AreFramesShown count samples s bits_of base → (k : ℕ) → is_in_file count s k ≡ true →
    frame_own_bits count samples s k ≡ bits_of (base + k)
shown_back {count} {samples} {s} is k here = own-is count samples s k ∙ shown_in_span is k here

-- A frame whose span has soft values of 0 has bits of 0.
pub silent_back : (count k : ℕ) (samples : List Sample) (s : Stream) → 8 ≤ s.channel.bits →
    ((j : ℕ) → is_in_file count s j ≡ true →
    frame_softs samples s j ≡ replicate (symbols s.form) (pos 0)) →
    is_in_file count s k ≡ true → frame_own_bits count samples s k ≡ replicate s.channel.bits false
silent_back count k samples s enough shown here =
    own-is count samples s k ∙ silent_in_span count k samples s enough shown here

-- ---- a stream that hears a channel

pub channel_frames : ChannelFramesComeBack
channel_frames plan c s bits_of base k samples heard read signs here =
    shown_back (heard_shown samples signs heard read) k here

-- ---- the stream

phase_kept : (phase : ℕ) → phase < 32768 → modulo_code (pos phase +ℤ pos 0) ≡ phase
phase_kept phase low =
    ap unsigned_abs
    (int_rem_euclid_is (pos phase +ℤ pos 0) (pos 32768) 32768 0 phase (omega arith) refl (omega (arith, ints)))
    ∙ omega (arith, low)

-- the finger of a row is the one on the path
pub fingers_are : (plan : CellPlan) (t : Tuning) (row : ℕ) → IsOnPath plan t →
    fingers_of row t.phase t.deltas ≡ path_finger plan row ∷ []
fingers_are plan t row on =
    let low : phase_at plan plan.link.start < 32768 = omega arith in
    ap (fingers_of row t.phase) on.alone
    ∙ ap (λ (n : ℕ). fingers_of row n (pos 0 ∷ [])) on.phase
    ∙ ap (λ (n : ℕ). reference_finger n row ∷ []) (phase_kept (phase_at plan plan.link.start) low)

sync_heard : (plan : CellPlan) (sync : SyncPlan) (t : Tuning) → plan.cell.pn < 512 → IsOnPath plan t →
    IsHeardBy plan (sync_carrier plan sync) (sync_stream t) (first_sync_frame plan)
sync_heard plan sync t low on = record {
  alone = fingers_are plan t 32 on;
  frame_long = refl;
  symbol_long = refl;
  begins = let begins = frames_begin plan t 0 low on.phase in omega (arith, begins);
}

sync_symbols-is : (plan : CellPlan) (m : SyncFields) (frame : ℕ) → sync_symbols plan.cell m frame ≡
    sent sync_shape 2 (continued_symbols (sync_frame_bits plan.cell m) frame)
unfolding sync_symbols
sync_symbols-is plan m frame = refl

sync_read : (plan : CellPlan) (sync : SyncPlan) (t : Tuning) →
    AreReadBy (sync_carrier plan sync) (sync_stream t) (sync_frame_bits plan.cell sync.message) (first_sync_frame plan)
sync_read plan sync t = record {
  whole = whole_frames kinds.TheVariants.Sync;
  each = length-sync_frame_bits plan.cell sync.message;
  scrambles = λ k. inl refl;
  sent = λ k. sync_symbols-is plan sync.message (first_sync_frame plan + k);
}

-- the gain of a sync channel that is sent
gain_some : (plan : CellPlan) (sync : SyncPlan) → plan.sync ≡ Some sync → IsSyncPlan plan.sync → 0 < sync.gain
gain_some plan sync is lawful = (subst IsSyncPlan is lawful).0

inside : (plan : CellPlan) (t : Tuning) (s : Stream) (k : ℕ) → IsOnPath plan t →
    is_in_file t.count s k ≡ true → is_in_file plan.link.samples s k ≡ true
inside plan t s k on here = subst (λ (n : ℕ). is_in_file n s k ≡ true) on.count here

-- ---- the laws

pub sent_signs : HaveSentSigns
sent_signs width plan sync t k at is on here = (
  strength_some width plan Sync sync.gain at (gain_some plan sync is at.lawful.sync),
  stream_symbols width plan (sync_carrier plan sync) (sync_stream t)
      (sync_frame_bits plan.cell sync.message) (first_sync_frame plan) k at (sync_sent plan sync is)
      (sync_heard plan sync t at.lawful.pn on) (sync_read plan sync t) (inside plan t (sync_stream t) k on here)
      ∙ ap (signed (soft_strength plan Sync sync.gain))
      (sym (sync_symbols-is plan sync.message (first_sync_frame plan + k))),
)

-- where nothing is sent on the sync channel's row its soft values are 0
zero_in : (width : Width) (plan : CellPlan) (samples : List Sample) (t : Tuning) (k : ℕ) →
    IsReceivable width plan → ((u : ℕ) → IsFrameAt plan Sync u →
    softs samples (path_finger plan 32 ∷ []) Sync u ≡ replicate 128 (pos 0)) → IsOnPath plan t →
    is_in_file t.count (sync_stream t) k ≡ true → frame_softs samples (sync_stream t) k ≡ replicate 128 (pos 0)
zero_in width plan samples t k at silent on here =
    let u = frame_start (sync_stream t) k in
    let begins = frames_begin plan t k at.lawful.pn on.phase in
    ap (λ (fs : List Finger). softs samples fs Sync u) (fingers_are plan t 32 on)
    ∙ silent u (record {
      room = omega (arith, in_file_to t k on.alone here, on.count);
      aligned = omega (arith, begins);
    })

-- ---- samples that show the channel's frames

-- those in which each frame has the sent signs
sync_shown : {width : Width} {plan : CellPlan} {samples : List Sample} (sync : SyncPlan) (t : Tuning) →
    HasSyncSigns width plan samples → plan.sync ≡ Some sync → IsOnPath plan t →
    AreFramesShown t.count samples (sync_stream t) (sync_frame_bits plan.cell sync.message) (first_sync_frame plan)
sync_shown {plan = plan} {samples = samples} sync t is sends on =
    subst
    (λ (n : ℕ). AreFramesShown n samples (sync_stream t) (sync_frame_bits plan.cell sync.message)
    (first_sync_frame plan)) (sym on.count)
    (heard_shown samples (λ k. is.signs sync sends (first_sync_frame plan + k))
    (sync_heard plan sync t is.receivable.lawful.pn on) (sync_read plan sync t))

pub shows_sync : {width : Width} {plan : CellPlan} {samples : List Sample} →
    HasSyncSigns width plan samples → ShowsSync width plan samples
shows_sync {width} {plan} {samples} is = record {
  receivable = is.receivable;
  back = λ sync t k sends on here. shown_back (sync_shown sync t is sends on) k here;
  none = λ t k silent on here.
      silent_back t.count k samples (sync_stream t) (omega arith)
      (λ j there. zero_in width plan samples t j is.receivable (is.silent silent) on there) here;
}

-- a channel that bears the noise has them, in each of its frames
pub near_frame : {width : Width} {plan : CellPlan} (c : Carrier) (form : Form) (e : ℕ)
    (samples : List Sample) → IsReceivable width plan → Contains (carriers plan) c →
    IsNear e samples (made_samples plan) → Bears plan c.gain e → (frame : ℕ) → FrameHasSigns plan c form samples frame
near_frame c form e samples is has near bears = noisy_relates is c form e samples has near bears

-- so near samples, where the sync channel bears the noise
pub near_sync : {width : Width} {plan : CellPlan} {sync : SyncPlan} {e : ℕ} (samples : List Sample) →
    IsReceivable width plan → plan.sync ≡ Some sync → IsNear e samples (made_samples plan) →
    Bears plan sync.gain e → HasSyncSigns width plan samples
near_sync {plan = plan} {sync} {e} samples is sent near bears = record {
  receivable = is;
  long = length-near e samples (made_samples plan) near ∙ length-made plan;
  signs = λ other sends.
      let same : ◌≡◌ {A = Option SyncPlan} (Some sync) (Some other) = sym sent ∙ sends in
      let one : sync ≡ other = ap (λ (o : Option SyncPlan). unwrap_or o sync) same in
      near_frame (sync_carrier plan other) Sync e samples is (sync_sent plan other sends) near
      (subst (λ (x : SyncPlan). Bears plan x.gain e) one bears);
  silent = λ silent u at.
      let same : ◌≡◌ {A = Option SyncPlan} None (Some sync) = sym silent ∙ sent in
      absurd (cc);
}

-- and those of a clean link, with a sync channel or without one
pub clean_signs : (width : Width) (plan : CellPlan) → IsReceivable width plan →
    HasSyncSigns width plan (made_samples plan)
clean_signs width plan is = record {
  receivable = is;
  long = length-made plan;
  signs = λ sync sends.
      near_frame (sync_carrier plan sync) Sync 0 (made_samples plan) is (sync_sent plan sync sends)
      (near-self 0 (made_samples plan))
      (none_borne width plan sync.gain is (gain_some plan sync sends is.lawful.sync));
  silent = λ silent u at.
      silent_rows width plan 32 Sync u is (omega arith) (sync_silent width plan is.lawful silent) at;
}

pub clean_sync : (width : Width) (plan : CellPlan) → IsReceivable width plan → ShowsSync width plan (made_samples plan)
clean_sync width plan is = shows_sync (clean_signs width plan is)

pub zero_without_sync : AreZeroWithoutSync
zero_without_sync width plan t k at none =
    zero_in width plan (made_samples plan) t k at ((clean_signs width plan at).silent none)

pub frames_zero : FramesAreZeros
frames_zero width plan samples t k is = (shows_sync is).none t k

pub frames_back : FramesComeBack
frames_back width plan samples sync t k is sends on here = shown_back (sync_shown sync t is sends on) k here

pub codewords_alone : SentCodewordsAreTheOnlyBest
codewords_alone width plan samples sync t k is sends on here = shown_alone (sync_shown sync t is sends on) k here

pub near_channels : NearChannelsHaveSigns
near_channels width plan c form e samples frame is has near bears = near_frame c form e samples is has near bears frame

pub near_syncs : NearSyncHasSigns
near_syncs width plan sync e samples is = near_sync samples is.receivable is.sends is.near is.bears

-- ---- scrambling

pub length-scrambling : (state mask : ℕ) → length (scrambling state mask) ≡ 384
unfolding codes.scrambling_chips
length-scrambling state mask = length-map (places 384) (λ i. long_chip state mask (64 * i)) ∙ length-places 384

-- where there are scrambling bits, each symbol is added to its own
scrambled_some : (bits symbols : List Bool) → 0 < length bits → zip_with xor symbols bits ≡ scrambled_with bits symbols
scrambled_some [] symbols some = absurd (omega (arith, some))
scrambled_some (b ∷ bits) symbols some = refl

-- soft values of 0 stay so
zeros_descrambled : (bits : List Bool) →
    descrambled bits (replicate (length bits) (pos 0)) ≡ replicate (length bits) (pos 0)
zeros_descrambled [] = refl
zeros_descrambled (true ∷ bits) = ap (λ (zs : List ℤ). pos 0 ∷ zs) (zeros_descrambled bits)
zeros_descrambled (false ∷ bits) = ap (λ (zs : List ℤ). pos 0 ∷ zs) (zeros_descrambled bits)

zeros_unscrambled : (bits : List Bool) (n : ℕ) → length bits ≡ n →
    unscrambled bits (replicate n (pos 0)) ≡ replicate n (pos 0)
zeros_unscrambled [] n long = refl
zeros_unscrambled (b ∷ bits) n long =
    subst (λ (k : ℕ). descrambled (b ∷ bits) (replicate k (pos 0)) ≡ replicate k (pos 0))
    long (zeros_descrambled (b ∷ bits))

-- ---- the stream

-- frame 0 begins with the mark's superframe
paging_heard : (plan : CellPlan) (p : PagingPlan) (t : Tuning) (m : Mark) (superframes : ℕ) →
    IsOnPath plan t → IsTrueMark plan m superframes →
    IsHeardBy plan (paging_carrier plan p) (paging_stream t p.number m) (4 * superframes)
paging_heard plan p t m superframes on at = record {
  alone = fingers_are plan t p.number on;
  frame_long = refl;
  symbol_long = refl;
  begins = let place = at.place in omega (arith, place);
}

-- the rate that the mark tells is that of the cell's channels
rates_agree : (plan : CellPlan) (sync : SyncPlan) (m : Mark) → plan.sync ≡ Some sync →
    m.prat ≡ sync.message.prat → pages.sent_paging_rate plan.sync ≡ paging_rate m.prat
rates_agree plan sync m is told = ap pages.sent_paging_rate is ∙ sym (ap paging_rate told)

frame_size-is : (rate : Rate) → paging_frame_size rate ≡ 192 / repeats_of rate
frame_size-is R9600 = refl
frame_size-is rate = refl

length-cycled : (cycle : List Bool) (size frame : ℕ) → length (cycled cycle size frame) ≡ size
unfolding cycled
length-cycled cycle size frame = length-map (places size) _ ∙ length-places size

symbols_are : (c : Cycle) (frame : ℕ) → cycle_symbols c frame ≡
    zip_with xor (ordered_symbols c frame) (frame_scrambling c frame)
unfolding cycle_symbols cycles.scrambled
symbols_are c frame = refl

-- a frame is scrambled by the long code that the mark tells
same_scrambling : (plan : CellPlan) (p : PagingPlan) (m : Mark) (superframes k : ℕ) → IsTrueMark plan m superframes →
    frame_scrambling (cycle_of plan p) (4 * superframes + k) ≡
    scrambling (after m.state (24576 * k)) (paging_mask p.number m.pilot)
same_scrambling plan p m superframes k at =
    let chips : 24576 * (4 * superframes + k) ≡ 98304 * superframes + 24576 * k = omega arith in
    ap (λ (state : ℕ). scrambling state (paging_mask p.number plan.cell.pn))
    (ap (after plan.cell.lc) chips ∙ sym (at.state (24576 * k)))
    ∙ ap (λ (pn : ℕ). scrambling (after m.state (24576 * k)) (paging_mask p.number pn)) (sym at.pn)

-- Given a true mark a handset reads the paging channel as it is sent. Its frames have as many bits
-- as the mark's rate gives them, and they are scrambled by the long code from the mark's state on,
-- which is the state that the cell's own code has there.
paging_read : (plan : CellPlan) (p : PagingPlan) (t : Tuning) (m : Mark) (superframes : ℕ) →
    IsTrueMark plan m superframes → pages.sent_paging_rate plan.sync ≡ paging_rate m.prat →
    AreReadBy (paging_carrier plan p) (paging_stream t p.number m)
    (cycle_frame_bits (cycle_of plan p)) (4 * superframes)
paging_read plan p t m superframes at same = record {
  whole = whole_frames (kinds.TheVariants.Paging (paging_rate m.prat));
  each = λ k. length-cycled (cycle_of plan p).bits (paging_frame_size (pages.sent_paging_rate plan.sync)) k
      ∙ frame_size-is (pages.sent_paging_rate plan.sync)
      ∙ ap (λ (rate : Rate). 192 / repeats_of rate) same;
  scrambles = λ k. inr
      (length-scrambling (after m.state (24576 * k)) (paging_mask p.number m.pilot));
  sent = λ k.
      let frame = 4 * superframes + k in
      let code = continued_symbols (cycle_frame_bits (cycle_of plan p)) frame in
      let bits = scrambling (after m.state (24576 * k)) (paging_mask p.number m.pilot) in
      let long = length-scrambling (after m.state (24576 * k)) (paging_mask p.number m.pilot) in
      symbols_are (cycle_of plan p) frame
      ∙ ap (zip_with xor (sent data_shape (repeats_of (pages.sent_paging_rate plan.sync)) code))
      (same_scrambling plan p m superframes k at)
      ∙ ap (λ (rate : Rate). zip_with xor (sent data_shape (repeats_of rate) code) bits) same
      ∙ scrambled_some bits (sent data_shape (repeats_of (paging_rate m.prat)) code)
      (omega (arith, long));
}

-- the gain of a paging channel that is sent
paging_gain : (width : Width) (plan : CellPlan) (p : PagingPlan) → IsLawfulPlan width plan →
    Contains plan.paging p → 0 < p.gain
paging_gain width plan p lawful has =
    (All-contains (IsPagingPlan (pages.sent_paging_rate plan.sync)) plan.paging p lawful.paging has).gain

-- ---- the laws

-- The soft values of a paging frame are one positive number times the signs of its symbols before
-- scrambling: from a true mark on the handset reads the frame that the channel sends, and neither
-- the channel's gain nor the pilot's nor the link's factor is 0.
pub paging_signs : PagingHaveSentSigns
paging_signs width plan sync p t m superframes k is sends has on at told here =
    let s = paging_stream t p.number m in
    let bits_of = cycle_frame_bits (cycle_of plan p) in
    let strength = soft_strength plan Data p.gain in
    let code = continued_symbols bits_of (4 * superframes + k) in
    let same = rates_agree plan sync m sends told in (
      strength_some width plan Data p.gain is (paging_gain width plan p is.lawful has),
      stream_symbols width plan (paging_carrier plan p) s bits_of (4 * superframes) k is
          (paging_sent plan p has) (paging_heard plan p t m superframes on at)
          (paging_read plan p t m superframes at same) (inside plan t s k on here)
          ∙ ap (λ (rate : Rate). signed strength (sent data_shape (repeats_of rate) code))
          (sym same),
    )

module _ (plan : CellPlan) (p : PagingPlan) (t : Tuning) (m : Mark) (superframes : ℕ)
    (samples : List Sample) (on : IsOnPath plan t) (at : IsCellMark plan m superframes) where
  abbrev stream : Stream
  stream = paging_stream t p.number m

  abbrev bits_of : ℕ → List Bool
  bits_of = cycle_frame_bits (cycle_of plan p)

  pub read_after : AreReadBy (paging_carrier plan p) stream bits_of (4 * superframes)
  read_after = paging_read plan p t m superframes at.marked (rates_agree plan at.sync m at.sends at.rate)

  -- The soft values of a frame from the mark on show what the channel sends in it, where they have the
  -- signs of it.
  pub paging_frame_shown : (k : ℕ) → PagingFrameHasSigns plan p samples (4 * superframes + k) →
      is_in_file t.count stream k ≡ true →
      HaveSigns (order_of stream bits_of (4 * superframes + k)) (frame_softs samples stream k)
  paging_frame_shown k signs here =
      stream_related HasSign signs_turn samples (paging_heard plan p t m superframes on at.marked)
      read_after k signs (inside plan t stream k on here)

  -- and those of all of them
  pub paging_shown : ((k : ℕ) → PagingFrameHasSigns plan p samples (4 * superframes + k)) →
      AreFramesShown t.count samples stream bits_of (4 * superframes)
  paging_shown signs = record {
    whole = read_after.whole;
    each = read_after.each;
    shown = λ k here. paging_frame_shown k (signs k) here;
  }

-- a paging channel that bears the noise has them
pub near_paging : {width : Width} {plan : CellPlan} {p : PagingPlan} {e : ℕ} (samples : List Sample) →
    IsReceivable width plan → Contains plan.paging p → IsNear e samples (made_samples plan) →
    Bears plan p.gain e → (frame : ℕ) → PagingFrameHasSigns plan p samples frame
near_paging {plan = plan} {p} {e} samples is has near bears =
    near_frame (paging_carrier plan p) Data e samples is (paging_sent plan p has) near bears

-- a noise of 0 is borne by any paging channel
pub paging_borne : (width : Width) (plan : CellPlan) (p : PagingPlan) → IsReceivable width plan →
    Contains plan.paging p → Bears plan p.gain 0
paging_borne width plan p is has = none_borne width plan p.gain is (paging_gain width plan p is.lawful has)

pub paging_frames_back : PagingFramesComeBack
paging_frames_back plan p t m superframes k samples on at signs here =
    shown_back (paging_shown plan p t m superframes samples on at signs) k here

pub paging_codewords_alone : PagingCodewordsAreTheOnlyBest
paging_codewords_alone plan p t m superframes k samples on at signs here =
    shown_alone (paging_shown plan p t m superframes samples on at signs) k here

-- A frame of a paging channel that isn't sent has soft values of 0. It lies in the file and begins
-- with a block of 64 chips, so its row is orthogonal to all that the cell sends, and 0 stays 0 when
-- the scrambling is undone.
pub silent_paging_zero : SilentPagingIsZero
silent_paging_zero width plan t m superframes channel k is first last none free on at here =
    let s = paging_stream t channel m in
    let u = frame_start s k in
    let bits = scrambling (after m.state (24576 * k)) (paging_mask channel m.pilot) in
    let place = at.place in
    ap (λ (fs : List Finger). unscrambled bits (softs (made_samples plan) fs Data u)) (fingers_are plan t channel on)
    ∙ ap (unscrambled bits)
    (silent_rows width plan channel Data u is (omega (arith, last)) (paging_silent plan channel first last none free)
    (record {
      room = omega (arith, paging_file_to t channel m on.alone k here, on.count);
      aligned = omega (arith, place);
    }))
    ∙ zeros_unscrambled bits 384 (length-scrambling (after m.state (24576 * k)) (paging_mask channel m.pilot))

pub silent_paging_back : SilentPagingFramesAreZeros
silent_paging_back width plan t m superframes channel k is first last none free on at here =
    let whole = whole_frames (kinds.TheVariants.Paging (paging_rate m.prat)) in
    silent_back t.count k (made_samples plan) (paging_stream t channel m) whole.enough
    (λ j there. silent_paging_zero width plan t m superframes channel j is first last none free on
    at there) here

-- The frames that a channel sends come back from any stream that hears and reads it, and zeros
-- where nothing is sent.
use Rattle.clean_signal.proofs.Common.{AllZip, HasSign, HaveSigns, path_finger, ◌≡◌, ℕ, zero, suc, ◌+◌, ◌-◌, ◌*◌, ◌<◌, ◌≤◌, Bool, true, []}
use Rattle.clean_signal.proofs.Common.{false, List, ◌∷◌, ◌++◌, length, replicate, refl, sym, ap, subst, ◌∙◌, ⊎_elim, arith, ℤ, pos, places}
use Rattle.clean_signal.proofs.Common.{flat_map, mul-le-mul_left, replicate-append-replicate, xor, zip_with, Sample, frame_chips, softs}
use Rattle.clean_signal.proofs.Common.{symbols, Finger, Form, Sync, Data, sent, length-sent, IsAllowed, Codeword, Free, own_bits, CellPlan}
use Rattle.clean_signal.proofs.Common.{flat_map-next, length-frames, continued_symbols, Carrier, phase_at, Scrambles, frame_softs, cases_eq}
use Rattle.clean_signal.proofs.Common.{frame_start, is_in_file, span_first, span_frames, flat_map_ext_places, AreReadBy, IsOnlyBest}
use Rattle.clean_signal.proofs.Common.{IsWholeChannel, scrambled_with, span_frame_softs, span_codeword, IsFrameOf, IsHeardBy, if◌then◌else◌}
use Rattle.clean_signal.proofs.Common.{StreamOf, Channel, flat_map-zero, cases_lt}
use Rattle.clean_signal.proofs.frames.Scores.{ShowCodeword, shown_codeword_alone, shown_codeword_own, silent_own, frame_at, length-before}
use Rattle.clean_signal.proofs.frames.Scores.{sent_as_one}
use Rattle.clean_signal.proofs.noise.Near.{FrameRelates, Turns, signs_turn, unscrambled_related, zipped_frames}
use Rattle.clean_signal.proofs.frames.Times.{room_alone}

pub record IsInSpan (P : ℕ → Bool) (k first frames : ℕ) : Type 0 where
  pub from : first ≤ k
  pub to : k - first < frames
  pub there : (j : ℕ) → j < frames → P (first + j) ≡ true

-- the span from a frame that is k or before it, up to the next one after k, where that is in the file
spanned : (P : ℕ → Bool) (k first : ℕ) (b : Bool) → P (k + 1) ≡ b → P k ≡ true → first ≤ k →
    ((n : ℕ) → first ≤ n → n < k → P n ≡ true) → IsInSpan P k first ((if b then k + 2 else k + 1) - first)
spanned P k first true next here low before = record {
  from = low;
  to = omega (arith, low);
  there = λ j lt. ⊎_elim (λ (less : first + j < k). before (first + j) (omega arith) less)
      (λ (least : k ≤ first + j). ⊎_elim (λ (e : k ≡ first + j). subst (λ (n : ℕ). P n ≡ true) e here)
      (λ (n : ¬ (k ≡ first + j)). let e : k + 1 ≡ first + j = omega (arith, lt, least, n) in
      subst (λ (m : ℕ). P m ≡ true) e next)
      (cases_eq k (first + j)))
      (cases_lt (first + j) k);
}
spanned P k first false next here low before = record {
  from = low;
  to = omega (arith, low);
  there = λ j lt. ⊎_elim (λ (less : first + j < k). before (first + j) (omega arith) less)
      (λ (least : k ≤ first + j). let e : k ≡ first + j = omega (arith, lt, least) in
      subst (λ (m : ℕ). P m ≡ true) e here)
      (cases_lt (first + j) k);
}

either : (P : ℕ → Bool) (k : ℕ) (a b : Bool) → P k ≡ a → P (suc k + 1) ≡ b → P (suc k) ≡ true →
    IsInSpan P (suc k) (if a then k else suc k) ((if b then suc k + 2 else suc k + 1) - (if a then k else suc k))
either P k true b before next here =
    spanned P (suc k) k b next here (omega arith) (λ n low less. let e : k ≡ n = omega (arith, low, less) in
    subst (λ (m : ℕ). P m ≡ true) e before)
either P k false b before next here =
    spanned P (suc k) (suc k) b next here (omega arith) (λ n low less. absurd (omega (arith, low, less)))

-- a frame in the file lies in its span, whose frames are all in the file
pub in_span : (count : ℕ) (s : StreamOf Channel) (k : ℕ) → is_in_file count s k ≡ true →
    IsInSpan (is_in_file count s) k (span_first count s k) (span_frames count s k)
in_span count s zero here =
    spanned (is_in_file count s) 0 0 (is_in_file count s (0 + 1)) refl here (omega arith)
    (λ n low less. absurd (omega (arith, less)))
in_span count s (suc k) here =
    either (is_in_file count s) k (is_in_file count s k) (is_in_file count s (suc k + 1)) refl refl
    here

-- ---- scrambled symbols

length-descrambled : (bits symbols : List Bool) → length bits ≡ length symbols →
    length (zip_with xor symbols bits) ≡ length symbols
length-descrambled [] [] long = refl
length-descrambled [] (b ∷ symbols) long = absurd (omega (arith, long))
length-descrambled (a ∷ bits) [] long = absurd (omega (arith, long))
length-descrambled (a ∷ bits) (b ∷ symbols) long = ap suc (length-descrambled bits symbols (omega (arith, long)))

pub length-scrambled : (n : ℕ) (bits symbols : List Bool) → Scrambles bits n → length symbols ≡ n →
    length (scrambled_with bits symbols) ≡ n
length-scrambled n [] symbols scrambles long = long
length-scrambled n (b ∷ bits) symbols scrambles long = ⊎_elim (λ (none : b ∷ bits ≡ []). absurd (cc))
    (λ (all : length (b ∷ bits) ≡ n).
    length-descrambled (b ∷ bits) symbols (all ∙ sym long) ∙ long)
    scrambles

-- ---- a stream whose soft values show the frames of a source

-- the symbols of a frame of it, in the order in which they are sent and before scrambling
abbrev pub order_of : StreamOf Channel → (ℕ → List Bool) → ℕ → List Bool
order_of s bits_of frame = sent s.channel.shape s.channel.repeats (continued_symbols bits_of frame)

-- They have the signs of its symbols, whatever their sizes.
pub record AreFramesShown (count : ℕ) (samples : List Sample) (s : StreamOf Channel) (bits_of : ℕ → List Bool)
    (base : ℕ) : Type 0 where
  pub whole : IsWholeChannel s.channel (symbols s.form)
  pub each : (k : ℕ) → length (bits_of k) ≡ s.channel.bits
  pub shown : (k : ℕ) → is_in_file count s k ≡ true →
      HaveSigns (order_of s bits_of (base + k)) (frame_softs samples s k)

-- the sent codeword of the span of a frame
abbrev pub sent_codeword : ℕ → StreamOf Channel → (ℕ → List Bool) → ℕ → ℕ → Codeword
sent_codeword count s bits_of base k = span_codeword bits_of (base + span_first count s k) (span_frames count s k)

-- what is decoded of a frame, of the soft values of its span
abbrev pub own_of_span : ℕ → List Sample → StreamOf Channel → ℕ → List Bool
own_of_span count samples s k =
    own_bits s.channel (span_frames count s k) (k - span_first count s k) (span_frame_softs count samples s k)

module _ {count : ℕ} {samples : List Sample} {s : StreamOf Channel} {bits_of : ℕ → List Bool} {base : ℕ}
    (is : AreFramesShown count samples s bits_of base) (k : ℕ) (here : is_in_file count s k ≡ true) where
  abbrev first : ℕ
  first = span_first count s k

  abbrev frames : ℕ
  frames = span_frames count s k

  -- the soft values of the span have the signs of the sent codeword's symbols
  span_shows : ShowCodeword s.channel frames (sent_codeword count s bits_of base k) (span_frame_softs count samples s k)
  span_shows =
      let at = in_span count s k here in
      subst (λ (xs : List Bool). HaveSigns xs (span_frame_softs count samples s k))
      (sym (sent_as_one s.channel bits_of (base + first) frames is.whole.enough is.each))
      (zipped_frames HasSign (λ j. order_of s bits_of (base + first + j))
      (λ j. frame_softs samples s (first + j)) frames
      (λ j lt.
      let e : base + (first + j) ≡ base + first + j = omega arith in
      subst (λ (n : ℕ). HaveSigns (order_of s bits_of n) (frame_softs samples s (first + j))) e
      (is.shown (first + j) (at.there j lt))))

  codeword_allowed : IsAllowed Free (s.channel.bits * frames) (sent_codeword count s bits_of base k)
  codeword_allowed = record {
    start_long = length-before bits_of s.channel.bits (base + first) is.whole.enough is.each;
    bits_long = length-frames (λ j. bits_of (base + first + j)) s.channel.bits frames
        (λ j. is.each (base + first + j));
    begins = tt;
    closes = tt;
  }

  -- a frame in the file has the bits that were sent
  pub shown_in_span : own_of_span count samples s k ≡ bits_of (base + k)
  shown_in_span =
      let at = in_span count s k here in
      let place : base + first + (k - first) ≡ base + k = omega (arith, at.from) in
      shown_codeword_own s.channel (symbols s.form) frames (k - first)
      (sent_codeword count s bits_of base k) (span_frame_softs count samples s k) is.whole span_shows at.to
      codeword_allowed
      ∙ frame_at (λ j. bits_of (base + first + j)) s.channel.bits frames (k - first)
      (λ j. is.each (base + first + j)) at.to
      ∙ ap bits_of place

  -- and the codeword that was sent is the only best one of its span
  pub shown_alone : IsOnlyBest count samples s k (sent_codeword count s bits_of base k)
  shown_alone =
      let at = in_span count s k here in
      record {
        allowed = codeword_allowed;
        lesser = λ w q other.
            shown_codeword_alone s.channel (symbols s.form) frames
            (sent_codeword count s bits_of base k) w (span_frame_softs count samples s k) is.whole
            (at_least s.channel.bits frames is.whole.enough (omega (arith, at.to))) span_shows
            codeword_allowed q other;
      }
    where
      at_least : (bits frames : ℕ) → 8 ≤ bits → 0 < frames → 8 ≤ bits * frames
      at_least bits frames enough some =
          let more : bits * 1 ≤ bits * frames = mul-le-mul_left bits some in
          omega (arith, more, enough)

-- ---- a stream whose soft values are 0

-- frames of one value each are one list of it
constant_frames : {A : Type 0} (m n : ℕ) (x : A) → flat_map (λ j. replicate m x) (places n) ≡ replicate (m * n) x
constant_frames {A} m zero x =
    let e : 0 ≡ m * 0 = omega arith in
    flat_map-zero (λ j. replicate m x) ∙ ap (λ (k : ℕ). replicate k x) e
constant_frames {A} m (suc n) x =
    let e : m * n + m ≡ m * suc n = omega arith in
    flat_map-next (λ j. replicate m x) n
    ∙ ap (λ (r : List A). r ++ replicate m x) (constant_frames m n x)
    ∙ replicate-append-replicate (m * n) m x
    ∙ ap (λ (k : ℕ). replicate k x) e

-- A frame whose span has soft values of 0 has bits of 0.
pub silent_in_span : (count k : ℕ) (samples : List Sample) (s : StreamOf Channel) → 8 ≤ s.channel.bits →
    ((j : ℕ) → is_in_file count s j ≡ true →
    frame_softs samples s j ≡ replicate (symbols s.form) (pos 0)) →
    is_in_file count s k ≡ true → own_of_span count samples s k ≡ replicate s.channel.bits false
silent_in_span count k samples s enough shown here =
    let at = in_span count s k here in
    let first = span_first count s k in
    let frames = span_frames count s k in
    ap (own_bits s.channel frames (k - first))
    (flat_map_ext_places (λ j. frame_softs samples s (first + j)) (λ j. replicate (symbols s.form) (pos 0)) frames
    (λ j lt. shown (first + j) (at.there j lt))
    ∙ constant_frames (symbols s.form) frames (pos 0))
    ∙ silent_own s.channel (symbols s.form * frames) frames (k - first) enough at.to

-- ---- a channel of a clean link that a stream hears and reads

heard_begins : (form : Form) (start first channel_first base k : ℕ) →
    start + first ≡ channel_first + frame_chips form * base →
    start + (first + frame_chips form * k) ≡ channel_first + frame_chips form * (base + k)
heard_begins Sync start first channel_first base k is = omega (arith, is)
heard_begins Data start first channel_first base k is = omega (arith, is)

-- a frame of the stream is one of the channel's
pub heard_frame : (plan : CellPlan) (c : Carrier) (s : StreamOf Channel) (base k : ℕ) → IsHeardBy plan c s base →
    is_in_file plan.link.samples s k ≡ true → IsFrameOf plan c s.form (frame_start s k) (base + k)
heard_frame plan c s base k heard here = record {
  room = room_alone plan.link.samples s k
      (record { phase = phase_at plan plan.link.start; row = c.row; fingers = heard.alone })
      here;
  frame_long = heard.frame_long;
  symbol_long = heard.symbol_long;
  begins = heard_begins s.form plan.link.start s.first c.first base k heard.begins;
}

module _ (R : Bool → ℤ → Type 0) (turns : Turns R) {plan : CellPlan} {c : Carrier} {s : StreamOf Channel}
    {bits_of : ℕ → List Bool} {base : ℕ} (samples : List Sample) (heard : IsHeardBy plan c s base)
    (read : AreReadBy c s bits_of base) where
  -- its descrambled soft values stand to the symbols before scrambling as the raw ones to those sent
  pub stream_related : (k : ℕ) → FrameRelates R plan c s.form samples (base + k) →
      is_in_file plan.link.samples s k ≡ true → AllZip R (order_of s bits_of (base + k)) (frame_softs samples s k)
  stream_related k relates here =
      let bits = s.scrambling k in
      let code = continued_symbols bits_of (base + k) in
      let order = sent s.channel.shape s.channel.repeats code in
      let long : length order ≡ symbols s.form =
      length-sent s.channel.shape s.channel.repeats code ∙ read.whole.count in
      let u = frame_start s k in
      let all : length (c.symbols (base + k)) ≡ symbols s.form =
      ap length (read.sent k)
      ∙ length-scrambled (symbols s.form) bits order (read.scrambles k) long in
      unscrambled_related R turns (symbols s.form) bits order (softs samples s.fingers s.form u) (read.scrambles k) long
      (subst (λ (fs : List Finger). AllZip R (scrambled_with bits order) (softs samples fs s.form u)) (sym heard.alone)
      (subst (λ (xs : List Bool). AllZip R xs (softs samples (path_finger plan c.row ∷ []) s.form u))
      (read.sent k) (relates u (heard_frame plan c s base k heard here) all)))

pub heard_shown : {plan : CellPlan} {c : Carrier} {s : StreamOf Channel} {bits_of : ℕ → List Bool} {base : ℕ}
    (samples : List Sample) → ((k : ℕ) → FrameRelates HasSign plan c s.form samples (base + k)) →
    IsHeardBy plan c s base → AreReadBy c s bits_of base → AreFramesShown plan.link.samples samples s bits_of base
heard_shown samples relates heard read = record {
  whole = read.whole;
  each = read.each;
  shown = λ k here. stream_related HasSign signs_turn samples heard read k (relates k) here;
}

-- The codeword that clean soft values show has the greatest score alone, and so it is decoded.
use Rattle.clean_signal.proofs.Common.{HasSign, HaveSigns, zeros_score, ◌≡◌, ◌≢◌, ℕ, zero, suc, ◌+◌, ◌-◌, ◌*◌, ◌/◌, ◌<◌, ◌≤◌, Bool, false}
use Rattle.clean_signal.proofs.Common.{List, ◌++◌, length, get_or, take, drop, replicate, refl, sym, ap, subst, ◌∙◌, arith, inl, ℤ, ◌<ℤ◌}
use Rattle.clean_signal.proofs.Common.{pos, flat_map, mul-le-mul_right, div-eq_of_eq-mul_left, by_lt_z, ints, ext_get_or, length-replicate}
use Rattle.clean_signal.proofs.Common.{length-take-le, drop-replicate, take-replicate, take_all, places, code_symbols, length-code_symbols}
use Rattle.clean_signal.proofs.Common.{distinct, Shape, place, sent, shape_of, size, repeats_of, Kind, Rate, R9600, FrameKind, Paging}
use Rattle.clean_signal.proofs.Common.{length-sent, get_or-sent, repeats_some, size_some, place_lt, address-place, Free, IsAllowed}
use Rattle.clean_signal.proofs.Common.{IsBestCodeword, Codeword, best_codeword, score_of, codewords_same, zero_codeword_best, by_definition}
use Rattle.clean_signal.proofs.Common.{Channel, channel_for, gathered_span, own_bits, score, sending, sent_symbols, own_is}
use Rattle.clean_signal.proofs.Common.{best_codeword-same, length-gathered_span, within, flat_map-zero, flat_map-next, length-frames, inr}
use Rattle.clean_signal.proofs.Common.{take-frames, score_is, flat_map_ext_places, IsWholeChannel, length-drop, AllZip-long, cases_lt}
use Rattle.clean_signal.proofs.Common.{signs_agree_alone, drop_at, drop-append-le, take-append-le, state_after, continued, state_after-none}
use Rattle.clean_signal.proofs.Common.{code_symbols-none, length-state_after, state_after-append, bits_before, continued_symbols}
use Rattle.clean_signal.proofs.Common.{last_eight, span_codeword, continued_is}
use Rattle.frame_decoder.specs.declared.span_format.FrameKind.TheVariants.{Sync}
use Rattle.symbol_path.specs.declared.kinds.Kind as kinds

-- frame k of frames that follow one another
pub frame_at : {A : Type 0} (f : ℕ → List A) (b m k : ℕ) → ((j : ℕ) → length (f j) ≡ b) → k < m →
    take b (drop (b * k) (flat_map f (places m))) ≡ f k
frame_at f b zero k each lt = absurd (omega (arith, lt))
frame_at {A} f b (suc m) k each lt =
    let front = flat_map f (places m) in
    let long : length front ≡ b * m = length-frames f b m each in
    ap (λ (xs : List A). take b (drop (b * k) xs)) (flat_map-next f m)
    ∙ elim (cases_lt k m) [
      | inl low ↦
          let room = within b m k low in
          ap (take b) (drop-append-le (b * k) front (f m) (omega (arith, room, long)))
          ∙ take-append-le b (drop (b * k) front) (f m) (omega (arith, room, long, length-drop (b * k) front))
          ∙ frame_at f b m k each low
      | inr high ↦
          let e : k ≡ m = omega (arith, lt, high) in
          ap (λ (n : ℕ). take b (drop (b * n) (front ++ f m))) e
          ∙ ap (take b) (drop_at front (f m) (b * m) long)
          ∙ take_all b (f m) (omega (arith, each m))
          ∙ ap f (sym e)
    ]

-- ---- the encoder goes on

pub length-before : (bits_of : ℕ → List Bool) (n k : ℕ) → 8 ≤ n →
    ((j : ℕ) → length (bits_of j) ≡ n) → length (bits_before bits_of k) ≡ 8
unfolding bits_before
length-before bits_of n zero enough each = refl
length-before bits_of n (suc k) enough each =
    length-drop (length (bits_of k) - 8) (bits_of k) ∙ omega (arith, enough, each k)

-- after the frames of a span the encoder is where the next frame begins
state_after_span : (bits_of : ℕ → List Bool) (n first frames : ℕ) → 8 ≤ n → ((j : ℕ) → length (bits_of j) ≡ n) →
    state_after (bits_before bits_of first) (span_codeword bits_of first frames).bits ≡
    bits_before bits_of (first + frames)
unfolding bits_before
state_after_span bits_of n first zero enough each =
    let none : first ≡ first + 0 = omega arith in
    ap (state_after (bits_before bits_of first)) (flat_map-zero (λ j. bits_of (first + j)))
    ∙ state_after-none (bits_before bits_of first)
    ∙ ap (bits_before bits_of) none
state_after_span bits_of n first (suc m) enough each =
    let next : suc (first + m) ≡ first + suc m = omega arith in
    let start = bits_before bits_of first in
    let front = (span_codeword bits_of first m).bits in
    let here = bits_of (first + m) in
    let eight : length (state_after start front) ≡ 8 = length-state_after start front ∙
    length-before bits_of n first enough each in
    ap (state_after start) (flat_map-next (λ j. bits_of (first + j)) m)
    ∙ state_after-append start front here
    ∙ last_eight (state_after start front) here eight (omega (arith, enough, each (first + m)))
    ∙ ap (bits_before bits_of) next

-- the code symbols of the frames of a span are those of one codeword
one_codeword : (bits_of : ℕ → List Bool) (n first frames : ℕ) → 8 ≤ n → ((j : ℕ) → length (bits_of j) ≡ n) →
    flat_map (λ j. continued_symbols bits_of (first + j)) (places frames) ≡
    code_symbols (bits_before bits_of first) (span_codeword bits_of first frames).bits
one_codeword bits_of n first zero enough each =
    flat_map-zero (λ j. continued_symbols bits_of (first + j))
    ∙ sym (ap (code_symbols (bits_before bits_of first)) (flat_map-zero (λ j. bits_of (first + j))) ∙
    code_symbols-none (bits_before bits_of first))
one_codeword bits_of n first (suc m) enough each =
    let start = bits_before bits_of first in
    let front = (span_codeword bits_of first m).bits in
    let here = bits_of (first + m) in
    flat_map-next (λ j. continued_symbols bits_of (first + j)) m
    ∙ ap (λ (xs : List Bool). xs ++ continued_symbols bits_of (first + m)) (one_codeword bits_of n first m enough each)
    ∙ ap (λ (xs : List Bool). code_symbols start front ++ xs) (continued_is bits_of (first + m))
    ∙ ap (λ (xs : List Bool). code_symbols start front ++ code_symbols xs here)
    (sym (state_after_span bits_of n first m enough each))
    ∙ sym (continued start front here (length-before bits_of n first enough each))
    ∙ ap (code_symbols start) (sym (flat_map-next (λ j. bits_of (first + j)) m))

length-continued : (bits_of : ℕ → List Bool) (n k : ℕ) → ((j : ℕ) → length (bits_of j) ≡ n) →
    length (continued_symbols bits_of k) ≡ 2 * n
length-continued bits_of n k each =
    ap length (continued_is bits_of k) ∙ length-code_symbols (bits_before bits_of k) (bits_of k) ∙
    ap (λ (m : ℕ). 2 * m) (each k)

-- so the symbols of the codeword, as they are sent, are the frames' one after the other
pub sent_as_one : (c : Channel) (bits_of : ℕ → List Bool) (first frames : ℕ) → 8 ≤ c.bits →
    ((j : ℕ) → length (bits_of j) ≡ c.bits) → sent_symbols (sending c frames) (span_codeword bits_of first frames) ≡
    flat_map (λ j. sent c.shape c.repeats (continued_symbols bits_of (first + j))) (places frames)
sent_as_one c bits_of first frames enough each =
    let code = λ (j : ℕ). continued_symbols bits_of (first + j) in
    let n = 2 * c.bits in
    flat_map_ext_places
    (λ j. sent c.shape c.repeats
    (take n (drop (n * j) (code_symbols (bits_before bits_of first) (span_codeword bits_of first frames).bits))))
    (λ j. sent c.shape c.repeats (code j)) frames
    (λ j lt.
    ap (λ (xs : List Bool). sent c.shape c.repeats (take n (drop (n * j) xs)))
    (sym (one_codeword bits_of c.bits first frames enough each))
    ∙ ap (sent c.shape c.repeats) (frame_at code n frames j (λ i. length-continued bits_of c.bits (first + i) each) lt))

-- ---- equal sent symbols come from equal codewords

times_over : (c repeats : ℕ) → 0 < repeats → c * repeats / repeats ≡ c
times_over c repeats some = div-eq_of_eq-mul_left some refl

-- a code symbol where it is first sent
sent_back : (kind : Kind) (repeats c : ℕ) (code : List Bool) → 0 < repeats → c * repeats < size (shape_of kind) →
    get_or (sent (shape_of kind) repeats code) (place (shape_of kind) (c * repeats)) false ≡ get_or code c false
sent_back kind repeats c code some low =
    get_or-sent (shape_of kind) repeats code (place (shape_of kind) (c * repeats)) (place_lt kind (c * repeats) low)
    ∙ ap (λ (a : ℕ). get_or code (a / repeats) false) (address-place kind (c * repeats) low)
    ∙ ap (λ (a : ℕ). get_or code a false) (times_over c repeats some)

-- so the sent symbols of a frame fix its code symbols
sent_same : (kind : Kind) (repeats n : ℕ) (one other : List Bool) →
    n * repeats ≡ size (shape_of kind) → length one ≡ n → length other ≡ n →
    sent (shape_of kind) repeats one ≡ sent (shape_of kind) repeats other → one ≡ other
sent_same kind repeats n one other fills long long' same =
    let some = repeats_some n repeats (size (shape_of kind)) fills (size_some kind) in
    ext_get_or false one other (long ∙ sym long')
    (λ c lt.
    let low : c * repeats < size (shape_of kind) =
    let most : (c + 1) * repeats ≤ n * repeats = mul-le-mul_right repeats (omega (arith, lt, long)) in
    omega (arith, most, some, fills) in
    sym (sent_back kind repeats c one some low)
    ∙ ap (λ (xs : List Bool). get_or xs (place (shape_of kind) (c * repeats)) false) same
    ∙ sent_back kind repeats c other some low)

-- a list is its pieces one after the other
pieces_of : (xs : List Bool) (size n : ℕ) →
    take (size * n) xs ≡ flat_map (λ k. take size (drop (size * k) xs)) (places n)
pieces_of xs size zero =
    let none : size * 0 ≡ 0 = omega arith in
    ap (λ (k : ℕ). take k xs) none ∙ sym (flat_map-zero (λ k. take size (drop (size * k) xs)))
pieces_of xs size (suc n) =
    take-frames xs size n
    ∙ ap (λ (front : List Bool). front ++ take size (drop (size * n) xs)) (pieces_of xs size n)
    ∙ sym (flat_map-next (λ k. take size (drop (size * k) xs)) n)

piece_long : (xs : List Bool) (size n k : ℕ) → length xs ≡ size * n → k < n →
    length (take size (drop (size * k) xs)) ≡ size
piece_long xs size n k long lt =
    let room = within size n k lt in
    length-take-le size (drop (size * k) xs) (omega (arith, room, long, length-drop (size * k) xs))

-- equal frames come from equal code symbols
frames_same : (kind : Kind) (repeats n frames : ℕ) (one other : List Bool) →
    n * repeats ≡ size (shape_of kind) → length one ≡ n * frames → length other ≡ n * frames →
    flat_map (λ k. sent (shape_of kind) repeats (take n (drop (n * k) one))) (places frames) ≡
    flat_map (λ k. sent (shape_of kind) repeats (take n (drop (n * k) other))) (places frames) → one ≡ other
frames_same kind repeats n frames one other fills long long' same =
    let s = shape_of kind in
    let piece = λ (xs : List Bool) (k : ℕ). take n (drop (n * k) xs) in
    let frame = λ (xs : List Bool) (k : ℕ). sent s repeats (piece xs k) in
    let read = λ (xs : List Bool) (k : ℕ) (lt : k < frames).
    frame_at (frame xs) (size s) frames k (λ j. length-sent s repeats (piece xs j)) lt in
    sym (take_all (n * frames) one (omega (arith, long)))
    ∙ pieces_of one n frames
    ∙ flat_map_ext_places (piece one) (piece other) frames
    (λ k lt.
    sent_same kind repeats n (piece one k) (piece other k) fills (piece_long one n frames k long lt)
    (piece_long other n frames k long' lt)
    (sym (read one k lt)
    ∙ ap (λ (xs : List Bool). take (size s) (drop (size s * k) xs)) same
    ∙ read other k lt))
    ∙ sym (pieces_of other n frames)
    ∙ take_all (n * frames) other (omega (arith, long'))

-- ---- a channel of whole frames

-- the channel of a kind of frames
abbrev channel : Kind → ℕ → ℕ → Channel
channel kind bits repeats = record { shape = shape_of kind; bits = bits; repeats = repeats }

code_long : (w : Codeword) (bits n : ℕ) → length w.bits ≡ bits * n → length (code_symbols w.start w.bits) ≡ 2 * bits * n
code_long w bits n long = length-code_symbols w.start w.bits ∙ ap (λ (k : ℕ). 2 * k) long ∙ omega arith

codeword_same : (kind : Kind) (bits repeats n : ℕ) (w v : Codeword) →
    2 * bits * repeats ≡ size (shape_of kind) → 8 ≤ bits * n → IsAllowed Free (bits * n) w →
    IsAllowed Free (bits * n) v → sent_symbols (sending (channel kind bits repeats) n) w ≡
    sent_symbols (sending (channel kind bits repeats) n) v → w ≡ v
codeword_same kind bits repeats n w v fills enough p q same =
    let symbols =
    frames_same kind repeats (2 * bits) n (code_symbols w.start w.bits)
    (code_symbols v.start v.bits) fills (code_long w bits n p.bits_long) (code_long v bits n q.bits_long) same in
    let fixed =
    distinct w.start v.start w.bits v.bits p.start_long q.start_long
    (omega (arith, enough, p.bits_long)) (p.bits_long ∙ sym q.bits_long) symbols in
    codewords_same w v fixed.starts fixed.all

length-sent_symbols : (c : Channel) (n : ℕ) (w : Codeword) → length (sent_symbols (sending c n) w) ≡ size c.shape * n
length-sent_symbols c n w =
    length-frames
    (λ k. sent c.shape c.repeats
    (take (2 * c.bits) (drop (2 * c.bits * k) (code_symbols w.start w.bits)))) (size c.shape) n
    (λ k. length-sent c.shape c.repeats _)

-- soft values with the signs of a codeword's symbols, as they are sent
abbrev pub ShowCodeword : Channel → ℕ → Codeword → List ℤ → Type 0
ShowCodeword c n w softs = HaveSigns (sent_symbols (sending c n) w) softs

module _ (kind : Kind) (bits repeats n : ℕ) (best : Codeword) (softs : List ℤ)
    (fills : 2 * bits * repeats ≡ size (shape_of kind)) (enough : 8 ≤ bits * n)
    (show : ShowCodeword (channel kind bits repeats) n best softs)
    (p : IsAllowed Free (bits * n) best) where
  abbrev c : Channel
  c = channel kind bits repeats

  -- every other codeword has a lesser score under them
  kind_alone : (w : Codeword) → IsAllowed Free (bits * n) w → w ≢ best →
      score softs (sending c n) w <ℤ score softs (sending c n) best
  kind_alone w q other =
      by_lt_z (score softs (sending c n) w) (score softs (sending c n) best) (λ less. less)
      (λ reaches. absurd (other (codeword_same kind bits repeats n w best fills enough q p
      (sym (signs_agree_alone softs (sent_symbols (sending c n) best) (sent_symbols (sending c n) w) show
      (length-sent_symbols c n best ∙ sym (length-sent_symbols c n w)) reaches)))))

  -- so it is decoded from the gathered soft values
  kind_best : IsBestCodeword (gathered_span c n softs) Free best
  kind_best =
      let size_is : length softs ≡ size c.shape * n =
      AllZip-long HasSign (sent_symbols (sending c n) best) softs show
      ∙ length-sent_symbols c n best in
      record {
        half = ap (λ (k : ℕ). 2 * k) p.bits_long ∙
            sym (length-gathered_span kind bits repeats n softs fills ∙ omega arith);
        allowed = subst (λ (k : ℕ). IsAllowed Free k best) (sym p.bits_long) p;
        first = λ w q other.
            let q' : IsAllowed Free (bits * n) w = subst (λ (k : ℕ). IsAllowed Free k w) p.bits_long q in
            let less = kind_alone w q' other in
            let one = score_is kind bits repeats n softs w fills size_is q'.bits_long in
            let two = score_is kind bits repeats n softs best fills size_is p.bits_long in
            inl (omega (arith, ints, less, one, two));
      }

-- the bits of a frame of it
kind_own : (kind : Kind) (bits repeats n own : ℕ) (best : Codeword) (softs : List ℤ) →
    2 * bits * repeats ≡ size (shape_of kind) → 8 ≤ bits →
    ShowCodeword (channel kind bits repeats) n best softs → own < n → IsAllowed Free (bits * n) best →
    own_bits (channel kind bits repeats) n own softs ≡ take bits (drop (bits * own) best.bits)
kind_own kind bits repeats n own best softs fills enough show lt p =
    let c = channel kind bits repeats in
    let room = within bits n own lt in
    sym (own_is kind bits repeats n own softs best enough fills
    (AllZip-long HasSign (sent_symbols (sending c n) best) softs show ∙ length-sent_symbols c n best)
    lt (kind_best kind bits repeats n best softs fills (omega (arith, room, enough)) show p))

-- ---- soft values of 0

-- so the bits of each frame are zeros
pub silent_own : (c : Channel) (m n own : ℕ) → 8 ≤ c.bits → own < n →
    own_bits c n own (replicate m (pos 0)) ≡ replicate c.bits false
silent_own c m n own enough lt =
    let bits = c.bits * n in
    let room = within c.bits n own lt in
    let zeros : Codeword = record { start = replicate 8 false; bits = replicate bits false } in
    let long : 8 ≤ bits = omega (arith, room, enough) in
    let best : best_codeword (score (replicate m (pos 0)) (sending c n)) Free bits ≡ zeros =
    best_codeword-same (score (replicate m (pos 0)) (sending c n)) (score_of (replicate (2 * bits) (pos 0))) bits
    (λ w size. zeros_score m (sent_symbols (sending c n) w) ∙
    sym (zeros_score (2 * bits) (code_symbols w.start w.bits)))
    ∙ sym (by_definition (replicate (2 * bits) (pos 0)) Free bits zeros long
    (length-replicate (2 * bits) (pos 0)) (zero_codeword_best Free bits long)) in
    ap (λ (w : Codeword). take c.bits (drop (c.bits * own) w.bits)) best
    ∙ ap (take c.bits) (drop-replicate (c.bits * own) bits false)
    ∙ take-replicate c.bits (bits - c.bits * own) false (omega (arith, room))

-- ---- of any channel of whole frames

-- how many symbols a frame of each kind has
abbrev pub symbols_in : FrameKind → ℕ
symbols_in Sync = 128
symbols_in (Paging rate) = 384

-- frames of each kind are whole
pub whole_frames : (kind : FrameKind) → IsWholeChannel (channel_for kind) (symbols_in kind)
whole_frames Sync = record {
  kind = kinds.TheVariants.Sync;
  shape = refl;
  count = refl;
  fills = refl;
  enough = omega arith;
}
whole_frames (Paging rate) = record {
  kind = kinds.TheVariants.Data;
  shape = refl;
  count = refl;
  fills = paging_fills rate;
  enough = paging_enough rate;
}
  where
    paging_fills : (rate : Rate) → 2 * (192 / repeats_of rate) * repeats_of rate ≡ 384
    paging_fills R9600 = refl
    paging_fills rate = refl

    paging_enough : (rate : Rate) → 8 ≤ 192 / repeats_of rate
    paging_enough R9600 = omega arith
    paging_enough rate = omega arith

kind_of : (c : Channel) (symbols : ℕ) (whole : IsWholeChannel c symbols) → c ≡ channel whole.kind c.bits c.repeats
kind_of c symbols whole =
    let shaped : Shape → Channel = λ s. record { shape = s; bits = c.bits; repeats = c.repeats } in
    ap shaped whole.shape

pub shown_codeword_alone : (c : Channel) (symbols n : ℕ) (best w : Codeword) (softs : List ℤ) →
    IsWholeChannel c symbols → 8 ≤ c.bits * n → ShowCodeword c n best softs →
    IsAllowed Free (c.bits * n) best → IsAllowed Free (c.bits * n) w → w ≢ best →
    score softs (sending c n) w <ℤ score softs (sending c n) best
shown_codeword_alone c symbols n best w softs whole enough show p q other =
    let is = kind_of c symbols whole in
    subst (λ (d : Channel). score softs (sending d n) w <ℤ score softs (sending d n) best) (sym is)
    (kind_alone whole.kind c.bits c.repeats n best softs (whole.fills ∙ ap size whole.shape) enough
    (subst (λ (d : Channel). ShowCodeword d n best softs) is show) p w q other)

pub shown_codeword_own : (c : Channel) (symbols n own : ℕ) (best : Codeword) (softs : List ℤ) →
    IsWholeChannel c symbols → ShowCodeword c n best softs → own < n → IsAllowed Free (c.bits * n) best →
    own_bits c n own softs ≡ take c.bits (drop (c.bits * own) best.bits)
shown_codeword_own c symbols n own best softs whole show lt p =
    let is = kind_of c symbols whole in
    subst (λ (d : Channel). own_bits d n own softs ≡ take c.bits (drop (c.bits * own) best.bits)) (sym is)
    (kind_own whole.kind c.bits c.repeats n own best softs (whole.fills ∙ ap size whole.shape)
    whole.enough (subst (λ (d : Channel). ShowCodeword d n best softs) is show) lt p)

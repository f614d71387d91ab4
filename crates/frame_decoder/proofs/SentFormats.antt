-- A sent frame of any rate set comes back, and soft values of 0 give none.
use Rattle.frame_decoder.proofs.Common.{◌≡◌, ℕ, ◌-◌, ◌*◌, ◌<◌, inl, inr, ⊎_elim, Bool, true, false, List, [], ◌∷◌, ◌++◌, length, map, take}
use Rattle.frame_decoder.proofs.Common.{drop, replicate, refl, sym, ap, ◌∙◌, arith, ℤ, pos, append_assoc, ◌≤ℤ◌, int_lt, All, get_or, None}
use Rattle.frame_decoder.proofs.Common.{Some, option_map, booleans_Decides, pointwise_decides, cases_Bool, take_at, drop_at, All-cons, Zero}
use Rattle.frame_decoder.proofs.Common.{length-replicate, All-nil, code_symbols, quality_indicator, quality_length, Codeword, score_of}
use Rattle.frame_decoder.proofs.Common.{length-quality_indicator, IsAllowed, by_definition, zero_codeword_best, FrameFormat, DecodedFrame}
use Rattle.frame_decoder.proofs.Common.{unreplaced, bits_in, symbols_in, score_in, codeword_in, is_right, frame_in, candidate_of, not_good}
use Rattle.frame_decoder.proofs.Common.{rising_choice, good_or, candidate_in, frame_of, shown_of, Option, ◌<ℤ◌, zeros_score, DecodesBySigns}
use Rattle.frame_decoder.proofs.Common.{KeepSigns, tested, untested}
use Rattle.quality_bits.proofs.Formats.{length-checked, length-format_codeword}
use Rattle.frame_decoder.proofs.SignedScores.{agree_left, own_some, shown_keep, shown_score}
use Rattle.frame_decoder.specs.Laws.{DecodesSentFrames, IsUnsharedIn, good_frame, sent_codeword}
use Rattle.frame_decoder.proofs.FormatChoice.{Below, IsAmong, chosen_is, candidate_below, first_found, rising_rates, silent_shown}
use Rattle.frame_decoder.proofs.FormatCodewords.{bits_least, length-symbols_in}
use Rattle.frame_decoder.proofs.ShownSymbols.{lt_true}
use Rattle.frame_decoder.proofs.Unreplaced.{zeros_kept}
use Rattle.frame_decoder.proofs.ZeroCodewords.{best_zero_codeword_allowed, best_zero_codeword_greatest, best_zero_codeword-same}

-- ---- the codeword of a frame
abbrev sent_bits : {R : Type 0} → FrameFormat R → List Bool → List Bool
sent_bits format information = (sent_codeword format information).bits

codeword_is : {R : Type 0} (format : FrameFormat R) (information : List Bool) → sent_bits format information
    ≡ information ++ (quality_indicator format.quality information ++ replicate 8 false)
codeword_is format information =
    append_assoc information (quality_indicator format.quality information) (replicate 8 false)

front_is : {R : Type 0} (format : FrameFormat R) (information : List Bool) → length information ≡ format.information →
    take format.information (sent_bits format information) ≡ information
front_is format information long =
    ap (take format.information) (codeword_is format information)
    ∙ take_at information (quality_indicator format.quality information ++ replicate 8 false)
    format.information long

-- A sent codeword's quality indicator is right: the bits after the information bits are the
-- indicator that was computed for these, and the tail bits come only after it.
codeword_right : {R : Type 0} (format : FrameFormat R) (information : List Bool) →
    length information ≡ format.information → is_right format (sent_bits format information) ≡ true
codeword_right format information long =
    let indicator = quality_indicator format.quality information in
    let bits = sent_bits format information in
    let end = take (quality_length format.quality) (drop format.information bits) in
    let sent = quality_indicator format.quality (take format.information bits) in
    let left : end ≡ indicator =
    ap (λ (xs : List Bool). take (quality_length format.quality) (drop format.information xs))
    (codeword_is format information)
    ∙ ap (take (quality_length format.quality))
    (drop_at information (indicator ++ replicate 8 false) format.information long)
    ∙ take_at indicator (replicate 8 false) (quality_length format.quality)
    (length-quality_indicator format.quality information) in
    let right : sent ≡ indicator = ap (quality_indicator format.quality) (front_is format information long) in
    (pointwise_decides booleans_Decides end sent).1 (left ∙ sym right)

pub codeword_allowed : {R : Type 0} (format : FrameFormat R) (information : List Bool) →
    length information ≡ format.information → IsAllowed Zero (bits_in format) (sent_codeword format information)
codeword_allowed format information long =
    let front = information ++ quality_indicator format.quality information in
    let size : length front ≡ bits_in format - 8 = omega (arith, length-checked format information long) in
    let all : length (front ++ replicate 8 false) ≡ bits_in format = length-format_codeword format information long in
    record {
      start_long = refl;
      bits_long = all;
      begins = refl;
      closes = ap (λ (k : ℕ). drop (k - 8) (front ++ replicate 8 false)) all
          ∙ drop_at front (replicate 8 false) (bits_in format - 8) size;
    }

pub codeword_in_allowed : {R : Type 0} (softs : List ℤ) (format : FrameFormat R) →
    IsAllowed Zero (bits_in format) (codeword_in softs format)
unfolding codeword_in
codeword_in_allowed softs format =
    best_zero_codeword_allowed (score_in softs format) (bits_in format) (bits_least format)

codeword_in_greatest : {R : Type 0} (softs : List ℤ) (format : FrameFormat R) (w : Codeword) →
    IsAllowed Zero (bits_in format) w → score_in softs format w ≤ℤ score_in softs format (codeword_in softs format)
unfolding codeword_in
codeword_in_greatest softs format w h =
    best_zero_codeword_greatest (score_in softs format) (bits_in format) w (bits_least format) h

-- ---- a sent frame
-- the codeword of a frame as a decoded frame
shown_own : {R : Type 0} (rate : R) (format : FrameFormat R) (information : List Bool) (m : ℤ) → pos 0 <ℤ m →
    format.rate ≡ rate → length information ≡ format.information →
    frame_in format (sent_bits format information) m ≡ good_frame rate information m
shown_own {R} rate format information m some named long =
    let with : R → Bool → List Bool → DecodedFrame R =
    λ r good bits. record { rate = r; good = good; bits = bits; score = m } in
    ap (λ (r : R). with r (int_lt (pos 0) m) (take format.information (sent_bits format information))) named
    ∙ ap (λ (good : Bool). with rate good (take format.information (sent_bits format information)))
    (lt_true (pos 0) m some)
    ∙ ap (with rate true) (front_is format information long)

-- a codeword of a rate that is the sent one
frame_same : {R : Type 0} (format_of : R → FrameFormat R) (softs : List ℤ) (rate r : R)
    (information : List Bool) (v : Codeword) →
    let w = sent_codeword (format_of rate) information in
    let m = score_in softs (format_of rate) w in
    pos 0 <ℤ m → (format_of rate).rate ≡ rate → length information ≡ (format_of rate).information → r ≡ rate → v ≡ w →
    frame_in (format_of r) v.bits (score_in softs (format_of r) v) ≡ good_frame rate information m
frame_same {R} format_of softs rate r information v some named long rates codewords =
    let w = sent_codeword (format_of rate) information in
    ap (λ (u : Codeword). frame_in (format_of r) u.bits (score_in softs (format_of r) u)) codewords
    ∙ ap (λ (q : R). frame_in (format_of q) w.bits (score_in softs (format_of q) w)) rates
    ∙ shown_own rate (format_of rate) information (score_in softs (format_of rate) w) some named long

-- what is known of the codewords among which each rate's candidate is
pub record AreCodewords {R : Type 0} (format_of : R → FrameFormat R) (softs : List ℤ)
    (codewords : R → List Codeword) : Type 0 where
  pub allowed : (r : R) → All (IsAllowed Zero (bits_in (format_of r))) (codewords r)
  pub first : (r : R) → take 1 (codewords r) ≡ codeword_in softs (format_of r) ∷ []

-- Soft values with the signs of the symbols of a frame, which no other codeword shares, have that frame chosen,
-- whatever their sizes: its codeword agrees with what is kept of them, and no other one as well.
pub signs_chosen : {R : Type 0} (format_of : R → FrameFormat R) (rates : List R) (replaced : List ℕ)
    (rate : R) (information : List Bool) (softs : List ℤ) (codewords : List ℤ → R → List Codeword) →
    ((r : R) → (format_of r).rate ≡ r) → ((r : R) → IsAmong r rates) →
    ((kept : List ℤ) → AreCodewords format_of kept (codewords kept)) →
    let w = sent_codeword (format_of rate) information in
    let kept = unreplaced replaced softs in
    length replaced < 384 → length softs ≡ 384 → length information ≡ (format_of rate).information →
    KeepSigns replaced (symbols_in (format_of rate) w) softs → IsUnsharedIn format_of replaced rate w →
    rising_choice None (map (λ r. candidate_of kept (format_of r) (codewords kept r)) rates)
    ≡ Some (good_frame rate information (score_in kept (format_of rate) w))
signs_chosen {R} format_of rates replaced rate information softs codewords named among known few long long'
    keeps unshared =
    let format = format_of rate in
    let w = sent_codeword format information in
    let xs = symbols_in format w in
    let size = length-symbols_in format w in
    let kept = unreplaced replaced softs in
    let all = known kept in
    let m = score_in kept format w in
    let more : pos 0 <ℤ m = own_some replaced xs softs few long size keeps in
    let d : DecodedFrame R = good_frame rate information m in
    let same : (r : R) (v : Codeword) → IsAllowed Zero (bits_in (format_of r)) v →
    m ≤ℤ score_in kept (format_of r) v → (r ≡ rate) × (v ≡ w) =
    λ r v allowed reaches.
    unshared r v allowed
    (agree_left replaced xs (symbols_in (format_of r) v) softs long size
    (length-symbols_in (format_of r) v) keeps reaches) in
    let low : (r : R) (v : Codeword) → IsAllowed Zero (bits_in (format_of r)) v →
    Below d (frame_in (format_of r) v.bits (score_in kept (format_of r) v)) = λ r v allowed.
    let s = score_in kept (format_of r) v in
    ⊎_elim (λ (t : int_lt s m ≡ true). inr (tested s m t))
    (λ (t : int_lt s m ≡ false).
    let e = same r v allowed (untested s m t) in
    inl (frame_same format_of kept rate r information v more (named rate) long' e.0 e.1))
    (cases_Bool (int_lt s m)) in
    let found : codeword_in kept format ≡ w =
    (same rate (codeword_in kept format) (codeword_in_allowed kept format)
    (codeword_in_greatest kept format w (codeword_allowed format information long'))).1 in
    let right : is_right format (codeword_in kept format).bits ≡ true =
    ap (λ (v : Codeword). is_right format v.bits) found ∙ codeword_right format information long' in
    chosen_is d (λ r. candidate_of kept (format_of r) (codewords kept r)) rate rates (among rate)
    (λ r. candidate_below d kept (format_of r) (codewords kept r)
    (λ i v b. low r (get_or (codewords kept r) i v) (all.allowed r i v b)))
    (ap (option_map (λ v. frame_in format v.bits (score_in kept format v)))
    (first_found (λ v. is_right format v.bits) (codewords kept rate) (codeword_in kept format) (all.first rate) right)
    ∙ ap Some
    (frame_same format_of kept rate rate information (codeword_in kept format) more (named rate) long' refl
    found))

-- the best codewords, without the choice among them
pub best_codewords : {R : Type 0} (format_of : R → FrameFormat R) (kept : List ℤ) →
    AreCodewords format_of kept (λ r. codeword_in kept (format_of r) ∷ [])
best_codewords format_of kept = record {
  allowed = λ r.
      let is : Codeword → Type 0 = IsAllowed Zero (bits_in (format_of r)) in
      All-cons is (codeword_in kept (format_of r)) [] (codeword_in_allowed kept (format_of r)) (All-nil is);
  first = λ r. refl;
}

-- Soft values with the signs of a frame's symbols, which no other codeword shares, are decoded as that frame:
-- to choose the highest rate after the lower ones is the rising choice among all rates, which takes that frame.
pub signs_decoded : {R D : Type 0} (format_of : R → FrameFormat R) (shown : DecodedFrame R → D) (highest : R)
    (lower : List R) → ((r : R) → (format_of r).rate ≡ r) → ((r : R) → IsAmong r (lower ++ highest ∷ [])) →
    DecodesBySigns format_of shown
    (λ replaced softs. shown (frame_of (format_of highest) (map format_of lower) replaced softs))
unfolding frame_of
signs_decoded {R} format_of shown highest lower named among replaced rate information softs few long long'
    keeps unshared =
    let kept = unreplaced replaced softs in
    let format = format_of highest in
    let codeword = codeword_in kept format in
    ap (λ (best : Option (DecodedFrame R)). shown (good_or format codeword.bits (score_in kept format codeword) best))
    (sym (rising_rates (candidate_in kept) format_of lower highest None)
    ∙ signs_chosen format_of (lower ++ highest ∷ []) replaced rate information softs
    (λ ks r. codeword_in ks (format_of r) ∷ []) named among (best_codewords format_of) few long long' keeps
    unshared)

-- A decoder that goes by signs decodes sent frames: soft values that show a frame's symbols with one strength
-- have their signs, and the score is that strength once for each place that no power control bit replaces.
pub shown_decoded : {R D : Type 0} (format_of : R → FrameFormat R) (shown : DecodedFrame R → D)
    (decoded : List ℕ → List ℤ → D) → DecodesBySigns format_of shown decoded → DecodesSentFrames format_of shown decoded
shown_decoded format_of shown decoded signs n replaced rate information softs some few long long' shows unshared =
    let format = format_of rate in
    let w = sent_codeword format information in
    let xs = symbols_in format w in
    signs replaced rate information softs few long long' (shown_keep n replaced xs softs some shows) unshared
    ∙ ap (λ (score : ℤ). shown (good_frame rate information score))
    (shown_score n replaced xs softs some long (length-symbols_in format w) shows)

-- ---- nothing heard
-- Where nothing was heard the best codeword is that of zeros: every codeword scores 0 for the
-- frame, as it does for code symbols of 0, where the codeword of zeros is the best one.
zeros_codeword : {R : Type 0} (n : ℕ) (format : FrameFormat R) → codeword_in (replicate n (pos 0)) format
    ≡ record { start = replicate 8 false; bits = replicate (bits_in format) false }
unfolding codeword_in
zeros_codeword n format =
    let count = bits_in format in
    let zeros : List ℤ = replicate n (pos 0) in
    let code : List ℤ = replicate (2 * count) (pos 0) in
    best_zero_codeword-same (score_in zeros format) (score_of code) count (bits_least format)
    (λ w long. zeros_score n (symbols_in format w)
    ∙ sym (zeros_score (2 * count) (code_symbols w.start w.bits)))
    ∙ sym (by_definition code Zero count
    (record { start = replicate 8 false; bits = replicate count false }) (bits_least format)
    (length-replicate (2 * count) (pos 0)) (zero_codeword_best Zero count (bits_least format)))

nothing_shown : {R : Type 0} (highest : FrameFormat R) (lower : List (FrameFormat R)) (n : ℕ) →
    shown_of highest lower (replicate n (pos 0)) ≡ not_good highest (replicate (bits_in highest) false) (pos 0)
nothing_shown highest lower n =
    let zeros : List ℤ = replicate n (pos 0) in
    silent_shown zeros (codeword_in zeros) highest lower
    (λ format. zeros_score n (symbols_in format (codeword_in zeros format)))
    ∙ ap (λ (w : Codeword). not_good highest w.bits (pos 0)) (zeros_codeword n highest)

pub nothing_decoded : {R D : Type 0} (shown : DecodedFrame R → D) (highest : FrameFormat R)
    (lower : List (FrameFormat R)) (n : ℕ) (replaced : List ℕ) →
    shown (frame_of highest lower replaced (replicate n (pos 0)))
    ≡ shown (not_good highest (replicate (bits_in highest) false) (pos 0))
unfolding frame_of
nothing_decoded shown highest lower n replaced =
    ap (λ (ks : List ℤ). shown (shown_of highest lower ks)) (zeros_kept replaced n)
    ∙ ap shown (nothing_shown highest lower n)

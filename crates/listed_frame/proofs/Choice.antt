-- The frame that the code chooses is the definition's, and with one codeword that of the best codewords.
use Rattle.listed_frame.proofs.Common.{◌≡◌, ℕ, ◌<◌, List, [], ◌∷◌, ◌++◌, map, refl, ap, ◌∙◌, ℤ, Option, None, Some, All, slice_get, Rate}
use Rattle.listed_frame.proofs.Common.{R9600, R4800, R2400, R1200, Codeword, FrameFormat, DecodedFrame, format_of, score_in, codeword_in}
use Rattle.listed_frame.proofs.Common.{candidate_of, candidate_in, preferred, rising_choice, good_or, frame_of, codeword_of, Entry, listed}
use Rattle.listed_frame.proofs.Common.{codewords_in, listed_choice, listed_in, IsDecodedByOneCodeword}
use Rattle.frame_decoder.specs.TrafficFrames.{as_decoded, lower_rates, lower_formats, decoded, unreplaced}
use Rattle.listed_frame.proofs.FirstCodewords.{one_codeword}
use Rattle.listed_frame.proofs.Candidates.{listed_candidate, candidate_is, best_bits, best_score}

-- ---- with one codeword
-- where one codeword is listed it is the best
one_listed : (softs : List ℤ) (rate : Rate) →
    candidate_of softs (format_of rate) (codewords_in 1 softs (format_of rate)) ≡ candidate_in softs (format_of rate)
one_listed softs rate =
    ap (λ (ws : List Codeword). candidate_of softs (format_of rate) ws) (one_codeword softs (format_of rate))

pub decoded_by_one_codeword : IsDecodedByOneCodeword
unfolding listed decoded frame_of
decoded_by_one_codeword replaced softs =
    let kept = unreplaced replaced softs in
    let same : listed_in 1 kept ≡ frame_of (format_of R9600) lower_formats replaced softs =
    rw (
      one_listed kept R9600,
      one_listed kept R4800,
      one_listed kept R2400,
      one_listed kept R1200,
    ) refl in
    ap as_decoded same

-- ---- the code's choice
none_lower : (c : Option (DecodedFrame Rate)) → c ≡ preferred c None
none_lower None = refl
none_lower (Some f) = refl

-- The frame that the code chooses is the definition's: the first listed codeword of 9600 bps is the
-- best one, each rate's candidate is its first listed codeword with a right indicator, and a higher
-- rate's candidate is preferred only where it isn't worse than the lower one's.
pub decoded_by : (k : ℕ) (replaced : List ℕ) (softs kept : List ℤ) (format : FrameFormat Rate)
    (entries : List Entry) (first : Entry)
    (eighth quarter half full low mid all : Option (DecodedFrame Rate)) (f : DecodedFrame Rate)
    (own : ℤ) → 0 < k → kept ≡ unreplaced replaced softs → format ≡ format_of R9600 →
    map codeword_of entries ≡ codewords_in k kept format →
    All (λ e. e.score ≡ score_in kept format (codeword_of e)) entries → slice_get entries 0 ≡ Some first →
    eighth ≡ listed_choice k kept R1200 → quarter ≡ listed_choice k kept R2400 →
    half ≡ listed_choice k kept R4800 → full ≡ listed_candidate format entries →
    low ≡ preferred quarter eighth → mid ≡ preferred half low → all ≡ preferred full mid → own ≡ first.score →
    f ≡ good_or format first.word.bits own all → as_decoded f ≡ listed k replaced softs
unfolding listed
decoded_by k replaced softs kept format entries first eighth quarter half full low mid all f own
    some is at codewords scores top a b d e l m n o g =
    let choice : Rate → Option (DecodedFrame Rate) = listed_choice k kept in
    let first_codeword = codeword_in kept format in
    let same : codeword_of first ≡ first_codeword = best_bits k kept format entries first some codewords top in
    let own_is : own ≡ score_in kept format first_codeword =
    o ∙ best_score kept format entries first scores top ∙ ap (score_in kept format) same in
    let found : full ≡ candidate_of kept format (codewords_in k kept format) =
    e ∙ candidate_is k kept format entries codewords scores in
    let best : all ≡ rising_choice None (map choice (lower_rates ++ R9600 ∷ [])) =
    rw (n, m, l, a ∙ none_lower (choice R1200), b, d, found, at) refl in
    let shown : f ≡ listed_in k kept =
    g ∙ ap (λ (w : Codeword). good_or format w.bits own all) same ∙ rw (own_is, best, at) refl in
    ap as_decoded shown
    ∙ ap (λ (ks : List ℤ). as_decoded (listed_in k ks)) is

-- A sent frame is shown, however many codewords are listed.
use Rattle.listed_frame.proofs.Common.{ℕ, ◌<◌, List, [], ◌∷◌, ◌++◌, refl, ap, ◌∙◌, arith, ℤ, Option, Rate, R9600, R4800, R2400, R1200}
use Rattle.listed_frame.proofs.Common.{DecodedFrame, format_of, codeword_in, score_in, good_or, length-symbols_in, listed_count_of, listed}
use Rattle.listed_frame.proofs.Common.{listed_codewords, IsListedBySigns, IsSentFrameListed}
use Rattle.frame_decoder.specs.TrafficFrames.{as_decoded, frame_symbols, lower_rates, unreplaced}
use Rattle.frame_decoder.specs.Laws.{frame_codeword, good_frame}
use Rattle.frame_decoder.proofs.SentFrames.{among}
use Rattle.frame_decoder.proofs.SentFormats.{AreCodewords, signs_chosen}
use Rattle.frame_decoder.proofs.SignedScores.{shown_keep, shown_score}
use Rattle.listed_frame.proofs.FirstCodewords.{codewords_allowed, best_first}

some_listed : (k : ℕ) (rate : Rate) → 0 < k → 0 < listed_count_of k rate
some_listed k R9600 some = some
some_listed k R4800 some = some
some_listed k R2400 some = omega arith
some_listed k R1200 some = omega arith

are_codewords : (k : ℕ) → 0 < k → (kept : List ℤ) → AreCodewords format_of kept (listed_codewords k kept)
are_codewords k some kept = record {
  allowed = λ r. codewords_allowed (listed_count_of k r) kept (format_of r);
  first = λ r. best_first (listed_count_of k r) kept (format_of r) (some_listed k r some);
}

pub signs_frame_listed : IsListedBySigns
unfolding listed
signs_frame_listed k replaced rate information softs listing few long long' keeps unshared =
    let kept = unreplaced replaced softs in
    let codeword = codeword_in kept (format_of R9600) in
    ap (λ (best : Option (DecodedFrame Rate)).
    as_decoded (good_or (format_of R9600) codeword.bits (score_in kept (format_of R9600) codeword) best))
    (signs_chosen format_of (lower_rates ++ R9600 ∷ []) replaced rate information softs (listed_codewords k) (λ r. refl) among
    (are_codewords k listing) few long long' keeps unshared)

-- one number times the signs has the signs, and its sum is the score
pub sent_frame_listed : IsSentFrameListed
sent_frame_listed k n replaced rate information softs listing some few long long' shows unshared =
    let w = frame_codeword rate information in
    let xs = frame_symbols rate w in
    signs_frame_listed k replaced rate information softs listing few long long'
    (shown_keep n replaced xs softs some shows) unshared
    ∙ ap (λ (score : ℤ). as_decoded (good_frame rate information score))
    (shown_score n replaced xs softs some long (length-symbols_in (format_of rate) w) shows)

-- Decoding the frames of a traffic channel of any rate set by the formats of its rates: how well
-- codewords agree with soft values, and the choice among the candidates of the rates.
use Rattle.frame_decoder.specs.Common.{code_symbols, FrameFormat, sent_by, Codeword, correlation}
use Rattle.frame_decoder.specs.Common.{best_codeword, Zero}
use Rattle.std.specs.Prelude.{ℕ, Bool, false, if◌then◌else◌, List, [], ◌∷◌, map, take, drop, ℤ, pos}
use Rattle.std.specs.Prelude.{int_lt, Option, None, Some}
use Rattle.std.specs.List.{find}
use Rattle.std.specs.Option.{option_map}
use Rattle.std.specs.Cmp.Lexicographic.{pointwise}
use Rattle.std.proofs.Math.Bool.{beq}
use Rattle.quality_bits.specs.Kinds.{quality_indicator, quality_length}
pub use Rattle.quality_bits.specs.Formats.{IsFormat, bits_in, repeated_in}
pub use Rattle.quality_bits.specs.TrafficCodewords.{format_of}
pub use Rattle.symbol_path.specs.FormatSymbols.{place_in, gathered_in}
use Rattle.frame_decoder.specs.Replaced.{unreplaced}
use Rattle.frame_decoder.specs.declared.formats.DecodedFrame.{DecodedFrame}

-- ---- codewords and soft values
-- a codeword's symbols as a frame of the format sends them
abbrev pub symbols_in : {R : Type 0} → FrameFormat R → Codeword → List Bool
symbols_in format w = sent_by (place_in format) 384 (code_symbols w.start w.bits)

-- how well a codeword's symbols agree with the soft values
abbrev pub score_in : {R : Type 0} → List ℤ → FrameFormat R → Codeword → ℤ
score_in softs format w = correlation softs (symbols_in format w)

-- the best codeword of a format: of all that start from eight zeros and end with eight zeros
unfoldable pub codeword_in : {R : Type 0} → List ℤ → FrameFormat R → Codeword
codeword_in softs format = best_codeword (score_in softs format) Zero (bits_in format)

-- whether the quality indicator is that of the information bits; always true if a format has none
abbrev pub is_right : {R : Type 0} → FrameFormat R → List Bool → Bool
is_right format bits =
    pointwise beq
    (take (quality_length format.quality) (drop format.information bits))
    (quality_indicator format.quality (take format.information bits))

-- ---- frames
-- a codeword of a format as a frame: good exactly if its score is above 0
abbrev pub frame_in : {R : Type 0} → FrameFormat R → List Bool → ℤ → DecodedFrame R
frame_in format bits score = record {
  rate = format.rate;
  good = int_lt (pos 0) score;
  bits = take format.information bits;
  score = score;
}

-- the first of some codewords whose quality indicator is right, if any
abbrev pub first_right : {R : Type 0} → FrameFormat R → List Codeword → Option Codeword
first_right format codewords = find (λ w. is_right format w.bits) codewords

-- that codeword as a frame, if any
abbrev pub candidate_of : {R : Type 0} → List ℤ → FrameFormat R → List Codeword →
    Option (DecodedFrame R)
candidate_of softs format codewords =
    option_map (λ w. frame_in format w.bits (score_in softs format w))
    (first_right format codewords)

-- a format's candidate: its best codeword, if its quality indicator is right
abbrev pub candidate_in : {R : Type 0} → List ℤ → FrameFormat R → Option (DecodedFrame R)
candidate_in softs format = candidate_of softs format (codeword_in softs format ∷ [])

-- the frame with the greater score, the first if both are equal
abbrev pub better : {R : Type 0} → DecodedFrame R → DecodedFrame R → DecodedFrame R
better first second = if int_lt first.score second.score then second else first

-- the better of a higher rate's candidate and the best of the lower rates; the former on a tie
abbrev pub preferred : {R : Type 0} →
    Option (DecodedFrame R) → Option (DecodedFrame R) → Option (DecodedFrame R)
preferred None lower = lower
preferred (Some higher) None = Some higher
preferred (Some higher) (Some lower) = Some (better higher lower)

-- the best of `lower`, from lower rates, and these candidates, in the order of rising rates
abbrev pub rising_choice : {R : Type 0} →
    Option (DecodedFrame R) → List (Option (DecodedFrame R)) → Option (DecodedFrame R)
rising_choice lower [] = lower
rising_choice lower (candidate ∷ higher) = rising_choice (preferred candidate lower) higher

-- a frame that isn't good: the information bits of a codeword of the highest rate
abbrev pub not_good : {R : Type 0} → FrameFormat R → List Bool → ℤ → DecodedFrame R
not_good format bits score = record {
  rate = format.rate;
  good = false;
  bits = take format.information bits;
  score = score;
}

-- the best candidate if it is good, otherwise a codeword of the highest rate as a frame that isn't,
-- with the best candidate's score, or the codeword's own if there is no candidate
abbrev pub good_or : {R : Type 0} → FrameFormat R → List Bool → ℤ → Option (DecodedFrame R) →
    DecodedFrame R
good_or format bits score None = not_good format bits score
good_or format bits score (Some best) = if best.good then best else not_good format bits best.score

-- the frame decoded from the soft values `kept`, given the highest rate's format and those of the
-- lower rates, the lowest first
abbrev pub shown_of : {R : Type 0} → FrameFormat R → List (FrameFormat R) → List ℤ → DecodedFrame R
shown_of highest lower kept =
    let codeword = codeword_in kept highest in
    good_or highest codeword.bits (score_in kept highest codeword)
    (preferred (candidate_in kept highest) (rising_choice None (map (candidate_in kept) lower)))

-- the frame decoded from its soft values, of which those at the places `replaced` belong to power
-- control bits
unfoldable pub frame_of : {R : Type 0} → FrameFormat R → List (FrameFormat R) → List ℕ → List ℤ →
    DecodedFrame R
frame_of highest lower replaced softs = shown_of highest lower (unreplaced replaced softs)

-- Decoding a traffic frame of rate set 1 (TIA/EIA-95-B, 7.1.3.5) by lists of codewords.
use Rattle.std.specs.Prelude.{ℕ, List, [], ◌∷◌, ◌++◌, map, ℤ, Option, None}
use Rattle.quality_bits.specs.declared.rate.Rate.{Rate}
use Rattle.quality_bits.specs.declared.rate.Rate.TheVariants.{R9600, R4800, R2400, R1200}
use Rattle.viterbi.specs.Codewords.{Codeword}
use Rattle.viterbi.specs.declared.codeword.Ends.TheVariants.{Zero}
use Rattle.quality_bits.specs.declared.format.FrameFormat.{FrameFormat}
use Rattle.frame_decoder.specs.declared.formats.DecodedFrame.{DecodedFrame}
use Rattle.frame_decoder.specs.declared.traffic.Decoded.{Decoded}
use Rattle.frame_decoder.specs.Formats.{format_of, bits_in, score_in, codeword_in, candidate_of}
use Rattle.frame_decoder.specs.Formats.{rising_choice, good_or}
use Rattle.frame_decoder.specs.TrafficFrames.{as_decoded, lower_rates, unreplaced}
use Rattle.list_viterbi.specs.First.{first_codewords}

-- the first k codewords of a format, of those that start from eight zeros and end with eight zeros
abbrev pub codewords_in : ℕ → List ℤ → FrameFormat Rate → List Codeword
codewords_in k softs format = first_codewords k (score_in softs format) Zero (bits_in format)

-- the number of codewords of a rate that are listed: k if its frames have a quality indicator,
-- otherwise 1
abbrev pub listed_count_of : ℕ → Rate → ℕ
listed_count_of k R9600 = k
listed_count_of k R4800 = k
listed_count_of k R2400 = 1
listed_count_of k R1200 = 1

abbrev pub listed_codewords : ℕ → List ℤ → Rate → List Codeword
listed_codewords k softs rate = codewords_in (listed_count_of k rate) softs (format_of rate)

-- a rate's candidate: the first of these codewords with a right quality indicator, if any
abbrev pub listed_choice : ℕ → List ℤ → Rate → Option (DecodedFrame Rate)
listed_choice k softs rate = candidate_of softs (format_of rate) (listed_codewords k softs rate)

-- the frame that is decoded from the soft values that are kept
abbrev pub listed_in : ℕ → List ℤ → DecodedFrame Rate
listed_in k kept =
    let codeword = codeword_in kept (format_of R9600) in
    good_or (format_of R9600) codeword.bits (score_in kept (format_of R9600) codeword)
    (rising_choice None (map (listed_choice k kept) (lower_rates ++ R9600 ∷ [])))

-- the result for a frame's soft values, with the first k codewords of each rate that has a quality
-- indicator; the soft values at the places `replaced` belong to power control bits
unfoldable pub listed : ℕ → List ℕ → List ℤ → Decoded
listed k replaced softs = as_decoded (listed_in k (unreplaced replaced softs))

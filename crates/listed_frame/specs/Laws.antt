-- The laws of listed frames.
use Rattle.std.specs.Prelude.{◌≡◌, ℕ, ◌*◌, ◌<◌, Bool, true, List, length, ℤ, pos}
use Rattle.quality_bits.specs.TrafficCodewords.{information_of}
use Rattle.quality_bits.specs.declared.rate.Rate.{Rate}
use Rattle.frame_decoder.specs.Signs.{KeepSigns}
use Rattle.frame_decoder.specs.TrafficFrames.{decoded, frame_score, frame_symbols, unreplaced}
use Rattle.frame_decoder.specs.Laws.{frame_codeword, ShowSymbols, IsUnshared, kept_count}
use Rattle.listed_frame.specs.ListedFrames.{listed}

-- with one codeword per rate, the frame is the one decoded from the best codewords
abbrev pub IsDecodedByOneCodeword : Type 0
IsDecodedByOneCodeword =
    (replaced : List ℕ) (softs : List ℤ) → listed 1 replaced softs ≡ decoded replaced softs

-- soft values that show the symbols of a frame, which no other codeword shares, are decoded as that
-- frame, for any number of listed codewords
abbrev pub IsSentFrameListed : Type 0
IsSentFrameListed =
    (k strength : ℕ) (replaced : List ℕ) (rate : Rate) (information : List Bool)
    (softs : List ℤ) →
    let w = frame_codeword rate information in
    0 < k → 0 < strength → length replaced < 384 → length softs ≡ 384 →
    length information ≡ information_of rate →
    ShowSymbols replaced strength (frame_symbols rate w) softs → IsUnshared replaced rate w →
    listed k replaced softs ≡ record {
      rate = rate;
      good = true;
      bits = information;
      score = pos (strength * kept_count replaced);
    }

-- so are soft values with the signs of these symbols, whatever their sizes; the score is the sum of
-- the sizes
abbrev pub IsListedBySigns : Type 0
IsListedBySigns =
    (k : ℕ) (replaced : List ℕ) (rate : Rate) (information : List Bool) (softs : List ℤ) →
    let w = frame_codeword rate information in
    0 < k → length replaced < 384 → length softs ≡ 384 →
    length information ≡ information_of rate → KeepSigns replaced (frame_symbols rate w) softs →
    IsUnshared replaced rate w →
    listed k replaced softs ≡ record {
      rate = rate;
      good = true;
      bits = information;
      score = frame_score (unreplaced replaced softs) rate w;
    }

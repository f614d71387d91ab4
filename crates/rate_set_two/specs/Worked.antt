-- Worked values, which the checker computes.
use Rattle.std.specs.Prelude.{◌≡◌, refl, Bool, true, false, List, [], ◌∷◌, ◌++◌, map, take}
use Rattle.chip_core.specs.Bits.{binary, number, places}
use Rattle.quality_bits.specs.Quality.{check_bits}
use Rattle.symbol_path.specs.SentOrder.{sent_by}
use Rattle.symbol_path.specs.SentOrderTwo.{place2}
use Rattle.symbol_path.specs.FramesTwo.{codeword_bits}
use Rattle.rate_set_two.specs.TrafficFrames.{format_of2, frame_codeword2, frame_symbols2}
use Rattle.frame_decoder.specs.Formats.{is_right}
use Rattle.symbol_path.specs.declared.rate_two.Rate2.TheVariants.{R14400, R7200, R3600, R1800}

-- which code symbols are sent
places_14400 : map (place2 R14400) (0 ∷ 1 ∷ 96 ∷ 288 ∷ 383 ∷ []) ≡ 0 ∷ 96 ∷ 3 ∷ 5 ∷ 575 ∷ []
unfolding binary
places_14400 = refl

places_1800 : map (place2 R1800) (1 ∷ 383 ∷ []) ≡ 12 ∷ 71 ∷ []
unfolding binary
places_1800 = refl

-- the bits of frames
codeword_14400 : number (codeword_bits R14400
    (binary 12 0xaff ++ binary 64 0x5a84a4399865a2f3 ++ binary 64 0xb810770908da6317
    ++ binary 64 0x2e5a7a31a3915a4f ++ binary 64 0x1a4749ee021ed604))
    ≡ 0xaff5a84a4399865a2f3b810770908da63172e5a7a31a3915a4f1a4749ee021ed6043f400
unfolding binary places check_bits
codeword_14400 = refl

codeword_7200 : number (codeword_bits R7200
    (binary 62 0x1ed07cee9d3dacc8 ++ binary 64 0xf8b9baacb2e7f3ec))
    ≡ 0x7b41f3ba74f6b323e2e6eab2cb9fcfb39d00
unfolding binary places check_bits
codeword_7200 = refl

codeword_3600 : number (codeword_bits R3600 (binary 56 0x59b5111069855d)) ≡ 0x59b5111069855dd200
unfolding binary places check_bits
codeword_3600 = refl

-- the information bits of one frame
few : List Bool
unfolding binary
few = take 22 (binary 24 0x5a5a58)

codeword_1800 : number (codeword_bits R1800 few) ≡ 0x5a5a5b100
unfolding few binary places check_bits
codeword_1800 = refl

-- and its symbols as they are sent
symbols_1800 : frame_symbols2 R1800 (frame_codeword2 R1800 few) ≡
    binary 192 0x044992712e55044992b6f11f044992712e55712e55b6f11f
    ++ binary 192 0x044992712e55044992b6f11f044992b6f11f712e55b6f11f
unfolding few binary places check_bits sent_by
symbols_1800 = refl

-- quality indicators, right and with a bit changed
right_7200 : is_right (format_of2 R7200)
    (binary 64 0x7b41f3ba74f6b323 ++ binary 64 0xe2e6eab2cb9fcfb3 ++ binary 16 0x9d00) ≡ true
unfolding binary places check_bits
right_7200 = refl

wrong_1800 : is_right (format_of2 R1800) (binary 36 0x5a5a5b300) ≡ false
unfolding binary places check_bits
wrong_1800 = refl

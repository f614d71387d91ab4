-- Worked values, which the checker computes.
use Rattle.std.specs.Prelude.{◌≡◌, refl, false, List, [], ◌∷◌, ◌++◌, replicate, Bool, None, Some}
use Rattle.chip_core.specs.Bits.{binary, places}
use Rattle.quality_bits.specs.Quality.{check_bits}
use Rattle.quality_bits.specs.declared.rate.Rate.TheVariants.{R4800}
use Rattle.viterbi.specs.Codewords.{Codeword}
use Rattle.frame_decoder.specs.Formats.{format_of, first_right}

-- codewords of 4,800 bits a second: one with a wrong quality indicator, and two with right ones
abbrev codeword : List Bool → Codeword
codeword bits = record { start = replicate 8 false; bits = bits }

abbrev wrong : Codeword
wrong = codeword (binary 64 0xe17e1018de3b9058 ++ binary 32 0x4cd96900)

abbrev right : Codeword
right = codeword (binary 64 0xe17e1018de3b9058 ++ binary 32 0x4cd96800)

abbrev later : Codeword
later = codeword (binary 64 0xbde54164d8399f76 ++ binary 32 0x7c451500)

-- the first codeword with a right quality indicator is taken, not the last
second_saves : first_right (format_of R4800) (wrong ∷ right ∷ later ∷ []) ≡ Some right
unfolding binary places check_bits
second_saves = refl

later_is_right : first_right (format_of R4800) (later ∷ []) ≡ Some later
unfolding binary places check_bits
later_is_right = refl

none_saves : first_right (format_of R4800) (wrong ∷ codeword (replicate 96 false) ∷ []) ≡ None
unfolding binary places check_bits
none_saves = refl

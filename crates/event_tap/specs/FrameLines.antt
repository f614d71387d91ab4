-- The lines of frames of traffic channels.
use Rattle.event_tap.specs.Common.{Rate, bit_text, digit_of, digits_of}
use Rattle.std.specs.Prelude.{ℕ, ◌/◌, Bool, List, ◌++◌, codes, decimal}
use Rattle.symbol_path.specs.declared.rate_two.Rate2.{Rate2}
use Rattle.rate_set_two.specs.declared.traffic.Decoded2.{Decoded2}
use Rattle.quality_bits.specs.TrafficCodewords.{repeats_of}
use Rattle.symbol_path.specs.RatesTwo as set_two

-- the bits per second at this rate, including quality indicators and tails
abbrev pub bits_in_a_second : Rate → ℕ
bits_in_a_second rate = 9600 / repeats_of rate

-- the same for a rate of rate set 2
abbrev pub bits_in_a_second2 : Rate2 → ℕ
bits_in_a_second2 rate = 14400 / set_two.repeats_of2 rate

-- ` rate=R good=B bits=BITS commands=CCCCCCCCCCCCCCCC` and LF, the end of a frame's line
abbrev pub received_text : ℕ → Bool → List Bool → List Bool → List ℕ
received_text rate good bits power_bits =
    codes " rate=" ++ decimal rate ++ codes " good=" ++ digit_of good ++ codes " bits="
    ++ bit_text bits ++ codes " commands=" ++ digits_of power_bits ++ codes "\n"

-- the line of a frame that ends after `place` samples
unfoldable pub frame_line : ℕ → Rate → Bool → List Bool → List Bool → List ℕ
frame_line place rate good bits power_bits =
    codes "frame at=" ++ decimal place
    ++ received_text (bits_in_a_second rate) good bits power_bits

-- the line of a frame of rate set 2, with its power control bits
unfoldable pub frame2_line : ℕ → Decoded2 → List Bool → List ℕ
frame2_line place frame power_bits =
    codes "frame2 at=" ++ decimal place
    ++ received_text (bits_in_a_second2 frame.rate) frame.good frame.bits power_bits

-- Decoding a traffic frame of rate set 1 (TIA/EIA-95-B, 7.1.3.5) and its power control bits
-- (7.1.3.1.7).
use Rattle.frame_decoder.specs.Common.{places, Rate, Codeword, FrameFormat}
use Rattle.std.specs.Prelude.{ℕ, ◌+◌, ◌*◌, Bool, not, List, [], ◌∷◌, map, take, get_or, ℤ, pos}
use Rattle.std.specs.Prelude.{◌+ℤ◌, int_lt}
use Rattle.std.specs.List.{list_all}
use Rattle.quality_bits.specs.declared.rate.Rate.TheVariants.{R9600, R4800, R2400, R1200}
use Rattle.frame_decoder.specs.declared.formats.DecodedFrame.{DecodedFrame}
use Rattle.frame_decoder.specs.declared.traffic.Decoded.{Decoded}
use Rattle.frame_decoder.specs.declared.power.PowerSofts.{PowerSofts}
use Rattle.frame_decoder.specs.Formats.{format_of, bits_in, symbols_in, score_in, frame_of}
pub use Rattle.frame_decoder.specs.Replaced.{is_replaced}
unfoldable pub use Rattle.frame_decoder.specs.Replaced.{unreplaced}

-- the number of bits of a frame at a rate, including its quality indicator and eight tail bits
abbrev pub frame_bits : Rate → ℕ
frame_bits rate = bits_in (format_of rate)

-- a codeword's symbols as a frame of its rate sends them
abbrev pub frame_symbols : Rate → Codeword → List Bool
frame_symbols rate w = symbols_in (format_of rate) w

-- how well they agree with the soft values
abbrev pub frame_score : List ℤ → Rate → Codeword → ℤ
frame_score softs rate w = score_in softs (format_of rate) w

-- the rates below the highest, the lowest first, and their formats
abbrev pub lower_rates : List Rate
lower_rates = R1200 ∷ R2400 ∷ R4800 ∷ []

abbrev pub lower_formats : List (FrameFormat Rate)
lower_formats = map format_of lower_rates

-- a frame that was decoded by its format, as one of rate set 1
abbrev pub as_decoded : DecodedFrame Rate → Decoded
as_decoded d = record { rate = d.rate; good = d.good; bits = d.bits; score = d.score }

-- the frame decoded from its soft values, of which those at the places `replaced` belong to power
-- control bits
unfoldable pub decoded : List ℕ → List ℤ → Decoded
decoded replaced softs = as_decoded (frame_of (format_of R9600) lower_formats replaced softs)

-- the sum of the soft values of the two symbols that the power control bit of a group replaces,
-- which are at the places 2 g and 2 g + 1 of the list
abbrev pub group_sum : List ℕ → List ℤ → ℕ → ℤ
group_sum replaced softs g =
    get_or softs (get_or replaced (2 * g) 0) (pos 0)
    +ℤ get_or softs (get_or replaced (2 * g + 1) 0) (pos 0)

-- the sums of a frame's 16 groups
abbrev pub group_sums : List ℕ → List ℤ → List ℤ
group_sums replaced softs = map (group_sum replaced softs) (places 16)

-- the sums of each subchannel that is received
abbrev pub summed_subchannels : PowerSofts → List (List ℤ)
summed_subchannels p = take p.count p.sums

-- whether a group's power control bit is 0 on each subchannel: its sum there is above 0
abbrev pub is_up : ℕ → List (List ℤ) → Bool
is_up g sums = list_all (λ sum. int_lt (pos 0) (get_or sum g (pos 0))) sums

-- The power control bit of a group: 0, which orders the handset to raise its power, exactly if it
-- is 0 on each subchannel.
abbrev pub power_bit : List (List ℤ) → ℕ → Bool
power_bit sums g = not (is_up g sums)

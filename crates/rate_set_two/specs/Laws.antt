-- The laws of frames.
use Rattle.std.specs.Prelude.{◌≡◌, ℕ, Bool, true, List, length, ℤ}
use Rattle.chip_core.specs.Agreement.{agreement}
use Rattle.viterbi.specs.Codewords.{Codeword}
use Rattle.frame_decoder.specs.Laws.{DecodesNothing, DecodesSentFrames, IsUnsharedIn}
use Rattle.frame_decoder.specs.Signs.{DecodesBySigns}
use Rattle.symbol_path.specs.declared.rate_two.Rate2.{Rate2}
use Rattle.symbol_path.specs.declared.rate_two.Rate2.TheVariants.{R14400}
use Rattle.symbol_path.specs.RatesTwo.{symbols_of}
use Rattle.symbol_path.specs.SentOrder.{gathered_by}
use Rattle.symbol_path.specs.SentOrderTwo.{place2, sent2}
use Rattle.rate_set_two.specs.declared.traffic.Decoded2.{Decoded2}
use Rattle.rate_set_two.specs.TrafficFrames.{format_of2, as_decoded2, decoded2}

-- ---- the sums
-- for each code symbol, the sum of the soft values of the symbols that are sent for it
abbrev pub gathered2 : Rate2 → List ℤ → List ℤ
gathered2 rate softs = gathered_by (place2 rate) 384 (symbols_of rate) softs

-- soft values agree with what is sent exactly as well as their sums agree with the code symbols
abbrev pub KeepsAgreement : Type 0
KeepsAgreement =
    (rate : Rate2) (softs : List ℤ) (code : List Bool) → length softs ≡ 384 →
    length code ≡ symbols_of rate →
    agreement softs (sent2 rate code) ≡ agreement (gathered2 rate softs) code

-- ---- sent frames
-- no other codeword of any rate, quality indicator right or not, has the same unreplaced symbols
abbrev pub IsUnshared2 : List ℕ → Rate2 → Codeword → Type 0
IsUnshared2 = IsUnsharedIn format_of2

-- a good frame with these information bits
abbrev pub good_frame2 : Rate2 → List Bool → ℤ → Decoded2
good_frame2 rate information score =
    record { rate = rate; good = true; bits = information; score = score }

-- soft values that show the symbols of a frame that no other codeword shares decode to that frame
abbrev pub IsSentFrameDecoded2 : Type 0
IsSentFrameDecoded2 = DecodesSentFrames format_of2 as_decoded2 decoded2

-- so do soft values with the signs of these symbols, whatever their sizes: the score is that of the
-- frame's codeword
abbrev pub IsDecodedBySigns2 : Type 0
IsDecodedBySigns2 = DecodesBySigns format_of2 as_decoded2 decoded2

-- if all soft values are 0, no frame is good, and the bits are zeros
abbrev pub IsNothingGood2 : Type 0
IsNothingGood2 = DecodesNothing (format_of2 R14400) as_decoded2 decoded2

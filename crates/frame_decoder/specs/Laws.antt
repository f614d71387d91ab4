-- The laws of frames.
use Rattle.frame_decoder.specs.Common.{places, sign, code_symbols, sent, Rate, Codeword, Zero, Free}
use Rattle.frame_decoder.specs.Common.{correlation, best_codeword, FrameFormat}
use Rattle.std.specs.Prelude.{◌≡◌, ℕ, ◌*◌, ◌<◌, Bool, true, false, not, List, length, filter, ℤ}
use Rattle.std.specs.Prelude.{get_or, replicate, pos, ◌*ℤ◌}
use Rattle.quality_bits.specs.Formats.{format_codeword}
use Rattle.quality_bits.specs.declared.rate.Rate.TheVariants.{R9600}
use Rattle.viterbi.specs.Best.{IsAllowed}
use Rattle.frame_decoder.specs.Spans.{Channel, own_bits}
use Rattle.frame_decoder.specs.declared.formats.DecodedFrame.{DecodedFrame}
use Rattle.frame_decoder.specs.Formats.{bits_in, format_of, symbols_in}
use Rattle.frame_decoder.specs.TrafficFrames.{is_replaced, as_decoded, decoded}

-- ---- a span of one frame
-- how well a codeword agrees with the soft values of one frame
abbrev pub channel_frame_score : Channel → List ℤ → Codeword → ℤ
channel_frame_score c softs w = correlation softs
    (sent c.shape c.repeats (code_symbols w.start w.bits))

-- the bits decoded from a span of one frame are those of the frame's best codeword
abbrev pub IsOneFrame : Type 0
IsOneFrame =
    (c : Channel) (softs : List ℤ) →
    own_bits c 1 0 softs ≡ (best_codeword (channel_frame_score c softs) Free c.bits).bits

-- ---- sent frames of traffic channels, whatever their rate set
-- a frame's codeword: its information, its quality indicator and eight tail bits, after eight zeros
abbrev pub sent_codeword : {R : Type 0} → FrameFormat R → List Bool → Codeword
sent_codeword format information = record {
  start = replicate 8 false;
  bits = format_codeword format information;
}

-- soft values that are a number times the signs of symbols at the places that aren't replaced
abbrev pub ShowSymbols : List ℕ → ℕ → List Bool → List ℤ → Type 0
ShowSymbols replaced strength symbols softs =
    (i : ℕ) → i < 384 → is_replaced replaced i ≡ false →
    get_or softs i (pos 0) ≡ pos strength *ℤ sign (get_or symbols i false)

-- the same symbols at these places
abbrev pub AgreeElsewhere : List ℕ → List Bool → List Bool → Type 0
AgreeElsewhere replaced xs ys =
    (i : ℕ) → i < 384 → is_replaced replaced i ≡ false →
    get_or xs i false ≡ get_or ys i false

-- no other codeword of any rate with these formats, whether or not its quality indicator is right,
-- has this codeword's symbols there
abbrev pub IsUnsharedIn : {R : Type 0} → (R → FrameFormat R) → List ℕ → R → Codeword → Type 0
IsUnsharedIn {R} format_of replaced rate w =
    (r : R) (v : Codeword) → IsAllowed Zero (bits_in (format_of r)) v →
    AgreeElsewhere replaced (symbols_in (format_of rate) w) (symbols_in (format_of r) v) →
    (r ≡ rate) × (v ≡ w)

-- the number of symbols that aren't replaced
abbrev pub kept_count : List ℕ → ℕ
kept_count replaced = length (filter (λ i. not (is_replaced replaced i)) (places 384))

-- a good frame with these information bits
abbrev pub good_frame : {R : Type 0} → R → List Bool → ℤ → DecodedFrame R
good_frame rate information score =
    record { rate = rate; good = true; bits = information; score = score }

-- a frame is decoded from soft values that show its symbols, if no other codeword shares these
abbrev pub DecodesSentFrames : {R D : Type 0} → (R → FrameFormat R) → (DecodedFrame R → D) →
    (List ℕ → List ℤ → D) → Type 0
DecodesSentFrames {R} format_of shown decoded =
    (strength : ℕ) (replaced : List ℕ) (rate : R) (information : List Bool) (softs : List ℤ) →
    let format = format_of rate in
    let w = sent_codeword format information in
    0 < strength → length replaced < 384 → length softs ≡ 384 →
    length information ≡ format.information →
    ShowSymbols replaced strength (symbols_in format w) softs →
    IsUnsharedIn format_of replaced rate w →
    decoded replaced softs
    ≡ shown (good_frame rate information (pos (strength * kept_count replaced)))

-- if all soft values are 0, the frame is not good, and its bits are zeros
abbrev pub DecodesNothing : {R D : Type 0} → FrameFormat R → (DecodedFrame R → D) →
    (List ℕ → List ℤ → D) → Type 0
DecodesNothing highest shown decoded =
    (replaced : List ℕ) → decoded replaced (replicate 384 (pos 0)) ≡ shown (record {
      rate = highest.rate;
      good = false;
      bits = replicate highest.information false;
      score = pos 0;
    })

-- ---- those of rate set 1
abbrev pub frame_codeword : Rate → List Bool → Codeword
frame_codeword rate information = sent_codeword (format_of rate) information

abbrev pub IsUnshared : List ℕ → Rate → Codeword → Type 0
IsUnshared = IsUnsharedIn format_of

abbrev pub IsSentFrameDecoded : Type 0
IsSentFrameDecoded = DecodesSentFrames format_of as_decoded decoded

abbrev pub IsNothingGood : Type 0
IsNothingGood = DecodesNothing (format_of R9600) as_decoded decoded

-- Frames whose soft values have the signs of symbols, whatever their sizes.
use Rattle.frame_decoder.specs.Common.{FrameFormat}
use Rattle.std.specs.Prelude.{◌≡◌, ℕ, ◌<◌, Bool, false, List, length, get_or, ℤ, pos}
pub use Rattle.viterbi.specs.Signs.{HasSign, HaveSigns}
use Rattle.frame_decoder.specs.declared.formats.DecodedFrame.{DecodedFrame}
use Rattle.frame_decoder.specs.Formats.{format_of, score_in, symbols_in}
use Rattle.frame_decoder.specs.Laws.{IsUnsharedIn, good_frame, sent_codeword}
use Rattle.frame_decoder.specs.TrafficFrames.{as_decoded, decoded, is_replaced, unreplaced}

-- At each place of a frame that no power control bit replaces, `Related` holds of the symbol and
-- the soft value.
abbrev pub AreKept : (Bool → ℤ → Type 0) → List ℕ → List Bool → List ℤ → Type 0
AreKept Related replaced symbols softs =
    (i : ℕ) → i < 384 → is_replaced replaced i ≡ false →
    Related (get_or symbols i false) (get_or softs i (pos 0))

-- The soft values at these places have the signs of the symbols.
abbrev pub KeepSigns : List ℕ → List Bool → List ℤ → Type 0
KeepSigns = AreKept HasSign

-- From soft values with the signs of a frame's symbols, which no other codeword shares, that frame
-- is decoded as good, with its rate and its information bits. Its score is that of its codeword.
abbrev pub DecodesBySigns : {R D : Type 0} → (R → FrameFormat R) → (DecodedFrame R → D) →
    (List ℕ → List ℤ → D) → Type 0
DecodesBySigns {R} format_of shown decoded =
    (replaced : List ℕ) (rate : R) (information : List Bool) (softs : List ℤ) →
    let format = format_of rate in
    let w = sent_codeword format information in
    length replaced < 384 → length softs ≡ 384 → length information ≡ format.information →
    KeepSigns replaced (symbols_in format w) softs → IsUnsharedIn format_of replaced rate w →
    decoded replaced softs
    ≡ shown (good_frame rate information (score_in (unreplaced replaced softs) format w))

abbrev pub IsDecodedBySigns : Type 0
IsDecodedBySigns = DecodesBySigns format_of as_decoded decoded

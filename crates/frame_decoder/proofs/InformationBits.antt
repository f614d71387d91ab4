-- A decoded frame has as many information bits as its rate has.
use Rattle.frame_decoder.proofs.Common.{◌≡◌, ℕ, Bool, List, [], ◌∷◌, length, map, take, ◌∙◌, arith, ℤ, length-take-le, Option, None, Some}
use Rattle.frame_decoder.proofs.Common.{Codeword, FrameFormat, DecodedFrame, bits_in, codeword_in, score_in, is_right, frame_in, preferred}
use Rattle.frame_decoder.proofs.Common.{candidate_in, rising_choice, not_good, good_or, frame_of, unreplaced}
use Rattle.frame_decoder.proofs.FormatChoice.{IsOf, either_of, preferred_of, found_of}
use Rattle.frame_decoder.proofs.FormatCodewords.{length-codeword_in}

abbrev IsLong : {R : Type 0} → (R → ℕ) → DecodedFrame R → Type 0
IsLong told d = length d.bits ≡ told d.rate

bits_long : {R : Type 0} (told : R → ℕ) (format : FrameFormat R) (bits : List Bool) →
    format.information ≡ told format.rate → length bits ≡ bits_in format →
    length (take format.information bits) ≡ told format.rate
bits_long told format bits is long = length-take-le format.information bits (omega (arith, long)) ∙ is

candidate_long : {R : Type 0} (told : R → ℕ) (softs : List ℤ) (format : FrameFormat R) →
    format.information ≡ told format.rate → IsOf (IsLong told) (candidate_in softs format)
candidate_long {R} told softs format is =
    let w = codeword_in softs format in
    let g : Codeword → DecodedFrame R = λ v. frame_in format v.bits (score_in softs format v) in
    found_of (IsLong told) g w None (is_right format w.bits)
    (bits_long told format w.bits is (length-codeword_in softs format)) tt

rising_long : {R : Type 0} (told : R → ℕ) (format_of : R → FrameFormat R) (softs : List ℤ) (rates : List R)
    (best : Option (DecodedFrame R)) → ((r : R) → (format_of r).information ≡ told (format_of r).rate) →
    IsOf (IsLong told) best → IsOf (IsLong told) (rising_choice best (map (candidate_in softs) (map format_of rates)))
rising_long told format_of softs [] best each low = low
rising_long told format_of softs (r ∷ rates) best each low =
    let c = candidate_in softs (format_of r) in
    rising_long told format_of softs rates (preferred c best) each
    (preferred_of (IsLong told) c best (candidate_long told softs (format_of r) (each r)) low)

or_long : {R : Type 0} (told : R → ℕ) (format : FrameFormat R) (bits : List Bool) (score : ℤ)
    (best : Option (DecodedFrame R)) → format.information ≡ told format.rate → length bits ≡ bits_in format →
    IsOf (IsLong told) best → IsLong told (good_or format bits score best)
or_long told format bits score None is long low = bits_long told format bits is long
or_long told format bits score (Some best) is long low =
    either_of (IsLong told) (not_good format bits best.score) best best.good (bits_long told format bits is long)
    low

-- A frame of a set of formats has as many bits as its rate says: so has each candidate
-- (`candidate_long`), and the highest rate's frame that is shown where none is good (`or_long`).
pub frame_long : {R : Type 0} (told : R → ℕ) (format_of : R → FrameFormat R) (highest : R) (lower : List R)
    (replaced : List ℕ) (softs : List ℤ) → ((r : R) → (format_of r).information ≡ told (format_of r).rate) →
    let frame = frame_of (format_of highest) (map format_of lower) replaced softs in
    length frame.bits ≡ told frame.rate
unfolding frame_of
frame_long told format_of highest lower replaced softs each =
    let kept = unreplaced replaced softs in
    let format = format_of highest in
    let w = codeword_in kept format in
    let best = rising_choice None (map (candidate_in kept) (map format_of lower)) in
    or_long told format w.bits (score_in kept format w) (preferred (candidate_in kept format) best) (each highest)
    (length-codeword_in kept format)
    (preferred_of (IsLong told) (candidate_in kept format) best (candidate_long told kept format (each highest))
    (rising_long told format_of kept lower None each tt))

-- How many bits the frames of a format have, and how their codewords are made.
use Rattle.quality_bits.proofs.Common.{◌≡◌, ◌+◌, ◌*◌, ◌/◌, ◌≤◌, ℕ, Bool, false, List, ◌++◌, length, replicate, refl, sym, ap, ◌∙◌, arith}
use Rattle.quality_bits.proofs.Common.{length-append, length-replicate, binary, quality_indicator, bits_in, format_codeword}
use Rattle.std.proofs.Math.Nat.{div-eq_of_eq-mul_left}
use Rattle.quality_bits.specs.declared.format.FrameFormat.{FrameFormat}
use Rattle.quality_bits.proofs.Ends.{length-quality_indicator}

-- code symbols that are repeated so often, over the repeats as they were read
pub symbols_over_repeats : (count repeats from total : ℕ) → from ≡ repeats → 1 ≤ repeats →
    count * repeats ≡ total → total / from ≡ count
symbols_over_repeats count repeats from total same some fills = rw same (div-eq_of_eq-mul_left some (sym fills))

pub bits_least : {R : Type 0} (format : FrameFormat R) → 8 ≤ bits_in format
bits_least format = omega arith

-- all bits but the tail
pub length-checked : {R : Type 0} (format : FrameFormat R) (information : List Bool) →
    length information ≡ format.information →
    length (information ++ quality_indicator format.quality information) + 8 ≡ bits_in format
length-checked format information long =
    omega (
      arith,
      length-append information (quality_indicator format.quality information),
      length-quality_indicator format.quality information,
      long,
    )

pub length-format_codeword : {R : Type 0} (format : FrameFormat R) (information : List Bool) →
    length information ≡ format.information → length (format_codeword format information) ≡ bits_in format
length-format_codeword format information long =
    let front = information ++ quality_indicator format.quality information in
    omega (
      arith,
      length-append front (replicate 8 false),
      length-replicate 8 false,
      length-checked format information long,
    )

-- the tail, and the state before a frame
pub zeros : binary 8 0 ≡ replicate 8 false
unfolding binary
zeros = refl

-- the tail makes the codeword
pub tailed : {R : Type 0} (format : FrameFormat R) (information bits : List Bool) →
    bits ≡ information ++ quality_indicator format.quality information →
    bits ++ binary 8 0 ≡ format_codeword format information
tailed format information bits is =
    ap (λ (r : List Bool). r ++ binary 8 0) is
    ∙ ap (λ (r : List Bool). (information ++ quality_indicator format.quality information) ++ r) zeros

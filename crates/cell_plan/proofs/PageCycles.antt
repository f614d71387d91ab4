-- The bits and symbols of paging channels.
use Rattle.cell_plan.proofs.Common.{◌≡◌, ℕ, ◌+◌, ◌*◌, ◌%◌, ◌<◌, ◌≤◌, Bool, false, List, [], ◌∷◌, ◌++◌, length, take, map, get_or, refl, sym}
use Rattle.cell_plan.proofs.Common.{ap, ◌∙◌, arith, Some, true, not, beq, slice_get, take_more, take_all, length-take-le, places, xor, Rate}
use Rattle.cell_plan.proofs.Common.{zip_with, taken_more, zip_push, places-none, map-places-more, repeats_of}
use Rattle.quality_bits.specs.declared.rate.Rate.TheVariants as rates
use Rattle.cell_plan.specs.PageCycles as cycles

-- ---- scrambling

-- the sum modulo 2 says whether two bits differ
pub differ_is : (a b : Bool) → not (beq a b) ≡ xor a b
differ_is true true = refl
differ_is true false = refl
differ_is false true = refl
differ_is false false = refl

-- With symbol k added to its chip, the output is the sum, bit by bit, of k + 1 symbols and chips:
-- both parts grow by their bit k, and since they are equally long these bits meet.
pub mixed_more : (symbols chips out : List Bool) (k : ℕ) (symbol chip : Bool) →
    slice_get symbols k ≡ Some symbol → k < length symbols → k < length chips →
    get_or chips k false ≡ chip → out ≡ zip_with xor (take k symbols) (take k chips) →
    out ++ xor symbol chip ∷ [] ≡ zip_with xor (take (k + 1) symbols) (take (k + 1) chips)
mixed_more symbols chips out k symbol chip read within room is before =
    let s : take (k + 1) symbols ≡ take k symbols ++ symbol ∷ [] = taken_more symbols k symbol read
    in
    let c : take (k + 1) chips ≡ take k chips ++ chip ∷ [] = take_more chips k false room
    ∙ ap (λ (b : Bool). take k chips ++ b ∷ []) is in
    let same : length (take k symbols) ≡ length (take k chips) =
    length-take-le k symbols (omega (arith, within))
    ∙ sym (length-take-le k chips (omega (arith, room))) in
    ap (λ (bits : List Bool). bits ++ xor symbol chip ∷ []) before
    ∙ sym (zip_push xor (take k symbols) (take k chips) symbol chip same)
    ∙ ap (λ (bits : List Bool). zip_with xor bits (take k chips ++ chip ∷ [])) (sym s)
    ∙ ap (zip_with xor (take (k + 1) symbols)) (sym c)

pub mixed_all : (symbols chips out : List Bool) (k : ℕ) → length symbols ≤ k → length chips ≤ k →
    out ≡ zip_with xor (take k symbols) (take k chips) → out ≡ cycles.scrambled chips symbols
unfolding cycles.scrambled
mixed_all symbols chips out k all more is =
    is
    ∙ ap (λ (bits : List Bool). zip_with xor bits (take k chips)) (take_all k symbols all)
    ∙ ap (zip_with xor symbols) (take_all k chips more)

-- ---- the bits of a frame

-- two half-frames have the bits of a frame
pub frame_bits-is : (rate : Rate) (n : ℕ) → n * repeats_of rate ≡ 192 → n ≡ cycles.paging_frame_size rate
frame_bits-is rates.R9600 n e = omega (arith, e)
frame_bits-is rates.R4800 n e = omega (arith, e)
frame_bits-is rates.R2400 n e = omega (arith, e)
frame_bits-is rates.R1200 n e = omega (arith, e)

-- bit i of a frame of n bits
abbrev pub bit_of_frame : List Bool → ℕ → ℕ → ℕ → Bool
bit_of_frame cycle size frame i = get_or cycle ((size * frame + i) % length cycle) false

pub no_bits : (cycle : List Bool) (size frame : ℕ) → [] ≡ map (bit_of_frame cycle size frame) (places 0)
no_bits cycle size frame = rw places-none refl

pub bit_more : (cycle bits : List Bool) (size frame k : ℕ) → bits ≡ map (bit_of_frame cycle size frame) (places k) →
    bits ++ bit_of_frame cycle size frame k ∷ [] ≡ map (bit_of_frame cycle size frame) (places (k + 1))
bit_more cycle bits size frame k is =
    ap (λ (b : List Bool). b ++ bit_of_frame cycle size frame k ∷ []) is
    ∙ sym (map-places-more (bit_of_frame cycle size frame) k)

pub frame_is : (c : cycles.Cycle) (bits : List Bool) (size frame k : ℕ) → size ≡ cycles.paging_frame_size c.rate →
    k ≡ size → bits ≡ map (bit_of_frame c.bits size frame) (places k) → bits ≡ cycles.cycle_frame_bits c frame
unfolding cycles.cycled
frame_is c bits size frame k size_is all is =
    is
    ∙ ap (λ (n : ℕ). map (bit_of_frame c.bits size frame) (places n)) (all ∙ size_is)
    ∙ ap (λ (n : ℕ). map (bit_of_frame c.bits n frame) (places (cycles.paging_frame_size c.rate))) size_is

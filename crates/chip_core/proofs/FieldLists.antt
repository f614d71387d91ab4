-- Lemmas on fields and the bits that spell them.
use Rattle.chip_core.proofs.Common.{◌≡◌, ℕ, zero, suc, ◌+◌, ◌/◌, ◌%◌, ◌^◌, ◌<◌, ◌≤◌, Bool, List, [], ◌∷◌, ◌++◌, length, get_or, take, drop}
use Rattle.chip_core.proofs.Common.{refl, sym, ap, ◌∙◌, arith, nat_eq, append_assoc, length-append, Some, take_more, length-drop, binary}
use Rattle.chip_core.proofs.Common.{get_or-drop, take-append-drop, append-nil, get_or_from_slice_get, slice_get-get_or, slice_get_within}
use Rattle.chip_core.proofs.Common.{spelled, FieldsFit, HaveWidths}
use Rattle.std.proofs.Common.{slice_get}
use Rattle.chip_core.specs.declared.field.Field.{Field}

pub length-binary : (w n : ℕ) → length (binary w n) ≡ w
unfolding binary
length-binary zero n = refl
length-binary (suc w) n =
    omega (arith, length-append (binary w (n / 2)) (nat_eq (n % 2) 1 ∷ []), length-binary w (n / 2))

pub spelled-append : (fs gs : List Field) → spelled (fs ++ gs) ≡ spelled fs ++ spelled gs
spelled-append [] gs = refl
spelled-append (f ∷ fs) gs =
    ap (λ (r : List Bool). binary f.width f.value ++ r) (spelled-append fs gs) ∙
    sym (append_assoc (binary f.width f.value) (spelled fs) (spelled gs))

-- one more field
pub spelled_more : (fs : List Field) (i : ℕ) (d : Field) → i < length fs → spelled (take (i + 1) fs) ≡
    spelled (take i fs) ++ binary (get_or fs i d).width (get_or fs i d).value
spelled_more fs i d within =
    let f = get_or fs i d in
    ap spelled (take_more fs i d within) ∙ spelled-append (take i fs) (f ∷ []) ∙
    ap (λ (r : List Bool). spelled (take i fs) ++ r) (append-nil (binary f.width f.value))

-- Field i fits between the bits of the first i fields and the end of all: the first i + 1 fields
-- are longer than the first i by its width, and are a part of all fields.
pub spelled_room : (fs : List Field) (i : ℕ) (d : Field) → i < length fs →
    length (spelled (take i fs)) + (get_or fs i d).width ≤ length (spelled fs)
spelled_room fs i d within =
    let f = get_or fs i d in
    let next : length (spelled (take (i + 1) fs)) ≡ length (spelled (take i fs)) + f.width =
    ap length (spelled_more fs i d within) ∙
    length-append (spelled (take i fs)) (binary f.width f.value) ∙
    ap (λ (n : ℕ). length (spelled (take i fs)) + n) (length-binary f.width f.value) in
    let parts : length (spelled fs) ≡
    length (spelled (take (i + 1) fs)) + length (spelled (drop (i + 1) fs)) =
    ap (λ (gs : List Field). length (spelled gs)) (sym (take-append-drop (i + 1) fs)) ∙
    ap length (spelled-append (take (i + 1) fs) (drop (i + 1) fs)) ∙
    length-append (spelled (take (i + 1) fs)) (spelled (drop (i + 1) fs)) in
    omega (arith, next, parts)

pub fit_at : (fs : List Field) (i : ℕ) (d : Field) → FieldsFit fs → i < length fs →
    (get_or fs i d).value < 2 ^ (get_or fs i d).width
fit_at [] i d fit within = absurd (omega (arith, within))
fit_at (f ∷ fs) zero d fit within = fit.0
fit_at (f ∷ fs) (suc i) d fit within = fit_at fs i d fit.1 (omega (arith, within))

pub width_at : (fs : List Field) (i : ℕ) (d : Field) → HaveWidths fs → i < length fs →
    (1 ≤ (get_or fs i d).width) × ((get_or fs i d).width ≤ 64)
width_at [] i d widths within = absurd (omega (arith, within))
width_at (f ∷ fs) zero d widths within = (widths.0, widths.1)
width_at (f ∷ fs) (suc i) d widths within = width_at fs i d widths.2 (omega (arith, within))

pub slice_get-drop : (from : ℕ) (bits : List Bool) (i : ℕ) (bit : Bool) →
    slice_get bits (from + i) ≡ Some bit → slice_get (drop from bits) i ≡ Some bit
slice_get-drop from bits i bit read =
    let within : from + i < length bits = slice_get_within bits (from + i) bit read in
    let inside : i < length (drop from bits) = omega (arith, length-drop from bits) in
    let here : get_or (drop from bits) i bit ≡ bit = get_or-drop from bits i bit ∙
    get_or_from_slice_get bits (from + i) bit bit read in
    slice_get-get_or (drop from bits) i bit inside ∙ ap Some here

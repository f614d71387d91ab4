-- The sums of a window, symbol by symbol.
use Rattle.rake_finger.proofs.Common.{◌≡◌, ◌≢◌, ℕ, ◌+◌, ◌*◌, ◌<◌, ◌≤◌, ◌^◌, List, length, get_or, take, drop, sym, ap, ◌∙◌, subst, arith, ℤ}
use Rattle.rake_finger.proofs.Common.{below_more, ◌+ℤ◌, unsigned_abs, FitsSigned, to_z, of_z, w64, set, ints, get_or-set_same, length-drop}
use Rattle.rake_finger.proofs.Common.{get_or-set_other, length-take-le, drop-drop, plus, sum_of, sum_of-append, Pair, Sample, despread}
use Rattle.rake_finger.proofs.Common.{kept_sum, kept_sum_back, kept_sum_fits, Held, IsHeldInRing, IsInRing, symbol_chips, window_chips}
use Rattle.rake_finger.proofs.Common.{windows, window_symbols, finger_place, frame_chips, despread_at, pilot_sum, Finger, Form, Sync, Data}
use Rattle.std.proofs.Math.Seq.{take-add}
use Rattle.short_code.proofs.Despreading.{despread-append}
use Rattle.rake_finger.proofs.CoveredSums.{same_parts}

-- PLACES
-- each symbol of a window lies in the frame
in_frame : (form : Form) (window k : ℕ) → window < windows form → k < window_symbols form →
    window_chips form * window + symbol_chips form * k + symbol_chips form ≤ frame_chips form
in_frame Sync window k lt few = omega (arith, lt, few)
in_frame Data window k lt few = omega (arith, lt, few)

-- the ring holds it
pub symbol_held : (ring : Held) (finger : Finger) (form : Form) (start window k place : ℕ) →
    IsInRing ring form start finger → window < windows form → k < window_symbols form →
    place ≡ finger_place finger start + window_chips form * window + symbol_chips form * k →
    IsHeldInRing ring place (symbol_chips form)
symbol_held ring finger form start window k place h lt few at =
    let within = in_frame form window k lt few in
    let kept = h.held.kept in
    let taken = h.held.taken in
    record { kept = omega (arith, at, kept); taken = omega (arith, at, taken, within) }

pub symbol_place : (form : Form) (from window k place : ℕ) →
    place ≡ from + window_chips form * window + symbol_chips form * k →
    place ≡ from + symbol_chips form * (window_symbols form * window + k)
symbol_place Sync from window k place at = omega (arith, at)
symbol_place Data from window k place at = omega (arith, at)

pub chips_more : (form : Form) (k : ℕ) → symbol_chips form * (k + 1) ≡ symbol_chips form * k + symbol_chips form
chips_more Sync k = omega arith
chips_more Data k = omega arith

pub whole_symbols : (form : Form) (k : ℕ) → k ≡ window_symbols form → symbol_chips form * k ≡ window_chips form
whole_symbols Sync k e = omega (arith, e)
whole_symbols Data k e = omega (arith, e)

-- THE PILOT
-- what a sum has of the chips of the symbols before a symbol
abbrev pub sum_before : List Sample → ℕ → ℕ → ℕ → Pair
sum_before samples phase place count = sum_of (despread (phase + place) (take count (drop place samples)))

-- The pilot's sum with one piece more is the sum over the samples up to the piece's end: the piece
-- goes on where the samples before ended, with the code's chips in step, and sums of products
-- despread one after another are added.
pub pilot_more : (samples : List Sample) (phase place before chips after : ℕ) (sum piece : Pair)
    (i q : ℤ) → place + before ≤ length samples → after ≡ before + chips → sum ≡ sum_before samples phase place before →
    piece ≡ sum_of (despread_at samples phase (place + before) chips) → i ≡ sum.i +ℤ piece.i → q ≡ sum.q +ℤ piece.q →
    ◌≡◌ {A = Pair} record { i = i; q = q } (sum_before samples phase place after)
pilot_more samples phase place before chips after sum piece i q within all is is' ei eq =
    let p : ℕ = phase + place in
    let xs = take before (drop place samples) in
    let ys = take chips (drop before (drop place samples)) in
    let long : length xs ≡ before =
    length-take-le before (drop place samples) (omega (arith, length-drop place samples, within))
    in
    let further : phase + (place + before) ≡ p + length xs = omega (arith, long) in
    let part : piece ≡ sum_of (despread (p + length xs) ys) =
    is'
    ∙ ap (λ (n : ℕ). sum_of (despread n (take chips (drop (place + before) samples)))) further
    ∙ ap (λ (zs : List Sample). sum_of (despread (p + length xs) (take chips zs)))
    (sym (drop-drop before place samples)) in
    same_parts _ _ _ _ ei eq
    ∙ ap (λ (z : Pair). plus z piece) is
    ∙ ap (plus (sum_of (despread p xs))) part
    ∙ sym (sum_of-append (despread p xs) (despread (p + length xs) ys))
    ∙ ap sum_of (sym (despread-append xs ys p))
    ∙ ap (λ (zs : List Sample). sum_of (despread p zs)) (sym (take-add before chips (drop place samples)))
    ∙ ap (λ (n : ℕ). sum_before samples phase place n) (sym all)

pub pilot_whole : (samples : List Sample) (finger : Finger) (form : Form) (start window place count : ℕ) (sum : Pair) →
    sum ≡ sum_before samples finger.phase place count → count ≡ window_chips form →
    place ≡ finger_place finger start + window_chips form * window → sum ≡ pilot_sum samples finger form start window
unfolding pilot_sum
pilot_whole samples finger form start window place count sum is all at =
    is
    ∙ ap (λ (n : ℕ). sum_before samples finger.phase place n) all
    ∙ ap (λ (n : ℕ). sum_before samples finger.phase n (window_chips form)) at

-- BOUNDS
bound_more : (form : Form) (k : ℕ) (a b : ℤ) → unsigned_abs a ≤ 65536 * (symbol_chips form * k) →
    unsigned_abs b ≤ 65536 * symbol_chips form → unsigned_abs (a +ℤ b) ≤ 65536 * (symbol_chips form * (k + 1))
bound_more Sync k a b h g = omega (arith, ints, h, g)
bound_more Data k a b h g = omega (arith, ints, h, g)

-- a part of the pilot's sum so far and one of a symbol's are small together
parts_small : (form : Form) (k : ℕ) (a b : ℤ) → k < window_symbols form →
    unsigned_abs a ≤ 65536 * (symbol_chips form * k) →
    unsigned_abs b ≤ 65536 * symbol_chips form → unsigned_abs a + unsigned_abs b < 2 ^ 63
parts_small Sync k a b lt h g = omega (arith, lt, h, g)
parts_small Data k a b lt h g = omega (arith, lt, h, g)

pub sum_fits : (form : Form) (k : ℕ) (a b : ℤ) → k < window_symbols form →
    unsigned_abs a ≤ 65536 * (symbol_chips form * k) →
    unsigned_abs b ≤ 65536 * symbol_chips form → FitsSigned w64 (kept_sum a b)
sum_fits form k a b lt h g = kept_sum_fits a b (parts_small form k a b lt h g)

pub sum_kept : (form : Form) (k : ℕ) (a b : ℤ) → k < window_symbols form →
    unsigned_abs a ≤ 65536 * (symbol_chips form * k) → unsigned_abs b ≤ 65536 * symbol_chips form →
    to_z w64 (of_z w64 (kept_sum a b)) ≡ a +ℤ b
sum_kept form k a b lt h g = kept_sum_back a b (parts_small form k a b lt h g)

pub bound_kept : (form : Form) (k : ℕ) (a b : ℤ) → k < window_symbols form →
    unsigned_abs a ≤ 65536 * (symbol_chips form * k) → unsigned_abs b ≤ 65536 * symbol_chips form →
    unsigned_abs (to_z w64 (of_z w64 (kept_sum a b))) ≤ 65536 * (symbol_chips form * (k + 1))
bound_kept form k a b lt h g =
    subst (λ (z : ℤ). unsigned_abs z ≤ 65536 * (symbol_chips form * (k + 1)))
    (sym (sum_kept form k a b lt h g)) (bound_more form k a b h g)

pub most_symbols : (form : Form) → window_symbols form ≤ 24
most_symbols Sync = omega arith
most_symbols Data = omega arith

-- ENTRIES
-- one entry more of an array
pub entry_more : {T : Type 0} (P : ℕ → T → Type 0) (xs : List T) (n : ℕ) (x d : T) →
    n < length xs → ((k : ℕ) → k < n → P k (get_or xs k d)) → P n x →
    (k : ℕ) → k < n + 1 → P k (get_or (set xs n x) k d)
entry_more {T} P xs n x d room before here =
    below_more (λ k. P k (get_or (set xs n x) k d)) n
    (λ k lt. let ne : k ≢ n = omega (arith, lt) in
    subst (P k) (sym (get_or-set_other xs n k x d ne)) (before k lt))
    (subst (P n) (sym (get_or-set_same xs n x d room)) here)

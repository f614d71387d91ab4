-- The register's number against the remainder's coefficients.
use Rattle.quality_bits.proofs.Common.{◌≡◌, ℕ, zero, suc, ◌+◌, ◌-◌, ◌*◌, ◌/◌, ◌%◌, ◌^◌, ◌<◌, ◌≤◌, Bool, true, false, cond, not, List, []}
use Rattle.quality_bits.proofs.Common.{◌∷◌, ◌++◌, length, replicate, refl, sym, ap, ◌∙◌, arith, nat_eq, bit_xor, bit_and, length-replicate}
use Rattle.quality_bits.proofs.Common.{pow_mono, xor, number, binary, bit_of, add, Generator, below_of, check_bits, binary-xor, number_lt}
use Rattle.quality_bits.proofs.Common.{binary-double, number-binary}
use Rattle.std.proofs.lemmas.Nat.{xor_lt, and_mask, pow_pos}
use mathlib.Core.Bool.{beq}
use Rattle.chip_core.proofs.Numerals.{binary-front}
use Rattle.chip_core.proofs.Places.{length-map-places}
use Rattle.chip_core.specs.Polynomial.{plus_at_front, remainder}
use Rattle.quality_bits.proofs.Pushed.{pushed, pushed_all, remainder_pushed, length_pushed_all, pushed_all-push}
use Rattle.quality_bits.proofs.Digits.{binary-rest, binary-number, number-ones}

-- one bit into the register's number
abbrev pub next : ℕ → ℕ → ℕ → Bool → ℕ
next degree below value bit =
    cond (xor bit (bit_of value (degree - 1))) (bit_xor (2 * value % 2 ^ degree) below) (2 * value % 2 ^ degree)

pushed_cases : (w v below : ℕ) (lead : Bool) →
    cond lead (add (binary w v ++ false ∷ []) (binary (suc w) below)) (binary w v ++ false ∷ [])
    ≡ binary (suc w) (cond lead (bit_xor (2 * v % 2 ^ (suc w)) below) (2 * v % 2 ^ (suc w)))
pushed_cases w v below true =
    sym (binary-xor (suc w) (2 * v % 2 ^ (suc w)) below
    ∙ ap (λ (r : List Bool). add r (binary (suc w) below)) (binary-rest (suc w) (2 * v) ∙
    binary-double w v))
pushed_cases w v below false = sym (binary-rest (suc w) (2 * v) ∙ binary-double w v)

-- the coefficients of the number that the register holds next
pub binary-next : (degree below value : ℕ) (bit : Bool) → 0 < degree →
    pushed (binary degree below) (binary degree value) bit ≡ binary degree (next degree below value bit)
binary-next zero below value bit some = absurd (omega (arith, some))
binary-next (suc w) below value bit some =
    let place : suc w - 1 ≡ w = omega arith in
    rw (binary-front w value, place) (pushed_cases w value below (xor bit (bit_of value w)))

next_cases_lt : (degree below shifted : ℕ) (lead : Bool) → below < 2 ^ degree →
    shifted < 2 ^ degree → cond lead (bit_xor shifted below) shifted < 2 ^ degree
next_cases_lt degree below shifted true h k = xor_lt degree shifted below k h
next_cases_lt degree below shifted false h k = k

pub next_lt : (degree below value : ℕ) (bit : Bool) → below < 2 ^ degree → next degree below value bit < 2 ^ degree
next_lt degree below value bit h =
    let some : 0 < 2 ^ degree = pow_pos degree in
    next_cases_lt degree below (2 * value % 2 ^ degree) (xor bit (bit_of value (degree - 1))) h (omega (arith, some))

pub length-below_of : (g : Generator) → length (below_of g) ≡ g.degree
length-below_of g = length-map-places _ g.degree

-- the check, as what a register of ones holds after the bits
pub check_bits_pushed : (g : Generator) (bits : List Bool) → 0 < g.degree →
    check_bits g bits ≡ pushed_all (below_of g) (replicate g.degree true) bits
unfolding check_bits
check_bits_pushed g bits some =
    let long = length-below_of g in
    ap (λ (n : ℕ). remainder (below_of g)
    (plus_at_front (bits ++ replicate n false) (replicate g.degree true))) (sym long)
    ∙ remainder_pushed (below_of g) bits (replicate g.degree true) (omega (arith, some, long))
    (length-replicate g.degree true ∙ sym long)

pub length-check_bits : (g : Generator) (bits : List Bool) → 0 < g.degree → length (check_bits g bits) ≡ g.degree
length-check_bits g bits some =
    ap length (check_bits_pushed g bits some) ∙
    length_pushed_all (below_of g) (replicate g.degree true) bits
    (length-replicate g.degree true ∙ sym (length-below_of g))
    (omega (arith, some, length-below_of g)) ∙ length-below_of g

-- the code's shift and its test of the leading bit
shifted_is : (degree value : ℕ) → degree ≤ 30 → value < 2 ^ degree →
    bit_and (value * 2 % 4294967296) (1 * 2 ^ degree % 4294967296 - 1) ≡ 2 * value % 2 ^ degree
shifted_is degree value most fits =
    let bound : 2 ^ degree ≤ 2 ^ 30 = pow_mono most in
    let mask : 1 * 2 ^ degree % 4294967296 - 1 ≡ 2 ^ degree - 1 = omega (arith, bound) in
    let whole : value * 2 % 4294967296 ≡ 2 * value = omega (arith, bound, fits) in
    rw (mask, whole) (and_mask (2 * value) degree)

abbrev pub code_lead : ℕ → ℕ → Bool
code_lead degree value = nat_eq (bit_and (value / 2 ^ (degree - 1)) 1) 1

xor_is : (a b : Bool) → not (beq a b) ≡ xor b a
xor_is true true = refl
xor_is true false = refl
xor_is false true = refl
xor_is false false = refl

lead_is : (degree value : ℕ) (bit test : Bool) → not (beq (code_lead degree value) bit) ≡ test →
    xor bit (bit_of value (degree - 1)) ≡ test
lead_is degree value bit test is =
    ap (xor bit) (ap (λ (n : ℕ). nat_eq n 1) (sym (and_mask (value / 2 ^ (degree - 1)) 1))) ∙
    sym (xor_is (code_lead degree value) bit) ∙ is

pub next_then : (degree below value x : ℕ) (bit : Bool) → degree ≤ 30 → value < 2 ^ degree →
    not (beq (code_lead degree value) bit) ≡ true →
    x ≡ bit_xor (bit_and (value * 2 % 4294967296) (1 * 2 ^ degree % 4294967296 - 1)) below →
    x ≡ next degree below value bit
next_then degree below value x bit most fits test is =
    is ∙ ap (λ (s : ℕ). bit_xor s below) (shifted_is degree value most fits)
    ∙ ap (λ (b : Bool). cond b (bit_xor (2 * value % 2 ^ degree) below) (2 * value % 2 ^ degree))
    (sym (lead_is degree value bit true test))

pub next_else : (degree below value x : ℕ) (bit : Bool) → degree ≤ 30 → value < 2 ^ degree →
    not (beq (code_lead degree value) bit) ≡ false →
    x ≡ bit_and (value * 2 % 4294967296) (1 * 2 ^ degree % 4294967296 - 1) → x ≡ next degree below value bit
next_else degree below value x bit most fits test is =
    is ∙ shifted_is degree value most fits
    ∙ ap (λ (b : Bool). cond b (bit_xor (2 * value % 2 ^ degree) below) (2 * value % 2 ^ degree))
    (sym (lead_is degree value bit false test))

-- the digits of the number that a list of k bits spells
digits_of : (k n : ℕ) (bs : List Bool) → n ≡ number bs → length bs ≡ k → binary k n ≡ bs
digits_of k n bs is long = ap (binary k) is ∙ ap (λ (w : ℕ). binary w (number bs)) (sym long) ∙ binary-number bs

-- the check of one bit more
pub check_more : (g : Generator) (value : ℕ) (bits : List Bool) (bit : Bool) → 0 < g.degree →
    value ≡ number (check_bits g bits) →
    next g.degree (number (below_of g)) value bit ≡ number (check_bits g (bits ++ bit ∷ []))
check_more g value bits bit some is =
    let k = g.degree in
    let ones = replicate k true in
    let below = below_of g in
    let long : length below ≡ k = length-below_of g in
    let held : binary k value ≡ check_bits g bits =
    digits_of k value (check_bits g bits) is (length-check_bits g bits some) in
    let taps : binary k (number below) ≡ below = digits_of k (number below) below refl long in
    let moved : binary k (next k (number below) value bit) ≡ check_bits g (bits ++ bit ∷ []) =
    sym (binary-next k (number below) value bit some)
    ∙ ap (λ (r : List Bool). pushed r (binary k value) bit) taps
    ∙ ap (λ (r : List Bool). pushed below r bit) (held ∙ check_bits_pushed g bits some)
    ∙ sym (pushed_all-push below ones bits bit)
    ∙ sym (check_bits_pushed g (bits ++ bit ∷ []) some) in
    let small : number below < 2 ^ k = rw long at (number_lt below) in
    sym (number-binary k (next k (number below) value bit) (next_lt k (number below) value bit small)) ∙ ap number moved

-- the check of no bits is all ones
pub check_none : (g : Generator) → 0 < g.degree → number (check_bits g []) + 1 ≡ 2 ^ g.degree
check_none g some = rw (check_bits_pushed g [] some) (number-ones g.degree)

-- Binary digits of numbers of a given width: sums, shifts, and the numbers that digits spell.
use Rattle.chip_core.proofs.Common.{◌≡◌, ℕ, zero, suc, ◌+◌, ◌*◌, ◌/◌, ◌%◌, ◌^◌, ◌<◌, Bool, false, List, [], ◌∷◌, ◌++◌, length, refl, sym}
use Rattle.chip_core.proofs.Common.{ap, ◌∙◌, arith, nat_eq, bit_xor, xor_shr, pow_pos, field_of, bit_at_xor, mod-mod-pow, xor, number}
use Rattle.chip_core.proofs.Common.{binary, digit_again}
use Rattle.std.proofs.Math.Nat.{lt-div-mul-add}
use Rattle.chip_core.proofs.Numerals.{number_from-append, number_from-front}
use Rattle.chip_core.proofs.BitLists.{add, zip_push}
use Rattle.chip_core.proofs.FieldLists.{length-binary}

same_length : (w a b : ℕ) → length (binary w a) ≡ length (binary w b)
same_length w a b = length-binary w a ∙ sym (length-binary w b)

-- the sum of two digits
pub one_bit_xor : (p q : ℕ) → p < 2 → q < 2 → nat_eq ((p + q) % 2) 1 ≡ xor (nat_eq p 1) (nat_eq q 1)
one_bit_xor zero zero h k = refl
one_bit_xor zero (suc zero) h k = refl
one_bit_xor (suc zero) zero h k = refl
one_bit_xor (suc zero) (suc zero) h k = refl
one_bit_xor (suc (suc p)) q h k = absurd (omega (arith, h))
one_bit_xor p (suc (suc q)) h k = absurd (omega (arith, k))

-- The lowest bit of an exclusive or is set just where one of both numbers is odd: bit 0 of it is
-- the sum of both bits 0, modulo 2.
low_xor : (a b : ℕ) → nat_eq (bit_xor a b % 2) 1 ≡ xor (nat_eq (a % 2) 1) (nat_eq (b % 2) 1)
low_xor a b =
    let e : bit_xor a b / 2 ^ 0 % 2 ≡ (a / 2 ^ 0 % 2 + b / 2 ^ 0 % 2) % 2 = bit_at_xor a b 0 in
    let p : bit_xor a b / 2 ^ 0 ≡ bit_xor a b = omega arith in
    let q : a / 2 ^ 0 ≡ a = omega arith in
    let r : b / 2 ^ 0 ≡ b = omega arith in
    ap (λ n. nat_eq n 1) (rw (p, q, r) at e) ∙
    one_bit_xor (a % 2) (b % 2) (omega arith) (omega arith)

-- The bits of an exclusive or are the sums of both numbers' bits, place by place, by induction over
-- the width: half of it is that of both halves, and its lowest bit is that of both lowest bits.
pub binary-xor : (w a b : ℕ) → binary w (bit_xor a b) ≡ add (binary w a) (binary w b)
unfolding binary
binary-xor zero a b = refl
binary-xor (suc w) a b =
    let half : bit_xor a b / 2 ≡ bit_xor (a / 2) (b / 2) = xor_shr a b 1 in
    rw (half, low_xor a b, binary-xor w (a / 2) (b / 2))
    (sym (zip_push xor (binary w (a / 2)) (binary w (b / 2)) (nat_eq (a % 2) 1)
    (nat_eq (b % 2) 1) (same_length w (a / 2) (b / 2))))

pub binary-double : (w n : ℕ) → binary (suc w) (2 * n) ≡ binary w n ++ false ∷ []
unfolding binary
binary-double w n =
    let half : 2 * n / 2 ≡ n = omega arith in
    let even : 2 * n % 2 ≡ 0 = omega arith in
    rw (half, even)

pub binary-low : (w v n : ℕ) → binary w (n % 2 ^ (w + v)) ≡ binary w n
unfolding binary
binary-low zero v n = refl
binary-low (suc w) v n =
    let place : suc w + v ≡ w + v + 1 = omega arith in
    let half : n % 2 ^ (w + v + 1) / 2 ≡ n / 2 % 2 ^ (w + v) = field_of n (w + v) 1 in
    let low : n % 2 ^ (w + v + 1) % 2 ≡ n % 2 = mod-mod-pow n (w + v) 1 in
    rw (place, half, low, binary-low w v (n / 2))

pub number-binary : (w n : ℕ) → n < 2 ^ w → number (binary w n) ≡ n
unfolding binary
number-binary zero n h = omega (arith, h)
number-binary (suc w) n h =
    let half : n / 2 < 2 ^ w = omega (arith, h) in
    number_from-append 0 (binary w (n / 2)) (nat_eq (n % 2) 1 ∷ [])
    ∙ rw (number-binary w (n / 2) half, digit_again (n % 2) (omega arith)) (omega arith)

pub number_lt : (bs : List Bool) → number bs < 2 ^ length bs
number_lt bs =
    let below : number bs < number bs / 2 ^ length bs * 2 ^ length bs + 2 ^ length bs =
    lt-div-mul-add (pow_pos (length bs)) in
    let bound = rw (number_from-front 0 bs) at below in
    omega (arith, bound)

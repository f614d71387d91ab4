-- The bits of shift registers, and sums modulo 2 of them.
use Rattle.chip_core.proofs.Common.{◌≡◌, ℕ, zero, suc, ◌+◌, ◌-◌, ◌*◌, ◌/◌, ◌%◌, ◌^◌, ◌<◌, ◌≤◌, Bool, true, false, not, List, [], length, ap}
use Rattle.chip_core.proofs.Common.{get_or, map, drop, refl, sym, ◌∙◌, arith, bit_and, nat_eq, at_drop_more, drop_all, get_or_append_left}
use Rattle.chip_core.proofs.Common.{get_or_push, and_mask, field_of, shr-shr, mod-mod-pow, xor, parity, digit, bit_of, binary}
use mathlib.Core.Bool.{beq}
use Rattle.chip_core.proofs.Numerals.{half_of}
use Rattle.chip_core.proofs.FieldLists.{length-binary}

pub xor_false : (a : Bool) → xor a false ≡ a
xor_false true = refl
xor_false false = refl

-- the code's `!=`, one bit further
pub xor_step : (a b c : Bool) → xor (not (beq a b)) c ≡ xor a (xor b c)
xor_step true true true = refl
xor_step true true false = refl
xor_step true false true = refl
xor_step true false false = refl
xor_step false true true = refl
xor_step false true false = refl
xor_step false false true = refl
xor_step false false false = refl

-- One place more moves its bit out of what is left and into the sum: the bit that is read is the
-- register's at place i, and the code's `!=` adds it (`xor_step`).
pub parity_more : (n : ℕ) (sum : Bool) (at : List ℕ) (i : ℕ) → i < length at →
    xor (not (beq sum (nat_eq (bit_and (n / 2 ^ get_or at i 0) 1) 1))) (parity (map (bit_of n) (drop (i + 1) at)))
    ≡ xor sum (parity (map (bit_of n) (drop i at)))
parity_more n sum at i h =
    let bit = bit_of n (get_or at i 0) in
    let rest = parity (map (bit_of n) (drop (i + 1) at)) in
    let split : xor sum (parity (map (bit_of n) (drop i at))) ≡ xor sum (xor bit rest) =
    at_drop_more (λ (ys : List ℕ). xor sum (parity (map (bit_of n) ys))) at i 0 h in
    let read : nat_eq (bit_and (n / 2 ^ get_or at i 0) 1) 1 ≡ bit =
    ap (λ b. nat_eq b 1) (and_mask (n / 2 ^ get_or at i 0) 1) in
    rw read (xor_step sum bit rest ∙ sym split)

-- after the last place
pub parity_done : (f : ℕ → Bool) (sum all : Bool) (at : List ℕ) (i : ℕ) → length at ≤ i →
    xor sum (parity (map f (drop i at))) ≡ all → sum ≡ all
parity_done f sum all at i done is =
    let none : drop i at ≡ [] = drop_all i at done in
    sym (xor_false sum) ∙ rw none at is

-- Bit k of the low w bits is that of the number, for k below w: shifted by k, the low w bits are
-- the low w - k bits of the shifted number (`field_of`), and their lowest bit is its own.
pub low_bit : (n w k : ℕ) → k < w → bit_of (n % 2 ^ w) k ≡ bit_of n k
low_bit n w k h =
    let parts : w - k - 1 + 1 + k ≡ w = omega arith in
    let e : n % 2 ^ (w - k - 1 + 1 + k) / 2 ^ k ≡ n / 2 ^ k % 2 ^ (w - k - 1 + 1) = field_of n (w - k - 1 + 1) k in
    let f : n / 2 ^ k % 2 ^ (w - k - 1 + 1) % 2 ≡ n / 2 ^ k % 2 = mod-mod-pow (n / 2 ^ k) (w - k - 1) 1 in
    let g : n % 2 ^ w / 2 ^ k % 2 ≡ n / 2 ^ k % 2 ^ (w - k - 1 + 1) % 2 = (rw parts at (ap (λ m. m % 2) e)) in
    ap (λ m. nat_eq m 1) (g ∙ f)

-- the bits of a register with one more bit at its low end
pub bit_of-first : (r : ℕ) (b : Bool) → bit_of (2 * r + digit b) 0 ≡ b
bit_of-first r true = let e : (2 * r + 1) / 2 ^ 0 % 2 ≡ 1 = omega arith in ap (λ n. nat_eq n 1) e
bit_of-first r false = let e : (2 * r + 0) / 2 ^ 0 % 2 ≡ 0 = omega arith in ap (λ n. nat_eq n 1) e

pub bit_of-half : (n k : ℕ) → bit_of n (suc k) ≡ bit_of (n / 2) k
bit_of-half n k =
    let place : suc k ≡ 1 + k = omega arith in
    ap (λ m. nat_eq (m % 2) 1) (ap (λ e. n / 2 ^ e) place ∙ sym (shr-shr n 1 k))

pub bit_of-next : (r : ℕ) (b : Bool) (k : ℕ) → bit_of (2 * r + digit b) (suc k) ≡ bit_of r k
bit_of-next r b k = bit_of-half (2 * r + digit b) k ∙ ap (λ m. bit_of m k) (half_of r b)

-- the clauses of `binary`, which is unfolded only here
pub binary-none : (n : ℕ) → binary 0 n ≡ []
unfolding binary
binary-none n = refl

-- By induction over the width, the digits of a number are its bits, the highest first: bit 0 is the
-- last digit, and a higher bit is that of the half one place lower, whose digits stand before it.
pub get_or-binary : (w n k : ℕ) → k < w → get_or (binary w n) (w - 1 - k) false ≡ bit_of n k
unfolding binary
get_or-binary zero n k h = absurd (omega (arith, h))
get_or-binary (suc w) n zero h =
    let place : suc w - 1 - 0 ≡ w = omega arith in
    let whole : n / 2 ^ 0 ≡ n = omega arith in
    rw (place, whole) (get_or_push (binary w (n / 2)) (nat_eq (n % 2) 1) false w (length-binary w (n / 2)))
get_or-binary (suc w) n (suc k) h =
    let place : suc w - 1 - suc k ≡ w - 1 - k = omega arith in
    let within : w - 1 - k < length (binary w (n / 2)) = omega (arith, h, length-binary w (n / 2)) in
    rw place (get_or_append_left (binary w (n / 2)) _ false (w - 1 - k) within ∙
    get_or-binary w (n / 2) k (omega (arith, h)) ∙ sym (bit_of-half n k))

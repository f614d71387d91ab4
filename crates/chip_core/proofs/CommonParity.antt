-- The parity of the bits that two numbers have in common, by a count of set bits.
use Rattle.chip_core.proofs.Common.{◌≡◌, ℕ, zero, suc, ◌+◌, ◌*◌, ◌/◌, ◌%◌, ◌^◌, ◌<◌, Bool, true, false, cond, List, [], ◌∷◌, ◌++◌, length}
use Rattle.chip_core.proofs.Common.{refl, sym, ap, ◌∙◌, arith, nat_eq, bit_and, min, and_shr, and_le_l, and_mask, ones_cat, bit_at_and, xor}
use Rattle.chip_core.proofs.Common.{parity, binary, zip_with, common_parity}
use Rattle.std.specs.Int.RustNames.{count_ones}
use Rattle.chip_core.proofs.BitLists.{xor_assoc, zip_push}
use Rattle.chip_core.proofs.Digits.{one_bit_xor}
use Rattle.chip_core.proofs.FieldLists.{length-binary}

abbrev both : Bool → Bool → Bool
both a b = cond a b false

least_bit : (p q : ℕ) → p < 2 → q < 2 → nat_eq (min p q) 1 ≡ both (nat_eq p 1) (nat_eq q 1)
least_bit zero zero h k = refl
least_bit zero (suc zero) h k = refl
least_bit (suc zero) zero h k = refl
least_bit (suc zero) (suc zero) h k = refl
least_bit (suc (suc p)) q h k = absurd (omega (arith, h))
least_bit p (suc (suc q)) h k = absurd (omega (arith, k))

-- The lowest bit of the common bits of two numbers is set just where both numbers are odd: bit 0 of
-- a conjunction is the lesser of both bits 0.
low_and : (a b : ℕ) → nat_eq (bit_and a b % 2) 1 ≡ both (nat_eq (a % 2) 1) (nat_eq (b % 2) 1)
low_and a b =
    let e : bit_and a b / 2 ^ 0 % 2 ≡ min (a / 2 ^ 0 % 2) (b / 2 ^ 0 % 2) = bit_at_and a b 0 in
    let p : bit_and a b / 2 ^ 0 ≡ bit_and a b = omega arith in
    let q : a / 2 ^ 0 ≡ a = omega arith in
    let r : b / 2 ^ 0 ≡ b = omega arith in
    ap (λ n. nat_eq n 1) (rw (p, q, r) at e) ∙ least_bit (a % 2) (b % 2) (omega arith) (omega arith)

-- By induction over the width, the digits of a conjunction are those that both numbers have: half
-- of it is that of both halves, and its lowest digit is set where both lowest are (`low_and`).
binary-and : (w a b : ℕ) → binary w (bit_and a b) ≡ zip_with both (binary w a) (binary w b)
unfolding binary
binary-and zero a b = refl
binary-and (suc w) a b =
    let half : bit_and a b / 2 ≡ bit_and (a / 2) (b / 2) = and_shr a b 1 in
    let long : length (binary w (a / 2)) ≡ length (binary w (b / 2)) = length-binary w (a / 2) ∙
    sym (length-binary w (b / 2)) in
    rw (half, low_and a b, binary-and w (a / 2) (b / 2))
    (sym (zip_push both (binary w (a / 2)) (binary w (b / 2)) (nat_eq (a % 2) 1) (nat_eq (b % 2) 1) long))

parity-push : (bs : List Bool) (b : Bool) → parity (bs ++ b ∷ []) ≡ xor (parity bs) b
parity-push [] true = refl
parity-push [] false = refl
parity-push (x ∷ bs) b = ap (xor x) (parity-push bs b) ∙ sym (xor_assoc x (parity bs) b)

one_digit : (p : ℕ) → p < 2 → count_ones p ≡ p
unfolding count_ones
one_digit zero h = refl
one_digit (suc zero) h = refl
one_digit (suc (suc p)) h = absurd (omega (arith, h))

odd_sum : (m p : ℕ) → p < 2 → nat_eq ((m + p) % 2) 1 ≡ xor (nat_eq (m % 2) 1) (nat_eq p 1)
odd_sum m p h =
    ap (λ n. nat_eq n 1) (let e : (m + p) % 2 ≡ (m % 2 + p) % 2 = omega arith in e) ∙
    one_bit_xor (m % 2) p (omega arith) h

-- By induction over the width, the count of a number's set digits is odd just where their parity
-- says so: the lowest digit is added to the count of the half, and to its parity (`odd_sum`).
odd_ones : (w n : ℕ) → n < 2 ^ w → nat_eq (count_ones n % 2) 1 ≡ parity (binary w n)
unfolding binary
odd_ones zero n h = let none : n ≡ 0 = omega (arith, h) in rw (none, one_digit 0 (omega arith))
odd_ones (suc w) n h =
    let half : n / 2 < 2 ^ w = omega (arith, h) in
    let parts : n / 2 * 2 ^ 1 + n % 2 ≡ n = omega arith in
    let ones : count_ones n ≡ count_ones (n / 2) + n % 2 =
    ap count_ones (sym parts) ∙ ones_cat 1 (n / 2) (n % 2) (omega arith) ∙
    ap (λ k. count_ones (n / 2) + k) (one_digit (n % 2) (omega arith)) in
    rw (ones, odd_sum (count_ones (n / 2)) (n % 2) (omega arith), odd_ones w (n / 2) half)
    (sym (parity-push (binary w (n / 2)) (nat_eq (n % 2) 1)))

-- the code's `(a & b).count_ones() & 1 == 1`
pub common_parity-ones : (w a b : ℕ) → a < 2 ^ w →
    nat_eq (bit_and (count_ones (bit_and a b)) 1) 1 ≡ common_parity (binary w a) (binary w b)
common_parity-ones w a b h =
    let small : bit_and a b < 2 ^ w = omega (arith, and_le_l a b, h) in
    ap (λ n. nat_eq n 1) (and_mask (count_ones (bit_and a b)) 1) ∙ odd_ones w (bit_and a b) small ∙
    ap parity (binary-and w a b)

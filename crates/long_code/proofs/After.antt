-- The state n chips later: sums, products and periods.
use Rattle.long_code.proofs.Common.{◌≡◌, ℕ, ◌+◌, ◌*◌, ◌/◌, ◌%◌, ◌^◌, ◌<◌, Bool, true, false, cond, [], ◌∷◌, ◌++◌, length, refl, sym, ap}
use Rattle.long_code.proofs.Common.{◌∙◌, arith, bit_xor, xor_lt, number, binary, bit_of, places, add, below, after, length-binary}
use Rattle.long_code.proofs.Common.{binary-front, binary-number_from, binary-xor, binary-double, binary-low, number-binary, number_lt}
use Rattle.long_code.proofs.Division.{shifted, times_x, remainder-zeros, length_times_x, times_x-times_x}

pub length-below : length below ≡ 42
unfolding places
length-below = refl

pub polynomial : binary 42 45339313391 ≡ below
unfolding binary places
polynomial = refl

pub state_length : (s : ℕ) → length (binary 42 s) ≡ length below
state_length s = length-binary 42 s ∙ sym length-below

pub after_is : (s n : ℕ) → after s n ≡ number (times_x n below (binary 42 s))
unfolding after
after_is s n = ap number (remainder-zeros n below (binary 42 s) (state_length s))

long : (s n : ℕ) → length (times_x n below (binary 42 s)) ≡ 42
long s n = length_times_x n below (binary 42 s) (state_length s) ∙ length-below

pub binary-after : (s n : ℕ) → binary 42 (after s n) ≡ times_x n below (binary 42 s)
binary-after s n = rw (after_is s n) (rw (long s n) at (binary-number_from 0 (times_x n below (binary 42 s))))

pub after_lt : (s n : ℕ) → after s n < 2 ^ 42
after_lt s n = rw (after_is s n) (rw (long s n) at (number_lt (times_x n below (binary 42 s))))

pub after-after : (s m n : ℕ) → after (after s m) n ≡ after s (m + n)
after-after s m n =
    after_is (after s m) n ∙ ap (λ b. number (times_x n below b)) (binary-after s m)
    ∙ ap number (times_x-times_x m n below (binary 42 s)) ∙ sym (after_is s (m + n))

-- one step on numbers
abbrev pub stepped : ℕ → ℕ
stepped v = cond (bit_of v 41) (bit_xor (2 * v % 2 ^ 42) 45339313391) (2 * v % 2 ^ 42)

stepped_lt : (b : Bool) (v : ℕ) → cond b (bit_xor (2 * v % 2 ^ 42) 45339313391) (2 * v % 2 ^ 42) < 2 ^ 42
stepped_lt true v = xor_lt 42 (2 * v % 2 ^ 42) 45339313391 (omega arith) (omega arith)
stepped_lt false v = omega arith

by_lead : (b : Bool) (v : ℕ) → binary 42 (cond b (bit_xor (2 * v % 2 ^ 42) 45339313391) (2 * v % 2 ^ 42)) ≡
    shifted below (b ∷ binary 41 v)
by_lead true v =
    binary-xor 42 (2 * v % 2 ^ 42) 45339313391
    ∙ ap (λ x. add x (binary 42 45339313391)) (binary-low 42 0 (2 * v) ∙ binary-double 41 v)
    ∙ ap (add (binary 41 v ++ false ∷ [])) polynomial
by_lead false v = binary-low 42 0 (2 * v) ∙ binary-double 41 v

pub binary-stepped : (v : ℕ) → binary 42 (stepped v) ≡ shifted below (binary 42 v)
binary-stepped v = by_lead (bit_of v 41) v ∙ ap (shifted below) (sym (binary-front 41 v))

pub after_one : (v : ℕ) → after v 1 ≡ stepped v
after_one v =
    after_is v 1 ∙ ap number (sym (binary-stepped v)) ∙
    number-binary 42 (stepped v) (stepped_lt (bit_of v 41) v)

pub after_none : (v : ℕ) → v < 2 ^ 42 → after v 0 ≡ v
after_none v h = after_is v 0 ∙ number-binary 42 v h

-- the chips that are left, halved
pub odd_left : (v v' e left total : ℕ) → left % 2 ≡ 1 → v' ≡ after v e →
    after v (left * e) ≡ total → after v' (left / 2 * (e + e)) ≡ total
odd_left v v' e left total odd is h =
    let whole : 2 * (left / 2) + 1 ≡ left = omega (arith, odd) in
    let parts : e + left / 2 * (e + e) ≡ (2 * (left / 2) + 1) * e = omega arith in
    rw is (after-after v e (left / 2 * (e + e)) ∙ ap (after v) (parts ∙ ap (λ n. n * e) whole) ∙ h)

pub even_left : (v e left total : ℕ) → left % 2 ≡ 0 → after v (left * e) ≡ total → after v (left / 2 * (e + e)) ≡ total
even_left v e left total even h =
    let whole : 2 * (left / 2) ≡ left = omega (arith, even) in
    let parts : left / 2 * (e + e) ≡ 2 * (left / 2) * e = omega arith in
    ap (after v) (parts ∙ ap (λ n. n * e) whole) ∙ h

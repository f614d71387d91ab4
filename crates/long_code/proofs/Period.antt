-- Every state returns after 2^42 - 1 chips: the checker computes that power of x by squaring.
use Rattle.long_code.proofs.Common.{◌≡◌, ℕ, zero, suc, ◌+◌, ◌-◌, ◌*◌, ◌/◌, ◌^◌, ◌<◌, ◌≤◌, Bool, cond, List, [], ◌∷◌, length, refl, subst}
use Rattle.long_code.proofs.Common.{sym, ap, ◌∙◌, arith, bit_xor, shr_le, shr-shr, pow_pos, digit, number_from, binary, number_from-front}
use Rattle.long_code.proofs.Common.{IsState, after, before, period, number-binary}
use Rattle.long_code.proofs.After.{stepped, after_lt, after-after, after_one, after_none}
use Rattle.long_code.proofs.Product.{after-zero, digit_more}
use Rattle.long_code.proofs.Before.{after-before, before_lt}

-- PRODUCTS of numbers, digit by digit from the highest

abbrev one_more : ℕ → ℕ → Bool → ℕ
one_more power sum bit = cond bit (bit_xor (stepped sum) power) (stepped sum)

abbrev product_from : ℕ → ℕ → List Bool → ℕ
product_from power sum [] = sum
product_from power sum (bit ∷ bits) = product_from power (one_more power sum bit) bits

abbrev product : ℕ → ℕ → ℕ
product value power = product_from power 0 (binary 42 value)

one_more_is : (u chips : ℕ) (bit : Bool) → u < 2 ^ 41 →
    one_more (after 1 chips) (after u chips) bit ≡ after (2 * u + digit bit) chips
one_more_is u chips bit h =
    ap (λ (v : ℕ). cond bit (bit_xor v (after 1 chips)) v) (sym (after_one (after u chips))) ∙
    digit_more u chips bit h

-- The loop over a state's bits gives the state `chips` chips later, by induction over the bits: one
-- bit more doubles the state and adds the bit, so what it becomes is multiplied by x and, where the
-- bit is 1, gets what 1 becomes added.
product_from_is : (chips u : ℕ) (bits : List Bool) → number_from u bits < 2 ^ 42 →
    product_from (after 1 chips) (after u chips) bits ≡ after (number_from u bits) chips
product_from_is chips u [] h = refl
product_from_is chips u (bit ∷ bits) h =
    let all = number_from u (bit ∷ bits) in
    let place : suc (length bits) ≡ length bits + 1 = omega arith in
    let front : all / 2 ^ length bits / 2 ≡ u = shr-shr all (length bits) 1 ∙
    ap (λ (e : ℕ). all / 2 ^ e) (sym place) ∙ number_from-front u (bit ∷ bits) in
    let small : u < 2 ^ 41 = omega (arith, front, shr_le all (length bits), h) in
    ap (λ (v : ℕ). product_from (after 1 chips) v bits) (one_more_is u chips bit small) ∙
    product_from_is chips (2 * u + digit bit) bits h

product_is : (value power chips : ℕ) → value < 2 ^ 42 → power ≡ after 1 chips → product value power ≡ after value chips
product_is value power chips h e =
    let whole : number_from 0 (binary 42 value) ≡ value = number-binary 42 value h in
    let small : number_from 0 (binary 42 value) < 2 ^ 42 = rw whole h in
    ap (product value) e ∙
    ap (λ (v : ℕ). product_from (after 1 chips) v (binary 42 value)) (sym (after-zero chips))
    ∙ product_from_is chips 0 (binary 42 value) small ∙ ap (λ (v : ℕ). after v chips) whole

-- x^(2^k - 1): squared and multiplied by x, k times
abbrev squared : ℕ → ℕ
squared power = stepped (product power power)

abbrev power_of_ones : ℕ → ℕ
power_of_ones zero = 1
power_of_ones (suc k) = squared (power_of_ones k)

-- Squaring and stepping k times gives the state 2^k - 1 chips after 1, by induction over k: a
-- square doubles the count of chips, and a step adds one to it.
power_of_ones_is : (k : ℕ) → power_of_ones k ≡ after 1 (2 ^ k - 1)
power_of_ones_is zero = sym (after_none 1 (omega arith))
power_of_ones_is (suc k) =
    let e = 2 ^ k - 1 in
    let p = power_of_ones k in
    let is : p ≡ after 1 e = power_of_ones_is k in
    let small : p < 2 ^ 42 = rw is (after_lt 1 e) in
    let twice : product p p ≡ after 1 (e + e) = product_is p p e small is ∙
    ap (λ (v : ℕ). after v e) is ∙ after-after 1 e e in
    let count : e + e + 1 ≡ 2 ^ (suc k) - 1 = omega (arith, pow_pos k) in
    ap stepped twice ∙ sym (after_one (after 1 (e + e))) ∙ after-after 1 (e + e) 1 ∙
    ap (after 1) count

computed : power_of_ones 42 ≡ 1
unfolding binary
computed = refl

one_returns : after 1 period ≡ 1
one_returns = sym (power_of_ones_is 42) ∙ computed

pub after-period : (s : ℕ) → s < 2 ^ 42 → after s period ≡ s
after-period s h =
    sym (product_is s 1 period h (sym one_returns)) ∙
    product_is s 1 0 h (sym (after_none 1 (omega arith))) ∙ after_none s h

-- whole periods
after-periods : (s n : ℕ) → s < 2 ^ 42 → after s (period * n) ≡ s
after-periods s zero h = after_none s h
after-periods s (suc n) h =
    let count : period * suc n ≡ period + period * n = omega arith in
    ap (after s) count ∙ sym (after-after s period (period * n)) ∙
    ap (λ (v : ℕ). after v (period * n)) (after-period s h) ∙ after-periods s n h

-- back to the state by going on
returned : (s n : ℕ) → s < 2 ^ 42 → after (after s n) (period * n - n) ≡ s
returned s n h =
    let count : n + (period * n - n) ≡ period * n = omega arith in
    after-after s n (period * n - n) ∙ ap (after s) count ∙ after-periods s n h

pub after-injective : (s t n : ℕ) → s < 2 ^ 42 → t < 2 ^ 42 → after s n ≡ after t n → s ≡ t
after-injective s t n p q e = sym (returned s n p) ∙ ap (λ (v : ℕ). after v (period * n - n)) e ∙ returned t n q

positive : (n : ℕ) → ¬ (n ≡ 0) → 0 < n
positive zero h = absurd (h refl)
positive (suc n) h = omega arith

-- a state stays one
pub IsState-after : (s n : ℕ) → IsState s → IsState (after s n)
IsState-after s n (p, q) = (
  positive (after s n)
      (λ e. let none : s ≡ 0 = after-injective s 0 n q (omega arith) (e ∙ sym (after-zero n)) in
      omega (arith, p, none)),
  after_lt s n,
)

pub moved_state : (s n next : ℕ) → next ≡ after s n → IsState s → IsState next
moved_state s n next is h = subst (λ (m : ℕ). IsState m) (sym is) (IsState-after s n h)

-- the state n chips earlier
pub after-rest : (s n : ℕ) → s < 2 ^ 42 → n ≤ period → after (after s (period - n)) n ≡ s
after-rest s n h l =
    let count : period - n + n ≡ period = omega (arith, l) in
    after-after s (period - n) n ∙ ap (after s) count ∙ after-period s h

pub before_is_later : (s n : ℕ) → s < 2 ^ 42 → n ≤ period → before s n ≡ after s (period - n)
before_is_later s n h l =
    after-injective (before s n) (after s (period - n)) n (before_lt s n) (after_lt s (period - n))
    (after-before s n h ∙ sym (after-rest s n h l))

pub IsState-before : (s n : ℕ) → IsState s → IsState (before s n)
IsState-before s n (p, q) = (
  positive (before s n) (λ e. let none : s ≡ 0 = sym (after-before s n q) ∙
      ap (λ (v : ℕ). after v n) e ∙ after-zero n in omega (arith, p, none)),
  before_lt s n,
)

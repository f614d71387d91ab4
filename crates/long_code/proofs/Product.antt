-- Products with powers of x.
use Rattle.long_code.proofs.Common.{◌≡◌, ℕ, zero, suc, ◌+◌, ◌-◌, ◌*◌, ◌/◌, ◌%◌, ◌^◌, ◌<◌, Bool, true, false, cond, sym, ap, ◌∙◌, arith, add}
use Rattle.long_code.proofs.Common.{nat_eq, bit_xor, bit_and, xor_lt, xor_block, shr-shr, shr_le, and_mask, xor_zero_r, number, binary}
use Rattle.long_code.proofs.Common.{bit_of, digit, below, after, binary-xor, number-binary, digit_again}
use Rattle.long_code.proofs.Division.{times_x, times_x-add}
use Rattle.long_code.proofs.After.{after_is, binary-after, after_lt, after-after, after_one, state_length}

-- sums of states
pub after-xor : (a b n : ℕ) → after (bit_xor a b) n ≡ bit_xor (after a n) (after b n)
after-xor a b n =
    let digits : binary 42 (bit_xor (after a n) (after b n)) ≡
    times_x n below (binary 42 (bit_xor a b)) =
    binary-xor 42 (after a n) (after b n)
    ∙ ap (λ x. add x (binary 42 (after b n))) (binary-after a n)
    ∙ ap (add (times_x n below (binary 42 a))) (binary-after b n)
    ∙ sym (times_x-add n below (binary 42 a) (binary 42 b) (state_length a) (state_length b))
    ∙ ap (times_x n below) (sym (binary-xor 42 a b)) in
    after_is (bit_xor a b) n ∙ ap number (sym digits)
    ∙ number-binary 42 (bit_xor (after a n) (after b n))
    (xor_lt 42 (after a n) (after b n) (after_lt a n) (after_lt b n))

-- doubled where nothing is carried out
pub after-half : (u : ℕ) → u < 2 ^ 41 → after u 1 ≡ 2 * u
after-half u h =
    let high : u / 2 ^ 41 % 2 ≡ 0 = omega (arith, h) in
    let lead : bit_of u 41 ≡ false = ap (λ n. nat_eq n 1) high in
    let whole : 2 * u % 2 ^ 42 ≡ 2 * u = omega (arith, h) in
    after_one u ∙ rw (lead, whole)

pub after-commute : (s m n : ℕ) → after (after s m) n ≡ after (after s n) m
after-commute s m n =
    let turned : m + n ≡ n + m = omega arith in
    after-after s m n ∙ ap (after s) turned ∙ sym (after-after s n m)

pub after-zero : (n : ℕ) → after 0 n ≡ 0
after-zero zero = after_is 0 0 ∙ number-binary 42 0 (omega arith)
after-zero (suc n) =
    let place : suc n ≡ 1 + n = omega arith in
    ap (after 0) place ∙ sym (after-after 0 1 n) ∙
    ap (λ v. after v n) (after-half 0 (omega arith)) ∙ after-zero n

pub one_more : (u : ℕ) → bit_xor (2 * u) 1 ≡ 2 * u + 1
one_more u =
    let block : bit_xor (u * 2 + 0) 1 ≡ bit_xor u 0 * 2 + 1 = xor_block 1 u 0 0 1 (omega arith) (omega arith) in
    let left : u * 2 + 0 ≡ 2 * u = omega arith in
    let zero_added : bit_xor u 0 ≡ u = xor_zero_r u in
    let sum : u * 2 + 1 ≡ 2 * u + 1 = omega arith in
    rw (left, zero_added) at block ∙ sum

-- one digit more of the value
pub digit_more : (u chips : ℕ) (bit : Bool) → u < 2 ^ 41 →
    cond bit (bit_xor (after (after u chips) 1) (after 1 chips)) (after (after u chips) 1) ≡
    after (2 * u + digit bit) chips
digit_more u chips true h =
    let doubled : after (after u chips) 1 ≡ after (2 * u) chips = after-commute u chips 1 ∙
    ap (λ v. after v chips) (after-half u h) in
    ap (λ v. bit_xor v (after 1 chips)) doubled ∙ sym (after-xor (2 * u) 1 chips) ∙
    ap (λ v. after v chips) (one_more u)
digit_more u chips false h =
    let doubled : after (after u chips) 1 ≡ after (2 * u) chips = after-commute u chips 1 ∙
    ap (λ v. after v chips) (after-half u h) in
    let same : 2 * u + 0 ≡ 2 * u = omega arith in
    rw same doubled

-- the value's first digits, one digit further
digits_more : (value place : ℕ) → 0 < place → value / 2 ^ (place - 1) / 2 ≡ value / 2 ^ place
digits_more value place h =
    let next : place - 1 + 1 ≡ place = omega (arith, h) in
    shr-shr value (place - 1) 1 ∙ ap (λ (e : ℕ). value / 2 ^ e) next

-- One turn of the loop gives the product of the value with one digit more: one chip more doubles
-- the value's digits so far, and the bit, which is the next digit, adds the product of 1.
pub product_more : (value place chips sum : ℕ) (bit : Bool) → 0 < place → value < 2 ^ 42 →
    sum ≡ after (value / 2 ^ place) chips → bit ≡ nat_eq (bit_and (value / 2 ^ (place - 1)) 1) 1 →
    cond bit (bit_xor (after sum 1) (after 1 chips)) (after sum 1) ≡ after (value / 2 ^ (place - 1)) chips
product_more value place chips sum bit h small is read =
    let next = value / 2 ^ (place - 1) in
    let half : next / 2 ≡ value / 2 ^ place = digits_more value place h in
    let bound : next < 2 ^ 42 = omega (arith, shr_le value (place - 1), small) in
    let small_half : value / 2 ^ place < 2 ^ 41 = omega (arith, half, bound) in
    let digit_is : digit bit ≡ next % 2 =
    ap digit (read ∙ ap (λ (n : ℕ). nat_eq n 1) (and_mask next 1)) ∙
    digit_again (next % 2) (omega arith) in
    let whole : 2 * (value / 2 ^ place) + digit bit ≡ next = omega (arith, half, digit_is) in
    rw is (digit_more (value / 2 ^ place) chips bit small_half ∙ ap (λ v. after v chips) whole)

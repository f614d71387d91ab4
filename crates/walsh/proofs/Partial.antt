-- The entries after n stages: sums over the places of a block, with the signs of a shorter row.
use Rattle.walsh.proofs.Common.{◌≡◌, ℕ, zero, suc, ◌+◌, ◌-◌, ◌*◌, ◌%◌, ◌^◌, ◌<◌, ◌≤◌, Bool, true, false, not, List, [], ◌∷◌, length, get_or}
use Rattle.walsh.proofs.Common.{refl, sym, ap, ◌∙◌, arith, ℤ, nat_eq, bit_and, if◌then◌else◌, pos, negsuc, ◌+ℤ◌, ◌-ℤ◌, ◌*ℤ◌, neg_ℤ, ints}
use Rattle.walsh.proofs.Common.{and_block, and_le_l, and_mask, ones_cat, pow_pos, sign, bit_of, sum_below, walsh, walsh_sum_from}
use Rattle.std.specs.Int.RustNames.{count_ones}
use Rattle.walsh.proofs.Pairing.{IsLow, IsHigh, low, high}
use Rattle.walsh.proofs.RowTable.{walsh-ones}
use Rattle.chip_core.proofs.IndexSums.{sum_same, sum_front, sum_append, sum_turned, sum_one}

-- whether two numbers have an odd number of bits in common
odd : ℕ → ℕ → Bool
odd n k = nat_eq (count_ones (bit_and n k) % 2) 1

odd-walsh : (n k : ℕ) → n < 64 → odd n k ≡ walsh n k
unfolding odd
odd-walsh n k h = ap (λ (m : ℕ). nat_eq m 1) (sym (and_mask (count_ones (bit_and n k)) 1)) ∙ walsh-ones n k h

one_and : (a b : ℕ) → a < 2 → b < 2 → count_ones (bit_and a b) ≡ a * b
unfolding count_ones
one_and zero zero p q = refl
one_and zero (suc zero) p q = refl
one_and (suc zero) zero p q = refl
one_and (suc zero) (suc zero) p q = refl
one_and (suc (suc a)) b p q = absurd (omega (arith, p))
one_and a (suc (suc b)) p q = absurd (omega (arith, q))

-- the top bits apart
common_ones : (s a b r j : ℕ) → a < 2 → b < 2 → r < 2 ^ s → j < 2 ^ s →
    count_ones (bit_and (a * 2 ^ s + r) (b * 2 ^ s + j)) ≡ a * b + count_ones (bit_and r j)
common_ones s a b r j p q h k =
    let small : bit_and r j < 2 ^ s = omega (arith, and_le_l r j, h) in
    ap count_ones (and_block s a b r j h k) ∙ ones_cat s (bit_and a b) (bit_and r j) small ∙
    ap (λ (m : ℕ). m + count_ones (bit_and r j)) (one_and a b p q)

turned : (m : ℕ) → nat_eq ((1 + m) % 2) 1 ≡ not (nat_eq (m % 2) 1)
turned m =
    ap (λ (k : ℕ). nat_eq k 1) (let e : (1 + m) % 2 ≡ (1 + m % 2) % 2 = omega arith in e) ∙
    by_bit (m % 2) (omega arith)
  where
    by_bit : (p : ℕ) → p < 2 → nat_eq ((1 + p) % 2) 1 ≡ not (nat_eq p 1)
    by_bit zero h = refl
    by_bit (suc zero) h = refl
    by_bit (suc (suc p)) h = absurd (omega (arith, h))

-- a top bit that only one of the numbers has
odd-far : (s r j : ℕ) → r < 2 ^ s → j < 2 ^ s → odd r (2 ^ s + j) ≡ odd r j
unfolding odd
odd-far s r j h k =
    let e : count_ones (bit_and (0 * 2 ^ s + r) (1 * 2 ^ s + j)) ≡
    0 * 1 + count_ones (bit_and r j) = common_ones s 0 1 r j (omega arith) (omega arith) h k in
    let first : 0 * 2 ^ s + r ≡ r = omega arith in
    let second : 1 * 2 ^ s + j ≡ 2 ^ s + j = omega arith in
    let none : 0 * 1 + count_ones (bit_and r j) ≡ count_ones (bit_and r j) = omega arith in
    ap (λ (m : ℕ). nat_eq (m % 2) 1) (rw (first, second) at e ∙ none)

-- Row 2^s + r has the sign of row r at place j, where r and j are below 2^s: the bit that the row
-- has more is none of j's, so the bits that both have in common are the same.
odd-near : (s r j : ℕ) → r < 2 ^ s → j < 2 ^ s → odd (2 ^ s + r) j ≡ odd r j
unfolding odd
odd-near s r j h k =
    let e : count_ones (bit_and (1 * 2 ^ s + r) (0 * 2 ^ s + j)) ≡
    1 * 0 + count_ones (bit_and r j) = common_ones s 1 0 r j (omega arith) (omega arith) h k in
    let first : 1 * 2 ^ s + r ≡ 2 ^ s + r = omega arith in
    let second : 0 * 2 ^ s + j ≡ j = omega arith in
    let none : 1 * 0 + count_ones (bit_and r j) ≡ count_ones (bit_and r j) = omega arith in
    ap (λ (m : ℕ). nat_eq (m % 2) 1) (rw (first, second) at e ∙ none)

-- a top bit that both have
odd-both : (s r j : ℕ) → r < 2 ^ s → j < 2 ^ s → odd (2 ^ s + r) (2 ^ s + j) ≡ not (odd r j)
unfolding odd
odd-both s r j h k =
    let e : count_ones (bit_and (1 * 2 ^ s + r) (1 * 2 ^ s + j)) ≡
    1 * 1 + count_ones (bit_and r j) = common_ones s 1 1 r j (omega arith) (omega arith) h k in
    let first : 1 * 2 ^ s + r ≡ 2 ^ s + r = omega arith in
    let second : 1 * 2 ^ s + j ≡ 2 ^ s + j = omega arith in
    ap (λ (m : ℕ). nat_eq (m % 2) 1) (rw (first, second) at e) ∙ turned (count_ones (bit_and r j))

-- BLOCKS

-- the sum over a block of 2^s places from here on, with the signs of row r
abbrev block : ℕ → ℕ → ℕ → (ℕ → ℤ) → ℤ
block size base r x = sum_below size (λ j. sign (odd r j) *ℤ x (base + j))

sign_not : (b : Bool) (z : ℤ) → sign (not b) *ℤ z ≡ neg_ℤ (sign b *ℤ z)
sign_not true z = omega (arith, ints)
sign_not false z = omega (arith, ints)

far_term : (s r base j : ℕ) (x : ℕ → ℤ) → r < 2 ^ s → j < 2 ^ s →
    sign (odd r (2 ^ s + j)) *ℤ x (base + (2 ^ s + j)) ≡ sign (odd r j) *ℤ x (base + 2 ^ s + j)
far_term s r base j x h k =
    let place : base + (2 ^ s + j) ≡ base + 2 ^ s + j = omega arith in
    rw (place, odd-far s r j h k)

both_term : (s r base j : ℕ) (x : ℕ → ℤ) → r < 2 ^ s → j < 2 ^ s →
    sign (odd (2 ^ s + r) (2 ^ s + j)) *ℤ x (base + (2 ^ s + j)) ≡ neg_ℤ (sign (odd r j) *ℤ x (base + 2 ^ s + j))
both_term s r base j x h k =
    let place : base + (2 ^ s + j) ≡ base + 2 ^ s + j = omega arith in
    rw (place, odd-both s r j h k) (sign_not (odd r j) (x (base + 2 ^ s + j)))

near_term : (s r base j : ℕ) (x : ℕ → ℤ) → r < 2 ^ s → j < 2 ^ s →
    sign (odd (2 ^ s + r) j) *ℤ x (base + j) ≡ sign (odd r j) *ℤ x (base + j)
near_term s r base j x h k = rw (odd-near s r j h k)

block_sum : (s r base : ℕ) (x : ℕ → ℤ) → r < 2 ^ s →
    block (2 ^ s + 2 ^ s) base r x ≡ block (2 ^ s) base r x +ℤ block (2 ^ s) (base + 2 ^ s) r x
block_sum s r base x h =
    sum_append (2 ^ s) (2 ^ s) (λ j. sign (odd r j) *ℤ x (base + j))
    ∙ ap (λ (z : ℤ). block (2 ^ s) base r x +ℤ z)
    (sum_same (2 ^ s) (λ j. sign (odd r (2 ^ s + j)) *ℤ x (base + (2 ^ s + j)))
    (λ j. sign (odd r j) *ℤ x (base + 2 ^ s + j)) (λ j k. far_term s r base j x h k))

block_difference : (s r base : ℕ) (x : ℕ → ℤ) → r < 2 ^ s → block (2 ^ s + 2 ^ s) base (2 ^ s + r) x ≡
    block (2 ^ s) base r x -ℤ block (2 ^ s) (base + 2 ^ s) r x
block_difference s r base x h =
    let near : sum_below (2 ^ s) (λ j. sign (odd (2 ^ s + r) j) *ℤ x (base + j)) ≡
    block (2 ^ s) base r x =
    sum_same (2 ^ s) (λ j. sign (odd (2 ^ s + r) j) *ℤ x (base + j))
    (λ j. sign (odd r j) *ℤ x (base + j)) (λ j k. near_term s r base j x h k) in
    let far : sum_below (2 ^ s) (λ j. sign (odd (2 ^ s + r) (2 ^ s + j)) *ℤ x (base + (2 ^ s + j))) ≡
    neg_ℤ (block (2 ^ s) (base + 2 ^ s) r x) =
    sum_same (2 ^ s) (λ j. sign (odd (2 ^ s + r) (2 ^ s + j)) *ℤ x (base + (2 ^ s + j)))
    (λ j. neg_ℤ (sign (odd r j) *ℤ x (base + 2 ^ s + j))) (λ j k. both_term s r base j x h k)
    ∙ sum_turned (2 ^ s) (λ j. sign (odd r j) *ℤ x (base + 2 ^ s + j)) in
    sum_append (2 ^ s) (2 ^ s) (λ j. sign (odd (2 ^ s + r) j) *ℤ x (base + j)) ∙
    rw (near, far) (omega (arith, ints))

-- STAGES

-- entry n after the stages of the lowest s bits
pub partial : ℕ → (ℕ → ℤ) → ℕ → ℤ
partial s x n = block (2 ^ s) (n - n % 2 ^ s) (n % 2 ^ s) x

-- the same numbers make the same sums
pub partial-same : (s n : ℕ) (x y : ℕ → ℤ) → ((k : ℕ) → x k ≡ y k) → partial s x n ≡ partial s y n
unfolding partial
partial-same s n x y h =
    sum_same (2 ^ s) (λ j. sign (odd (n % 2 ^ s) j) *ℤ x (n - n % 2 ^ s + j))
    (λ j. sign (odd (n % 2 ^ s) j) *ℤ y (n - n % 2 ^ s + j))
    (λ j less. ap (λ (z : ℤ). sign (odd (n % 2 ^ s) j) *ℤ z) (h (n - n % 2 ^ s + j)))

plain : (z : ℤ) → sign false *ℤ z ≡ z
plain (pos n) = let e : 1 * n ≡ n = omega arith in ap pos e
plain (negsuc n) = let e : 1 * suc n ≡ suc n = omega arith in ap (λ (m : ℕ). neg_ℤ (pos m)) e

pub partial-none : (x : ℕ → ℤ) (n : ℕ) → partial 0 x n ≡ x n
unfolding partial odd count_ones
partial-none x n =
    let rest : n % 2 ^ 0 ≡ 0 = omega arith in
    let place : n - 0 + 0 ≡ n = omega arith in
    rw rest (sum_one (λ j. sign (odd 0 j) *ℤ x (n - 0 + j)) ∙ rw place (plain (x n)))

doubled : (s : ℕ) → 2 ^ (suc s) ≡ 2 ^ s + 2 ^ s
doubled s = omega arith

-- The sum of a butterfly's two entries is the lower one's partial sum after the next stage: each
-- entry is the sum over its own half of a block twice as long, and the row has the same signs in
-- both halves.
sum_more : (s n : ℕ) (x f : ℕ → ℤ) → IsLow s n → f n ≡ partial s x n →
    f (n + 2 ^ s) ≡ partial s x (n + 2 ^ s) → f n +ℤ f (n + 2 ^ s) ≡ partial (suc s) x n
unfolding partial
sum_more s n x f is here there =
    let r = n % 2 ^ s in
    let small : r < 2 ^ s = omega (arith, pow_pos s) in
    let within : r ≤ n = omega (arith, pow_pos s) in
    let base : n + 2 ^ s - (n + 2 ^ s) % 2 ^ s ≡ n - r + 2 ^ s = omega (arith, is.partner_in_block, within) in
    let there_is : f (n + 2 ^ s) ≡ block (2 ^ s) (n - r + 2 ^ s) r x = there ∙
    rw (base, is.partner_in_block) in
    let all : block (2 ^ (suc s)) (n - n % 2 ^ (suc s)) (n % 2 ^ (suc s)) x ≡
    block (2 ^ s + 2 ^ s) (n - r) r x = rw (is.in_block, doubled s) in
    rw (here, there_is, all) (sym (block_sum s r (n - r) x small))

-- At a place whose number has bit s the next stage of the fast transform is a difference: over the
-- doubled block a row with this bit has the signs of the row without it in the lower half, and the
-- opposite ones in the upper half.
difference_more : (s n : ℕ) (x f : ℕ → ℤ) → IsHigh s n → f n ≡ partial s x n →
    f (n - 2 ^ s) ≡ partial s x (n - 2 ^ s) → f (n - 2 ^ s) -ℤ f n ≡ partial (suc s) x n
unfolding partial
difference_more s n x f is here there =
    let r = n % 2 ^ s in
    let base = n - 2 ^ s - r in
    let small : r < 2 ^ s = omega (arith, pow_pos s) in
    let within : n % 2 ^ (suc s) ≤ n = omega (arith, pow_pos (suc s)) in
    let fits : 2 ^ s + r ≤ n = omega (arith, within, is.in_block) in
    let here_base : n - r ≡ base + 2 ^ s = omega (arith, fits) in
    let here_is : f n ≡ block (2 ^ s) (base + 2 ^ s) r x = here ∙
    ap (λ (b : ℕ). block (2 ^ s) b r x) here_base in
    let there_is : f (n - 2 ^ s) ≡ block (2 ^ s) base r x = there ∙
    ap (λ (k : ℕ). block (2 ^ s) (n - 2 ^ s - k) k x) is.partner_in_block in
    let all_base : n - (2 ^ s + r) ≡ base = omega arith in
    let all : block (2 ^ (suc s)) (n - n % 2 ^ (suc s)) (n % 2 ^ (suc s)) x ≡
    block (2 ^ s + 2 ^ s) base (2 ^ s + r) x =
    ap (λ (k : ℕ). block (2 ^ (suc s)) (n - k) k x) is.in_block ∙
    ap (λ (b : ℕ). block (2 ^ (suc s)) b (2 ^ s + r) x) all_base ∙
    ap (λ (m : ℕ). block m base (2 ^ s + r) x) (doubled s) in
    rw (here_is, there_is, all) (sym (block_difference s r base x small))

-- one stage more
pub partial-more : (s n : ℕ) (x f : ℕ → ℤ) → s < 6 → n < 64 → ((m : ℕ) → m < 64 → f m ≡ partial s x m) →
    (if bit_of n s then f (n - 2 ^ s) -ℤ f n else f n +ℤ f (n + 2 ^ s)) ≡ partial (suc s) x n
partial-more s n x f p q h = by_bit (bit_of n s) refl
  where
    by_bit : (b : Bool) → bit_of n s ≡ b →
        (if b then f (n - 2 ^ s) -ℤ f n else f n +ℤ f (n + 2 ^ s)) ≡ partial (suc s) x n
    by_bit true e = let is = high s n p q e in
        difference_more s n x f is (h n q) (h (n - 2 ^ s) (omega (arith, q)))
    by_bit false e = let is = low s n p q e in sum_more s n x f is (h n q) (h (n + 2 ^ s) is.room)

-- THE SUMS of the definition

-- A Walsh sum from place k on is a sum over places, each with the row's sign there, by induction
-- over the list: the first entry is the sum's first term, and the others move up by one place.
by_index : (n k : ℕ) (xs : List ℤ) → walsh_sum_from n k xs ≡
    sum_below (length xs) (λ j. sign (walsh n (k + j)) *ℤ get_or xs j (pos 0))
unfolding sum_below
by_index n k [] = refl
by_index n k (x ∷ xs) =
    let here : k + 0 ≡ k = omega arith in
    let place = λ (j : ℕ). let e : suc k + j ≡ k + suc j = omega arith in e in
    let rest : walsh_sum_from n (suc k) xs ≡
    sum_below (length xs) (λ j. sign (walsh n (k + suc j)) *ℤ get_or xs j (pos 0)) =
    by_index n (suc k) xs
    ∙ sum_same (length xs) (λ j. sign (walsh n (suc k + j)) *ℤ get_or xs j (pos 0))
    (λ j. sign (walsh n (k + suc j)) *ℤ get_or xs j (pos 0))
    (λ j h. ap (λ (m : ℕ). sign (walsh n m) *ℤ get_or xs j (pos 0)) (place j)) in
    let front = sum_front (length xs) (λ j. sign (walsh n (k + j)) *ℤ get_or (x ∷ xs) j (pos 0)) in
    rw rest (sym (front ∙
    ap (λ (m : ℕ). (sign (walsh n m) *ℤ x) +ℤ
    sum_below (length xs) (λ j. sign (walsh n (k + suc j)) *ℤ get_or xs j (pos 0))) here))

-- After all six stages an entry is the Walsh sum of its row: the block is the whole list, and the
-- signs of row n in it are those of the Walsh function.
pub partial-all : (n : ℕ) (xs : List ℤ) → n < 64 → length xs ≡ 64 →
    partial 6 (λ k. get_or xs k (pos 0)) n ≡ walsh_sum_from n 0 xs
unfolding partial
partial-all n xs h long =
    let row : n % 2 ^ 6 ≡ n = omega (arith, h) in
    let base : n - n ≡ 0 = omega arith in
    let first = λ (j : ℕ). let e : 0 + j ≡ j = omega arith in e in
    rw (row, base)
    (sum_same 64 (λ j. sign (odd n j) *ℤ get_or xs (0 + j) (pos 0)) (λ j. sign (walsh n (0 + j)) *ℤ get_or xs j (pos 0))
    (λ j k. rw (first j, odd-walsh n j h))
    ∙ ap (λ (m : ℕ). sum_below m (λ j. sign (walsh n (0 + j)) *ℤ get_or xs j (pos 0))) (sym long)
    ∙ sym (by_index n 0 xs))

-- 64 chips at once: the product of each two bits with x^64 stands in a table.
use Rattle.long_code.proofs.Common.{◌≡◌, ℕ, ◌+◌, ◌*◌, ◌/◌, ◌%◌, ◌^◌, ◌<◌, List, [], map, sym, ap, ◌∙◌, arith, range_with_len, bit_and}
use Rattle.long_code.proofs.Common.{get_or-map-range_with_len, slice_index_or, bit_xor, xor_comm, and_mask, shr-shr, mod-pow-add, pow_pos}
use Rattle.long_code.proofs.Common.{mod-lt, xor_shifted, after}
use Rattle.long_code.proofs.Product.{after-xor}

-- the products of each two bits, by the pairs
abbrev pub products : List (List ℕ)
products = map (λ k. map (λ n. after (n * 2 ^ (2 * k)) 64) (range_with_len 0 4)) (range_with_len 0 21)

entry_is : (k n : ℕ) → k < 21 → n < 4 → slice_index_or (slice_index_or products k []) n 0 ≡ after (n * 2 ^ (2 * k)) 64
entry_is k n h l =
    ap (λ (row : List ℕ). slice_index_or row n 0)
    (get_or-map-range_with_len
    (λ (k : ℕ). map (λ (n : ℕ). after (n * 2 ^ (2 * k)) 64) (range_with_len 0 4)) 0 21 k k [] h (omega arith))
    ∙ get_or-map-range_with_len (λ (n : ℕ). after (n * 2 ^ (2 * k)) 64) 0 4 n n 0 l (omega arith)

-- the bits that are left
pub bits_left : (v k left : ℕ) → left ≡ v / 2 ^ (2 * k) → left / 4 ≡ v / 2 ^ (2 * (k + 1))
bits_left v k left is =
    let place : 2 * k + 2 ≡ 2 * (k + 1) = omega arith in
    ap (λ (n : ℕ). n / 4) is ∙ shr-shr v (2 * k) 2 ∙ ap (λ (e : ℕ). v / 2 ^ e) place

-- The table adds the product of two bits more: its entry is the product of these two bits at their
-- place, and the product of the joined bits is the exclusive or of the parts' products.
pub pair_more : (table : List (List ℕ)) (v k left sum : ℕ) → table ≡ products → k < 21 →
    left ≡ v / 2 ^ (2 * k) → sum ≡ after (v % 2 ^ (2 * k)) 64 →
    bit_xor sum (slice_index_or (slice_index_or table k []) (bit_and left 3) 0) ≡ after (v % 2 ^ (2 * (k + 1))) 64
pair_more table v k left sum all h is sum_is =
    let e = 2 * k in
    let low = v % 2 ^ e in
    let pair = v / 2 ^ e % 4 in
    let read : bit_and left 3 ≡ pair = and_mask left 2 ∙ ap (λ (n : ℕ). n % 4) is in
    let place : 2 + e ≡ 2 * (k + 1) = omega arith in
    let parts : bit_xor (pair * 2 ^ e) low ≡ v % 2 ^ (2 * (k + 1)) =
    xor_shifted pair e low (mod-lt v (pow_pos e)) ∙ sym (mod-pow-add v 2 e)
    ∙ ap (λ (w : ℕ). v % 2 ^ w) place in
    ap (λ (r : List (List ℕ)). bit_xor sum (slice_index_or (slice_index_or r k []) (bit_and left 3) 0))
    all
    ∙ ap (λ (s : ℕ). bit_xor s (slice_index_or (slice_index_or products k []) (bit_and left 3) 0))
    sum_is
    ∙ ap (λ (n : ℕ). bit_xor (after low 64) (slice_index_or (slice_index_or products k []) n 0)) read
    ∙ ap (bit_xor (after low 64)) (entry_is k pair h (omega arith))
    ∙ xor_comm (after low 64) (after (pair * 2 ^ e) 64)
    ∙ sym (after-xor (pair * 2 ^ e) low 64) ∙ ap (λ (s : ℕ). after s 64) parts

-- all bits
pub all_bits : (v k sum : ℕ) → v < 2 ^ 42 → k ≡ 21 → sum ≡ after (v % 2 ^ (2 * k)) 64 → sum ≡ after v 64
all_bits v k sum h all is =
    let width : 2 * k ≡ 42 = omega (arith, all) in
    let whole : v % 2 ^ 42 ≡ v = omega (arith, h) in
    is ∙ ap (λ (w : ℕ). after (v % 2 ^ w) 64) width ∙ ap (λ (s : ℕ). after s 64) whole

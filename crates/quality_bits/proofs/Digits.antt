-- Numbers and their digits: only the low ones, and inversions.
use Rattle.quality_bits.proofs.Common.{◌≡◌, ℕ, zero, suc, ◌+◌, ◌*◌, ◌%◌, ◌^◌, Bool, true, false, not, List, [], ◌∷◌, length, map, replicate}
use Rattle.quality_bits.proofs.Common.{sym, ap, ◌∙◌, arith, number, number_from, binary, binary-low}
use Rattle.chip_core.proofs.Numerals.{binary-number_from}

-- only the low w bits count
pub binary-rest : (w n : ℕ) → binary w (n % 2 ^ w) ≡ binary w n
binary-rest w n = let place : w + 0 ≡ w = omega arith in rw place at (binary-low w 0 n)

pub binary-number : (bs : List Bool) → binary (length bs) (number bs) ≡ bs
binary-number bs = binary-number_from 0 bs

-- bits of one length that spell the same number are the same
pub number_injective : (xs ys : List Bool) → length xs ≡ length ys → number xs ≡ number ys → xs ≡ ys
number_injective xs ys long same =
    sym (binary-number xs) ∙ ap (λ (w : ℕ). binary w (number xs)) long ∙
    ap (binary (length ys)) same ∙ binary-number ys

doubled : (k p : ℕ) → 2 * k * p ≡ k * (2 * p)
doubled k p = omega arith

-- a list and its inversion add up to all ones
number_from-inverted : (m n : ℕ) (bs : List Bool) →
    number_from m (map not bs) + number_from n bs + 1 ≡ (m + n + 1) * 2 ^ length bs
number_from-inverted m n [] = omega arith
number_from-inverted m n (true ∷ bs) =
    let twice : 2 * m + 0 + (2 * n + 1) + 1 ≡ 2 * (m + n + 1) = omega arith in
    let power : 2 * 2 ^ length bs ≡ 2 ^ suc (length bs) = omega arith in
    number_from-inverted (2 * m + 0) (2 * n + 1) bs ∙
    rw twice (doubled (m + n + 1) (2 ^ length bs)) ∙ ap (λ (q : ℕ). (m + n + 1) * q) power
number_from-inverted m n (false ∷ bs) =
    let twice : 2 * m + 1 + (2 * n + 0) + 1 ≡ 2 * (m + n + 1) = omega arith in
    let power : 2 * 2 ^ length bs ≡ 2 ^ suc (length bs) = omega arith in
    number_from-inverted (2 * m + 1) (2 * n + 0) bs ∙
    rw twice (doubled (m + n + 1) (2 ^ length bs)) ∙ ap (λ (q : ℕ). (m + n + 1) * q) power

pub number-inverted : (bs : List Bool) → number (map not bs) + number bs + 1 ≡ 2 ^ length bs
number-inverted bs = number_from-inverted 0 0 bs ∙ omega arith

number_from-ones : (m k : ℕ) → number_from m (replicate k true) + 1 ≡ (m + 1) * 2 ^ k
number_from-ones m zero = omega arith
number_from-ones m (suc k) =
    let twice : 2 * m + 1 + 1 ≡ 2 * (m + 1) = omega arith in
    let power : 2 * 2 ^ k ≡ 2 ^ suc k = omega arith in
    number_from-ones (2 * m + 1) k ∙ rw twice (doubled (m + 1) (2 ^ k)) ∙
    ap (λ (q : ℕ). (m + 1) * q) power

pub number-ones : (k : ℕ) → number (replicate k true) + 1 ≡ 2 ^ k
number-ones k = number_from-ones 0 k ∙ omega arith

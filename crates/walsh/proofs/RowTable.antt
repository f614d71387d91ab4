-- The rows: as counts of set bits, and orthogonal by a table of 4,096 sums.
use Rattle.walsh.proofs.Common.{◌≡◌, ℕ, ◌<◌, Bool, true, false, refl, arith, ℤ, pos, nat_eq, bit_and, int_eq, if◌then◌else◌, ◌==◌, ints}
use Rattle.walsh.proofs.Common.{agree_below, agree_below_at, binary, sum_below, walsh, row_sum}
use Rattle.std.specs.Int.RustNames.{count_ones}
use Rattle.chip_core.proofs.CommonParity.{common_parity-ones}

pub walsh-ones : (n k : ℕ) → n < 64 → nat_eq (bit_and (count_ones (bit_and n k)) 1) 1 ≡ walsh n k
unfolding walsh
walsh-ones n k h = common_parity-ones 6 n k h

abbrev is_right : ℕ → ℕ → Bool
is_right m n = int_eq (row_sum m n) (if m == n then pos 64 else pos 0)

all_right : agree_below (λ m. agree_below (is_right m) (λ n. true) 64) (λ m. true) 64 ≡ true
unfolding row_sum sum_below walsh binary
all_right = refl

int_eq-true : (a b : ℤ) → int_eq a b ≡ true → a ≡ b
int_eq-true a b e = grind (arith, ints, e)

pub orthogonal : (m n : ℕ) → m < 64 → n < 64 → row_sum m n ≡ (if m == n then pos 64 else pos 0)
orthogonal m n p q =
    int_eq-true _ _
    (agree_below_at (is_right m) (λ n. true) 64 n
    (agree_below_at (λ m. agree_below (is_right m) (λ n. true) 64) (λ m. true) 64 m all_right p)
    q)

-- the row of the pilot has no ones
pub walsh-pilot : (k : ℕ) → walsh 0 k ≡ false
unfolding walsh binary
walsh-pilot k = refl

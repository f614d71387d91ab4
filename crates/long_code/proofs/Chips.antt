-- Chips under a mask.
use Rattle.long_code.proofs.Common.{◌≡◌, ℕ, ◌+◌, ◌^◌, ◌<◌, sym, ap, ◌∙◌, nat_eq, bit_and, count_ones, binary, common_parity, after}
use Rattle.long_code.proofs.Common.{common_parity-ones, long_chip}
use Rattle.long_code.proofs.After.{after-after, after_none}

-- the code's chip
pub chip_is : (state mask : ℕ) → state < 2 ^ 42 → mask < 2 ^ 42 →
    nat_eq (bit_and (count_ones (bit_and mask state)) 1) 1 ≡ long_chip state mask 0
unfolding long_chip
chip_is state mask p q =
    common_parity-ones 42 mask state q ∙
    ap (λ (s : ℕ). common_parity (binary 42 mask) (binary 42 s)) (sym (after_none state p))

-- a chip of a later state is a later chip
pub long_chip-after : (state mask m n : ℕ) → long_chip (after state m) mask n ≡ long_chip state mask (m + n)
unfolding long_chip
long_chip-after state mask m n = ap (λ (s : ℕ). common_parity (binary 42 mask) (binary 42 s)) (after-after state m n)

-- The greatest metric, and metrics that it is taken off.
use Rattle.viterbi.proofs.Common.{◌≡◌, ℕ, ◌+◌, ◌^◌, ◌<◌, ◌≤◌, List, length, get_or, arith, ℤ, pos, ◌+ℤ◌, ◌-ℤ◌, ◌≤ℤ◌, unsigned_abs, ints}
use Rattle.viterbi.proofs.Common.{IsGreatest}

-- with what was taken off before, it is a score like the others
pub top_size : (xs : List ℤ) (top taken : ℤ) (bound : ℕ) → length xs ≡ 256 → IsGreatest xs top →
    ((t : ℕ) → t < 256 → unsigned_abs (get_or xs t (pos 0) +ℤ taken) ≤ bound) → unsigned_abs (top +ℤ taken) ≤ bound
top_size xs top taken bound whole h small =
    between (get_or xs 0 (pos 0)) (small 0 (omega arith)) (h.most 0 (omega (arith, whole)))
    (h.least (pos bound -ℤ taken)
    (λ t b. below (get_or xs t (pos 0)) (small t (omega (arith, b, whole))))) where
      below : (x : ℤ) → unsigned_abs (x +ℤ taken) ≤ bound → x ≤ℤ (pos bound -ℤ taken)
      below x p = omega (arith, ints, p)

      between : (x : ℤ) → unsigned_abs (x +ℤ taken) ≤ bound → x ≤ℤ top →
          top ≤ℤ (pos bound -ℤ taken) → unsigned_abs (top +ℤ taken) ≤ bound
      between x p low high = omega (arith, ints, p, low, high)

sum_turned : (x y : ℤ) → x +ℤ y ≡ y +ℤ x
sum_turned x y = omega (arith, ints)

pub taken_size : (xs : List ℤ) (top taken : ℤ) (bound : ℕ) → length xs ≡ 256 → IsGreatest xs top →
    ((t : ℕ) → t < 256 → unsigned_abs (get_or xs t (pos 0) +ℤ taken) ≤ bound) → unsigned_abs (taken +ℤ top) ≤ bound
taken_size xs top taken bound whole h small = rw (sum_turned taken top) (top_size xs top taken bound whole h small)

-- and near enough to the greatest
pub tops_near : (xs : List ℤ) (top taken : ℤ) (bound more t : ℕ) → length xs ≡ 256 →
    IsGreatest xs top → bound + more ≤ 2 ^ 62 →
    ((t : ℕ) → t < 256 → unsigned_abs (get_or xs t (pos 0) +ℤ taken) ≤ bound) → t < 256 →
    unsigned_abs (top -ℤ get_or xs t (pos 0)) + more ≤ 2 ^ 63
tops_near xs top taken bound more t whole h few small b =
    apart (get_or xs t (pos 0)) (small t b) (top_size xs top taken bound whole h small) where
      apart : (x : ℤ) → unsigned_abs (x +ℤ taken) ≤ bound → unsigned_abs (top +ℤ taken) ≤ bound →
          unsigned_abs (top -ℤ x) + more ≤ 2 ^ 63
      apart x p q = omega (arith, ints, p, q, few)

-- of a column of zeros
pub zero_greatest : (xs : List ℤ) → length xs ≡ 256 →
    ((t : ℕ) → t < 256 → get_or xs t (pos 0) ≡ pos 0) → IsGreatest xs (pos 0)
zero_greatest xs whole zeros = record {
  most = λ t b. rw (zeros t (omega (arith, b, whole))) (omega (arith, ints));
  least = λ bound all. rw (zeros 0 (omega arith)) at (all 0 (omega (arith, whole)));
}

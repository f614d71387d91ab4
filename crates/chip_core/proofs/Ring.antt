-- Identities of signed numbers: each number as a difference of two naturals, and the rest by linear
-- arithmetic.
use Rattle.chip_core.proofs.Common.{◌≡◌, ℕ, ◌+◌, ◌*◌, arith, ℤ, ap, pos, negsuc, ◌+ℤ◌, ◌*ℤ◌, neg_ℤ, ints}
use borrow.Author.Differences.{up, down}

unfoldable pub diff : ℕ → ℕ → ℤ
diff p q = pos p +ℤ neg_ℤ (pos q)

pub split : (z : ℤ) → z ≡ diff (up z) (down z)
unfolding diff
split (pos n) = omega (arith, ints)
split (negsuc n) = omega (arith, ints)

pub diff-plus : (p q r s : ℕ) → diff p q +ℤ diff r s ≡ diff (p + r) (q + s)
unfolding diff
diff-plus p q r s = omega (arith, ints)

pub diff-neg : (p q : ℕ) → neg_ℤ (diff p q) ≡ diff q p
unfolding diff
diff-neg p q = omega (arith, ints)

-- what omega knows of a difference
diff_is : (p q : ℕ) → up (diff p q) + q ≡ p + down (diff p q)
unfolding diff
diff_is p q = omega (arith, ints)

-- The product of two differences is a difference again, multiplied out term by term: either
-- difference is its positive part less its negative one, and the equations for both are scaled by
-- what the other has.
pub diff-times : (p q r s : ℕ) → diff p q *ℤ diff r s ≡ diff (p * r + q * s) (p * s + q * r)
diff-times p q r s =
    let x = diff p q in
    let y = diff r s in
    let a = diff_is p q in
    let b = diff_is r s in
    let c = diff_is (p * r + q * s) (p * s + q * r) in
    omega (
      arith,
      ints,
      c,
      ap (λ (n : ℕ). n * up y) a,
      ap (λ (n : ℕ). n * down y) a,
      ap (λ (n : ℕ). p * n) b,
      ap (λ (n : ℕ). q * n) b,
    )

pub diff-same : (p q r s : ℕ) → p + s ≡ r + q → diff p q ≡ diff r s
unfolding diff
diff-same p q r s e = omega (arith, ints)

pub distrib : (a b c : ℤ) → a *ℤ (b +ℤ c) ≡ (a *ℤ b) +ℤ (a *ℤ c)
distrib a b c = rw (split a, split b, split c) (simp (diff-times, diff-plus) (diff-same _ _ _ _ (omega arith)))

pub mul_assoc_ℤ : (a b c : ℤ) → (a *ℤ b) *ℤ c ≡ a *ℤ (b *ℤ c)
mul_assoc_ℤ a b c = rw (split a, split b, split c) (simp diff-times (diff-same _ _ _ _ (omega arith)))

pub distrib_right : (a b c : ℤ) → (a +ℤ b) *ℤ c ≡ (a *ℤ c) +ℤ (b *ℤ c)
distrib_right a b c = rw (split a, split b, split c) (simp (diff-times, diff-plus) (diff-same _ _ _ _ (omega arith)))

pub swap_products : (a b c d : ℤ) → (a *ℤ b) *ℤ (c *ℤ d) ≡ (a *ℤ c) *ℤ (b *ℤ d)
swap_products a b c d = rw (split a, split b, split c, split d) (simp diff-times (diff-same _ _ _ _ (omega arith)))

pub times_neg : (a b : ℤ) → a *ℤ neg_ℤ b ≡ neg_ℤ (a *ℤ b)
times_neg a b = rw (split a, split b) (simp (diff-times, diff-neg) (diff-same _ _ _ _ (omega arith)))

pub neg_times : (a b : ℤ) → neg_ℤ a *ℤ b ≡ neg_ℤ (a *ℤ b)
neg_times a b = rw (split a, split b) (simp (diff-times, diff-neg) (diff-same _ _ _ _ (omega arith)))

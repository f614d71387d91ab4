-- The codewords that start from eight zeros and end with eight zeros, and the best of them.
use Rattle.frame_decoder.proofs.Common.{◌≡◌, ℕ, ◌-◌, ◌≤◌, length, ap, subst, ℤ, ◌≤ℤ◌, pow_pos, first_greatest, IsFirstGreatest, Codeword}
use Rattle.frame_decoder.proofs.Common.{first_greatest-is, codeword_count, codeword_at, best_codeword, IsAllowed, Zero, allowed_at}
use Rattle.frame_decoder.proofs.Common.{codeword_at_allowed}
use Rattle.frame_decoder.proofs.BestCodewords.{first_greatest-same}

-- each codeword of the definition is allowed
length-zero_codeword : (n r : ℕ) → 8 ≤ n → length (codeword_at Zero n r).bits ≡ n
length-zero_codeword n r least = (codeword_at_allowed Zero n r least).bits_long

pub length-best_zero_codeword : (f : Codeword → ℤ) (n : ℕ) → 8 ≤ n → length (best_codeword f Zero n).bits ≡ n
unfolding best_codeword
length-best_zero_codeword f n least = length-zero_codeword n _ least

-- scores that agree on the codewords of n bits have the same best codeword of n bits
pub best_zero_codeword-same : (f g : Codeword → ℤ) (n : ℕ) → 8 ≤ n → ((w : Codeword) → length w.bits ≡ n → f w ≡ g w) →
    best_codeword f Zero n ≡ best_codeword g Zero n
unfolding best_codeword
best_zero_codeword-same f g n least h =
    ap (codeword_at Zero n)
    (first_greatest-same (λ r. f (codeword_at Zero n r)) (λ r. g (codeword_at Zero n r)) (codeword_count Zero n)
    (λ r. h (codeword_at Zero n r) (length-zero_codeword n r least)))

-- the best codeword is allowed
pub best_zero_codeword_allowed : (f : Codeword → ℤ) (n : ℕ) → 8 ≤ n → IsAllowed Zero n (best_codeword f Zero n)
unfolding best_codeword
best_zero_codeword_allowed f n least = codeword_at_allowed Zero n _ least

-- No allowed codeword has a greater score than the best one: it has a number among all of them, and
-- the best one's number has the greatest score.
pub best_zero_codeword_greatest : (f : Codeword → ℤ) (n : ℕ) (w : Codeword) → 8 ≤ n → IsAllowed Zero n w →
    f w ≤ℤ f (best_codeword f Zero n)
unfolding best_codeword
best_zero_codeword_greatest f n w least h =
    let g : ℕ → ℤ = λ r. f (codeword_at Zero n r) in
    let best = first_greatest g (codeword_count Zero n) in
    let here = allowed_at Zero n w least h in
    let greatest : IsFirstGreatest g (codeword_count Zero n) best =
    first_greatest-is g (codeword_count Zero n) (pow_pos (n - 8)) in
    subst (λ (v : Codeword). f v ≤ℤ g best) here.is (greatest.greatest here.number here.below)

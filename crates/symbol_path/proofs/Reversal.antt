-- Numbers with their bits in reverse.
use Rattle.symbol_path.proofs.Common.{◌≡◌, ℕ, suc, ◌+◌, ◌-◌, ◌*◌, ◌/◌, ◌%◌, ◌<◌, [], ◌∷◌, reverse, sym, ap, ◌∙◌, arith, nat_eq, digit_again}
use Rattle.symbol_path.proofs.Common.{reverse-append, number_from, binary, reversed}

-- the lowest bit goes first
reversed_first : (t w n : ℕ) → number_from t (reverse (binary (suc w) n)) ≡
    number_from (2 * t + n % 2) (reverse (binary w (n / 2)))
unfolding binary
reversed_first t w n =
    ap (number_from t) (reverse-append (binary w (n / 2)) (nat_eq (n % 2) 1 ∷ []))
    ∙ ap (λ (d : ℕ). number_from (2 * t + d) (reverse (binary w (n / 2)))) (digit_again (n % 2) (omega arith))

-- one turn of the loop
pub reversed_more : (width k turned rest number : ℕ) → k < width →
    number_from turned (reverse (binary (width - k) rest)) ≡ reversed width number →
    number_from (2 * turned + rest % 2) (reverse (binary (width - (k + 1)) (rest / 2))) ≡ reversed width number
reversed_more width k turned rest number h is =
    let place : width - k ≡ suc (width - (k + 1)) = omega (arith, h) in
    sym (reversed_first turned (width - (k + 1)) rest) ∙
    ap (λ (w : ℕ). number_from turned (reverse (binary w rest))) (sym place) ∙ is

pub reversed_all : (width k turned rest number : ℕ) → width - k ≡ 0 →
    number_from turned (reverse (binary (width - k) rest)) ≡ reversed width number → turned ≡ reversed width number
unfolding binary
reversed_all width k turned rest number none is = rw none at is

-- Lemmas on the digits of a text: what each step of a loop over it reads.
use Rattle.chip_core.proofs.Common.{◌≡◌, ℕ, ◌+◌, ◌*◌, ◌-◌, ◌^◌, ◌<◌, ◌≤◌, true, false, List, [], ◌∷◌, length, get_or, drop, refl, sym, ap}
use Rattle.chip_core.proofs.Common.{◌∙◌, arith, None, Some, cond-true, cond-false, at_drop_more, drop_all, digits_from}
use Rattle.std.proofs.Math.Nat.{pow-le-pow_right, pow-suc}
use Rattle.std.specs.Char.{is_ascii_digit}

digits_from-digit : (number digit : ℕ) (digits : List ℕ) → is_ascii_digit digit ≡ true →
    digits_from number (digit ∷ digits) ≡ digits_from (10 * number + (digit - 48)) digits
unfolding digits_from
digits_from-digit number digit digits is = cond-true _ _ _ is

digits_from-other : (number digit : ℕ) (digits : List ℕ) → is_ascii_digit digit ≡ false →
    digits_from number (digit ∷ digits) ≡ None
unfolding digits_from
digits_from-other number digit digits is = cond-false _ _ _ is

digits_from-none : (number : ℕ) → digits_from number [] ≡ Some number
unfolding digits_from
digits_from-none number = refl

-- one more digit of a text is read
pub digit_read : (text : List ℕ) (whole number k next : ℕ) → k < length text → is_ascii_digit (get_or text k 0) ≡ true →
    digits_from whole text ≡ digits_from number (drop k text) → next ≡ 10 * number + (get_or text k 0 - 48) →
    digits_from whole text ≡ digits_from next (drop (k + 1) text)
digit_read text whole number k next inside is before next_is =
    before
    ∙ at_drop_more (digits_from number) text k 0 inside
    ∙ digits_from-digit number (get_or text k 0) (drop (k + 1) text) is
    ∙ ap (λ (n : ℕ). digits_from n (drop (k + 1) text)) (sym next_is)

-- the next byte is none
pub digit_missing : (text : List ℕ) (whole number k : ℕ) → k < length text → is_ascii_digit (get_or text k 0) ≡ false →
    digits_from whole text ≡ digits_from number (drop k text) → None ≡ digits_from whole text
digit_missing text whole number k inside is before =
    sym (before ∙ at_drop_more (digits_from number) text k 0 inside ∙ digits_from-other number (get_or text k 0) (drop (k + 1) text) is)

-- all were read
pub digits_read : (text : List ℕ) (whole number k : ℕ) → length text ≤ k →
    digits_from whole text ≡ digits_from number (drop k text) → Some number ≡ digits_from whole text
digits_read text whole number k past before =
    sym (before ∙ ap (digits_from number) (drop_all k text past) ∙ digits_from-none number)

-- a number of few digits is below the power of ten
pub few_digits : (number k : ℕ) → number < 10 ^ k → k ≤ 20 → number < 10 ^ 20
few_digits number k below few = let most : 10 ^ k ≤ 10 ^ 20 = pow-le-pow_right (omega arith) few in omega (arith, below, most)

pub digit_more : (number next k : ℕ) → number < 10 ^ k → next ≤ 10 * number + 9 → next < 10 ^ (k + 1)
digit_more number next k below small =
    let more : 10 ^ (k + 1) ≡ 10 ^ k * 10 = ap (λ (n : ℕ). 10 ^ n) (omega arith) ∙ pow-suc 10 k in
    omega (arith, below, small, more)

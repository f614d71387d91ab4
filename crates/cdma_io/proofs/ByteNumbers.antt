-- Lists of bytes and the numbers that they spell, the highest byte first.
use Rattle.cdma_io.proofs.Common.{◌≡◌, ℕ, zero, suc, ◌+◌, ◌*◌, ◌/◌, ◌%◌, ◌^◌, ◌<◌, ◌≤◌, List, [], ◌∷◌, ◌++◌, length, get_or, take, drop, ap}
use Rattle.cdma_io.proofs.Common.{refl, sym, ◌∙◌, arith, inl, inr, All, take-append-drop, get_or-take, get_or-drop, get_or_past, All-get_or}
use Rattle.cdma_io.proofs.Common.{length-take, length-take-le, byte_at, bytes_high_first, big_bytes, big_from, big_number, big_from-append}
use Rattle.cdma_io.proofs.Common.{big_from-cons, big_from-lt}
use Rattle.std.proofs.lemmas.Bool.{cases_lt}
use Rattle.std.proofs.Math.Nat.{div-one, one-le-pow, mul-add-div_right, mul-add-mod_self_right, mod-eq_of_lt}
use Rattle.std.proofs.lemmas.Nat.{pow-add, div-mul-add}

-- each is below 256
abbrev pub AreBytes : List ℕ → Type 0
AreBytes xs = (k : ℕ) → get_or xs k 0 < 256

-- a byte of a number, by its place
byte_at-pow : (k n : ℕ) → byte_at k n ≡ n / 256 ^ k % 256
byte_at-pow zero n = ap (λ (y : ℕ). y % 256) (sym (div-one n))
byte_at-pow (suc k) n = refl

pow_positive : (n : ℕ) → 0 < 256 ^ n
pow_positive n = let h = one-le-pow n 256 (omega arith) in omega arith

-- what stands above a byte doesn't show in it
byte_at-above : (j d k a r : ℕ) → k ≡ d + 1 + j → byte_at j (a * 256 ^ k + r) ≡ byte_at j r
byte_at-above j d k a r e =
    let split : 256 ^ k ≡ 256 ^ d * 256 * 256 ^ j =
    ap (λ (n : ℕ). 256 ^ n) e ∙ pow-add 256 (d + 1) j ∙
    ap (λ (p : ℕ). p * 256 ^ j) (pow-add 256 d 1) in
    let regroup : a * (256 ^ d * 256 * 256 ^ j) ≡ a * 256 ^ d * 256 * 256 ^ j = grind arith in
    let whole : a * 256 ^ k ≡ a * 256 ^ d * 256 * 256 ^ j = ap (λ (p : ℕ). a * p) split ∙ regroup in
    let quotient : (a * 256 ^ d * 256 * 256 ^ j + r) / 256 ^ j ≡ a * 256 ^ d * 256 + r / 256 ^ j =
    mul-add-div_right (pow_positive j) (a * 256 ^ d * 256) r in
    byte_at-pow j (a * 256 ^ k + r)
    ∙ ap (λ (n : ℕ). (n + r) / 256 ^ j % 256) whole
    ∙ ap (λ (n : ℕ). n % 256) quotient
    ∙ mul-add-mod_self_right (a * 256 ^ d) 256 (r / 256 ^ j)
    ∙ sym (byte_at-pow j r)

-- and so not in several
bytes-above : (n d k a r : ℕ) → k ≡ d + n → bytes_high_first n (a * 256 ^ k + r) ≡ bytes_high_first n r
bytes-above zero d k a r e = refl
bytes-above (suc n) d k a r e =
    rw (byte_at-above n d k a r (omega arith), bytes-above n (d + 1) k a r (omega arith)) refl

-- the bytes of the number that n bytes spell
pub big_bytes-number : (n : ℕ) (xs : List ℕ) → length xs ≡ n → AreBytes xs → big_bytes n (big_number n xs) ≡ xs
big_bytes-number zero [] long small = refl
big_bytes-number zero (x ∷ xs) long small = absurd (omega (arith, long))
big_bytes-number (suc n) [] long small = absurd (omega (arith, long))
big_bytes-number (suc n) (x ∷ xs) long small =
    let rest : AreBytes xs = λ k. small (suc k) in
    let r = big_from 0 n xs in
    let below : r < 256 ^ n = big_from-lt 0 n xs rest in
    let front : x < 256 = small 0 in
    let number : big_number (suc n) (x ∷ xs) ≡ x * 256 ^ n + r =
    ap (λ (m : ℕ). x * 256 ^ n + m) (big_from-cons 0 n x xs) in
    let first : byte_at n (x * 256 ^ n + r) ≡ x =
    byte_at-pow n (x * 256 ^ n + r) ∙ ap (λ (m : ℕ). m % 256) (div-mul-add x (256 ^ n) r below) ∙
    mod-eq_of_lt front in
    let others : bytes_high_first n (x * 256 ^ n + r) ≡ xs =
    bytes-above n 0 n x r (omega arith) ∙ big_bytes-number n xs (omega (arith, long)) rest in
    ap (big_bytes (suc n)) number ∙ rw (first, others) refl

pub AreBytes-take : (n : ℕ) (xs : List ℕ) → AreBytes xs → AreBytes (take n xs)
AreBytes-take n xs small k =
    elim (cases_lt k n) [
      | inl below ↦ rw (get_or-take n xs k 0 below) (small k)
      | inr past ↦
          let long : length (take n xs) ≤ k = omega (arith, length-take n xs) in
          let none : get_or (take n xs) k 0 ≡ 0 = get_or_past (take n xs) k 0 long in
          omega (arith, none)
    ]

pub AreBytes-drop : (n : ℕ) (xs : List ℕ) → AreBytes xs → AreBytes (drop n xs)
AreBytes-drop n xs small k = rw (get_or-drop n xs k 0) (small (n + k))

-- from the word on each element
pub AreBytes-from_all : (xs : List ℕ) → All (λ (b : ℕ). b < 256) xs → AreBytes xs
AreBytes-from_all xs all k =
    elim (cases_lt k (length xs)) [
      | inl below ↦ All-get_or (λ (b : ℕ). b < 256) xs k 0 below all
      | inr past ↦ let none : get_or xs k 0 ≡ 0 = get_or_past xs k 0 past in omega (arith, none)
    ]

-- a number that is read ends with its bytes
pub big_number-take : (n : ℕ) (xs : List ℕ) → n ≤ length xs → big_number n xs ≡ big_number n (take n xs)
big_number-take n xs room =
    let long : n ≤ length (take n xs) = omega (arith, length-take-le n xs room) in
    ap (big_number n) (sym (take-append-drop n xs)) ∙ big_from-append n (take n xs) (drop n xs) long

-- n bytes at the front of a list are those of the number that they spell
pub big_bytes-front : (n : ℕ) (xs : List ℕ) → n ≤ length xs → AreBytes xs →
    xs ≡ big_bytes n (big_number n xs) ++ drop n xs
big_bytes-front n xs room small =
    let front : big_bytes n (big_number n xs) ≡ take n xs =
    ap (big_bytes n) (big_number-take n xs room) ∙
    big_bytes-number n (take n xs) (length-take-le n xs room) (AreBytes-take n xs small) in
    sym (ap (λ (ys : List ℕ). ys ++ drop n xs) front ∙ take-append-drop n xs)

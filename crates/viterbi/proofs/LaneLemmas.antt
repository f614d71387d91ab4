-- Lanes of 64 bits.
use Rattle.viterbi.proofs.Common.{◌≡◌, ℕ, zero, suc, ◌+◌, ◌-◌, ◌%◌, ◌^◌, ◌<◌, Bool, true, false, cond, List, [], ◌∷◌, map, length, get_or}
use Rattle.viterbi.proofs.Common.{replicate, refl, sym, ap, ◌∙◌, arith, ℤ, ◌+ℤ◌, ◌-ℤ◌, to_z, of_z, FitsSigned, w64, int_lt, nat_eq, Each1}
use Rattle.viterbi.proofs.Common.{Fits-of_z, to_z-of_z, int_wrap_fits, wrapping_add-bits, wrapping_sub-bits, int_wrap, tops_compared, Each2}
use Rattle.viterbi.proofs.Common.{mask_l-mod, bit_mask_l, length-zip2, zip2, sel_l, mask_l, top, bits, hbits, bit_of, Fit, taken_of}

in_lane : (x : ℤ) → FitsSigned w64 x → of_z w64 x < 2 ^ 64
in_lane x h = (Fits-of_z {w = w64} {z = x} h).fits

sum_lane : (x y : ℤ) → Fit x y (x +ℤ y) → to_z w64 ((of_z w64 x + of_z w64 y) % 18446744073709551616) ≡ x +ℤ y
sum_lane x y h =
    wrapping_add-bits w64 (of_z w64 x) (of_z w64 y) (in_lane x h.0) (in_lane y h.1.0)
    ∙ ap (int_wrap w64) (rw (to_z-of_z w64 x h.0, to_z-of_z w64 y h.1.0) refl)
    ∙ int_wrap_fits w64 (x +ℤ y) h.1.1

difference_lane : (x y : ℤ) → Fit x y (x -ℤ y) →
    to_z w64 ((of_z w64 x + (18446744073709551616 - of_z w64 y)) % 18446744073709551616) ≡ x -ℤ y
difference_lane x y h =
    wrapping_sub-bits w64 (of_z w64 x) (of_z w64 y) (in_lane x h.0) (in_lane y h.1.0)
    ∙ ap (int_wrap w64) (rw (to_z-of_z w64 x h.0, to_z-of_z w64 y h.1.0) refl)
    ∙ int_wrap_fits w64 (x -ℤ y) h.1.1

pub added_lanes : (xs ys : List ℤ) → Each2 (λ x y. Fit x y (x +ℤ y)) xs ys → map (to_z w64)
    (zip2 (λ a b. (a + b) % 18446744073709551616) (map (of_z w64) xs) (map (of_z w64) ys)) ≡ zip2 (λ a b. a +ℤ b) xs ys
added_lanes [] ys h = refl
added_lanes (x ∷ xs) [] h = refl
added_lanes (x ∷ xs) (y ∷ ys) h = λ i. sum_lane x y h.0 i ∷ added_lanes xs ys h.1 i

pub taken_lanes : (xs ys : List ℤ) → Each2 (λ x y. Fit x y (x -ℤ y)) xs ys → map (to_z w64)
    (zip2 (λ a b. (a + (18446744073709551616 - b)) % 18446744073709551616) (map (of_z w64) xs)
    (map (of_z w64) ys))
    ≡ zip2 (λ a b. a -ℤ b) xs ys
taken_lanes [] ys h = refl
taken_lanes (x ∷ xs) [] h = refl
taken_lanes (x ∷ xs) (y ∷ ys) h = λ i. difference_lane x y h.0 i ∷ taken_lanes xs ys h.1 i

pub lessened_lanes : (n : ℕ) (xs : List ℤ) (y : ℤ) → length xs ≡ n → Each1 (λ x. Fit x y (x -ℤ y)) xs → map (to_z w64)
    (zip2 (λ a b. (a + (18446744073709551616 - b)) % 18446744073709551616) (map (of_z w64) xs)
    (replicate n (of_z w64 y)))
    ≡ map (λ x. x -ℤ y) xs
lessened_lanes zero [] y e h = refl
lessened_lanes (suc n) [] y e h = absurd (omega (arith, e))
lessened_lanes zero (x ∷ xs) y e h = absurd (omega (arith, e))
lessened_lanes (suc n) (x ∷ xs) y e h = λ i. difference_lane x y h.0 i ∷ lessened_lanes n xs y (omega (arith, e)) h.1 i

-- comparisons
abbrev pub less_bits : ℕ → ℕ → Bool
less_bits a b = int_lt (to_z w64 a) (to_z w64 b)

pub less_lanes : (xs ys : List ℤ) → Each1 (λ x. FitsSigned w64 x) xs → Each1 (λ x. FitsSigned w64 x) ys →
    zip2 less_bits (map (of_z w64) xs) (map (of_z w64) ys) ≡ zip2 int_lt xs ys
less_lanes [] ys p q = refl
less_lanes (x ∷ xs) [] p q = refl
less_lanes (x ∷ xs) (y ∷ ys) p q =
    let here : less_bits (of_z w64 x) (of_z w64 y) ≡ int_lt x y = rw (to_z-of_z w64 x p.0, to_z-of_z w64 y q.0) refl in
    λ i. here i ∷ less_lanes xs ys p.1 q.1 i

pub chosen_lane : (t : Bool) (x y : ℤ) → FitsSigned w64 x → FitsSigned w64 y →
    to_z w64 (cond t (of_z w64 y) (of_z w64 x)) ≡ taken_of t x y
chosen_lane true x y p q = to_z-of_z w64 y q
chosen_lane false x y p q = to_z-of_z w64 x p

chosen_lanes : (xs ys : List ℤ) → Each1 (λ x. FitsSigned w64 x) xs → Each1 (λ x. FitsSigned w64 x) ys →
    map (to_z w64) (sel_l (zip2 int_lt xs ys) (map (of_z w64) ys) (map (of_z w64) xs))
    ≡ zip2 (λ a b. taken_of (int_lt a b) a b) xs ys
chosen_lanes [] ys p q = refl
chosen_lanes (x ∷ xs) [] p q = refl
chosen_lanes (x ∷ xs) (y ∷ ys) p q = λ i. chosen_lane (int_lt x y) x y p.0 q.0 i ∷ chosen_lanes xs
    ys p.1 q.1 i

abbrev pub mask_of : List ℤ → List ℤ → List Bool
mask_of xs ys =
    map (top (hbits w64))
    (zip2 (λ a b. cond (less_bits a b) (2 ^ bits w64 - 1) 0) (map (of_z w64) xs) (map (of_z w64) ys))

mask_is : (xs ys : List ℤ) → Each1 (λ x. FitsSigned w64 x) xs → Each1 (λ x. FitsSigned w64 x) ys →
    mask_of xs ys ≡ zip2 int_lt xs ys
mask_is xs ys p q =
    tops_compared w64 less_bits (map (of_z w64) xs) (map (of_z w64) ys)
    ∙ less_lanes xs ys p q

pub selected_metrics : (xs ys : List ℤ) → Each1 (λ x. FitsSigned w64 x) xs → Each1 (λ x. FitsSigned w64 x) ys →
    map (to_z w64) (sel_l (mask_of xs ys) (map (of_z w64) ys) (map (of_z w64) xs))
    ≡ zip2 (λ a b. taken_of (int_lt a b) a b) xs ys
selected_metrics xs ys p q =
    ap (λ (ms : List Bool). map (to_z w64) (sel_l ms (map (of_z w64) ys) (map (of_z w64) xs)))
    (mask_is xs ys p q) ∙ chosen_lanes xs ys p q

digit_test : (t : Bool) → nat_eq (cond t 1 0) 1 ≡ t
digit_test true = refl
digit_test false = refl

pub selected_bits : (xs ys : List ℤ) → length xs ≡ 8 → length ys ≡ 8 →
    Each1 (λ x. FitsSigned w64 x) xs → Each1 (λ x. FitsSigned w64 x) ys → (l : ℕ) →
    bit_of (mask_l (mask_of xs ys) % 18446744073709551616) l ≡ get_or (zip2 int_lt xs ys) l false
selected_bits xs ys m n p q l =
    let ms = zip2 int_lt xs ys in
    let long : length ms ≡ 8 = length-zip2 int_lt xs ys (m ∙ sym n) ∙ m in
    ap (λ (bs : List Bool). bit_of (mask_l bs % 18446744073709551616) l) (mask_is xs ys p q)
    ∙ ap (λ (k : ℕ). bit_of k l) (mask_l-mod ms 64 (omega (arith, long)))
    ∙ ap (λ (k : ℕ). nat_eq k 1) (bit_mask_l ms l)
    ∙ digit_test (get_or ms l false)

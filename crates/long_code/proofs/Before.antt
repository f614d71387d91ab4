-- A division by x undoes a step.
use Rattle.long_code.proofs.Common.{◌≡◌, ℕ, zero, suc, ◌^◌, ◌<◌, Bool, true, false, List, [], ◌∷◌, ◌++◌, length, reverse, refl, sym, ap}
use Rattle.long_code.proofs.Common.{◌∙◌, arith, length-append, reverse-append, reverse-reverse, length-reverse, xor, number, binary, places}
use Rattle.long_code.proofs.Common.{add, length_add, zip_push, binary-number_from, below, above, after, before, length-binary, number_lt}
use Rattle.long_code.proofs.Common.{number-binary}
use Rattle.long_code.proofs.Division.{shifted, times_x, length_shifted, length_times_x, remainder-zeros, shifted-times_x}
use Rattle.long_code.proofs.After.{after_is}

add_twice : (a b : List Bool) → length a ≡ length b → add (add a b) b ≡ a
add_twice [] b h = refl
add_twice (x ∷ a) [] h = absurd (omega (arith, h))
add_twice (x ∷ a) (y ∷ b) h = let head = xor_twice x y in
    let tail = add_twice a b (omega (arith, h)) in cc
  where
    xor_twice : (x y : Bool) → xor (xor x y) y ≡ x
    xor_twice true true = refl
    xor_twice true false = refl
    xor_twice false true = refl
    xor_twice false false = refl

reverse-cons : (x : Bool) (a : List Bool) → reverse (x ∷ a) ≡ reverse a ++ x ∷ []
reverse-cons x a = reverse-append (x ∷ []) a

reverse-add : (a b : List Bool) → length a ≡ length b → reverse (add a b) ≡ add (reverse a) (reverse b)
reverse-add [] [] h = refl
reverse-add [] (y ∷ b) h = absurd (omega (arith, h))
reverse-add (x ∷ a) [] h = absurd (omega (arith, h))
reverse-add (x ∷ a) (y ∷ b) h =
    let same : length a ≡ length b = omega (arith, h) in
    let long : length (reverse a) ≡ length (reverse b) = length-reverse a ∙ same ∙
    sym (length-reverse b) in
    reverse-cons (xor x y) (add a b) ∙
    ap (λ (r : List Bool). r ++ xor x y ∷ []) (reverse-add a b same)
    ∙ sym (zip_push xor (reverse a) (reverse b) x y long)
    ∙ ap (λ (r : List Bool). add r (reverse b ++ y ∷ [])) (sym (reverse-cons x a))
    ∙ ap (add (reverse (x ∷ a))) (sym (reverse-cons y b))

-- One division by x, and a step after it. The polynomial is x^k, these coefficients, and 1.
step_back : (front : List Bool) (lead : Bool) (rest : List Bool) → length rest ≡ length front →
    shifted (front ++ true ∷ []) (reverse (shifted (reverse (true ∷ front)) (lead ∷ rest))) ≡ reverse (lead ∷ rest)
step_back front true rest h =
    let long : length (rest ++ false ∷ []) ≡ length (reverse (true ∷ front)) =
    length-append rest (false ∷ []) ∙ omega (arith, h, length-reverse (true ∷ front)) in
    let same : length (reverse rest) ≡ length front = length-reverse rest ∙ h in
    let turned : reverse (shifted (reverse (true ∷ front)) (true ∷ rest)) ≡
    true ∷ add (reverse rest) front =
    reverse-add (rest ++ false ∷ []) (reverse (true ∷ front)) long
    ∙ ap (λ (r : List Bool). add r (reverse (reverse (true ∷ front)))) (reverse-append rest (false ∷ []))
    ∙ ap (λ (r : List Bool). add (false ∷ reverse rest) r) (reverse-reverse (true ∷ front)) in
    ap (shifted (front ++ true ∷ [])) turned
    ∙ zip_push xor (add (reverse rest) front) front false true (length_add (reverse rest) front same ∙ same)
    ∙ ap (λ (r : List Bool). r ++ true ∷ []) (add_twice (reverse rest) front same)
    ∙ sym (reverse-cons true rest)
step_back front false rest h =
    ap (shifted (front ++ true ∷ [])) (reverse-append rest (false ∷ []))
    ∙ sym (reverse-cons false rest)

-- A division by x n times undoes n steps of the register, by induction over n: the last step is
-- undone first, as one division takes one step back.
steps_back : (n : ℕ) (front s : List Bool) → length s ≡ suc (length front) →
    times_x n (front ++ true ∷ []) (reverse (times_x n (reverse (true ∷ front)) s)) ≡ reverse s
steps_back zero front s h = refl
steps_back (suc n) front [] h = absurd (omega (arith, h))
steps_back (suc n) front (lead ∷ rest) h =
    let up = front ++ true ∷ [] in
    let down = reverse (true ∷ front) in
    let turn : length (lead ∷ rest) ≡ length down = h ∙ sym (length-reverse (true ∷ front)) in
    let long : length (shifted down (lead ∷ rest)) ≡ suc (length front) = length_shifted down (lead ∷ rest) turn ∙ h in
    sym (shifted-times_x n up (reverse (times_x n down (shifted down (lead ∷ rest)))))
    ∙ ap (shifted up) (steps_back n front (shifted down (lead ∷ rest)) long)
    ∙ step_back front lead rest (omega (arith, h))

-- the long code's coefficients between x^42 and 1
abbrev front : List Bool
front = binary 41 22669656695

below_is : below ≡ front ++ true ∷ []
unfolding binary places
below_is = refl

above_is : above ≡ reverse (true ∷ front)
unfolding binary places
above_is = refl

length-above : length above ≡ 42
unfolding places
length-above = refl

length-front : suc (length front) ≡ 42
length-front = ap suc (length-binary 41 22669656695)

abbrev lowest_first : ℕ → List Bool
lowest_first s = reverse (binary 42 s)

long : (s : ℕ) → length (lowest_first s) ≡ 42
long s = length-reverse (binary 42 s) ∙ length-binary 42 s

pub before_is : (s n : ℕ) → before s n ≡ number (reverse (times_x n above (lowest_first s)))
unfolding before
before_is s n =
    ap (λ (r : List Bool). number (reverse r)) (remainder-zeros n above (lowest_first s) (long s ∙ sym length-above))

long_before : (s n : ℕ) → length (reverse (times_x n above (lowest_first s))) ≡ 42
long_before s n =
    length-reverse (times_x n above (lowest_first s)) ∙
    length_times_x n above (lowest_first s) (long s ∙ sym length-above) ∙ length-above

binary-before : (s n : ℕ) → binary 42 (before s n) ≡ reverse (times_x n above (lowest_first s))
binary-before s n =
    rw (before_is s n) (rw (long_before s n) at (binary-number_from 0 (reverse (times_x n above (lowest_first s)))))

pub before_lt : (s n : ℕ) → before s n < 2 ^ 42
before_lt s n = rw (before_is s n) (rw (long_before s n) at (number_lt (reverse (times_x n above (lowest_first s)))))

-- n chips earlier, and then n chips later
pub after-before : (s n : ℕ) → s < 2 ^ 42 → after (before s n) n ≡ s
after-before s n h =
    let back : times_x n below (reverse (times_x n above (lowest_first s))) ≡ binary 42 s =
    ap (λ (b : List Bool). times_x n b (reverse (times_x n above (lowest_first s)))) below_is
    ∙ ap (λ (a : List Bool). times_x n (front ++ true ∷ []) (reverse (times_x n a (lowest_first s)))) above_is
    ∙ steps_back n front (lowest_first s) (long s ∙ sym length-front)
    ∙ reverse-reverse (binary 42 s) in
    after_is (before s n) n ∙
    ap (λ (b : List Bool). number (times_x n below b)) (binary-before s n) ∙ ap number back ∙
    number-binary 42 s h

-- Eight states, lane by lane.
use Rattle.viterbi.proofs.Common.{◌≡◌, ℕ, ◌<◌, List, [], ◌∷◌, length, map, get_or, refl, sym, ap, ◌∙◌, arith, ℤ, pos, ◌+ℤ◌, ◌-ℤ◌, to_z, w64}
use Rattle.viterbi.proofs.Common.{FitsSigned, of_z, to_z-of_z, get_or-zip2, length-zip2, Each1, Each2, zip2, Fit}

-- what is made of numbers of 64 bits, lane by lane, where those are such numbers too
pub made_fit : (made : ℤ → ℤ → ℤ) (xs ys : List ℤ) → Each2 (λ x y. Fit x y (made x y)) xs ys →
    Each1 (λ x. FitsSigned w64 x) (zip2 made xs ys)
made_fit made [] ys h = tt
made_fit made (x ∷ xs) [] h = tt
made_fit made (x ∷ xs) (y ∷ ys) h = (h.0.1.1, made_fit made xs ys h.1)

pub made_at : (made : ℤ → ℤ → ℤ) (xs ys : List ℤ) (l : ℕ) → length xs ≡ 8 → length ys ≡ 8 → l < 8 →
    get_or (zip2 made xs ys) l (pos 0) ≡ made (get_or xs l (pos 0)) (get_or ys l (pos 0))
made_at made xs ys l p q b =
    get_or-zip2 made xs ys l (pos 0) (pos 0) (pos 0) (omega (arith, p, b)) (omega (arith, q, b))

pub zip_long : {C : Type 0} (f : ℤ → ℤ → C) (xs ys : List ℤ) → length xs ≡ 8 → length ys ≡ 8 → length (zip2 f xs ys) ≡ 8
zip_long f xs ys p q = length-zip2 f xs ys (p ∙ sym q) ∙ p

abbrev pub even_of : List ℤ → List ℤ → List ℤ
even_of a gain = zip2 (λ x y. x +ℤ y) a gain

abbrev pub odd_of : List ℤ → List ℤ → List ℤ
odd_of b gain = zip2 (λ x y. x -ℤ y) b gain

-- what is made of both
pub block_at : {C : Type 0} (f : ℤ → ℤ → C) (d : C) (a b gain : List ℤ) (l : ℕ) → length a ≡ 8 →
    length b ≡ 8 → length gain ≡ 8 → l < 8 → get_or (zip2 f (even_of a gain) (odd_of b gain)) l d
    ≡ f (get_or a l (pos 0) +ℤ get_or gain l (pos 0)) (get_or b l (pos 0) -ℤ get_or gain l (pos 0))
block_at f d a b gain l p q r h =
    let m = zip_long (λ (x y : ℤ). x +ℤ y) a gain p r in
    let n = zip_long (λ (x y : ℤ). x -ℤ y) b gain q r in
    get_or-zip2 f (even_of a gain) (odd_of b gain) l (pos 0) (pos 0) d (omega (arith, m, h)) (omega (arith, n, h))
    ∙ rw (made_at (λ x y. x +ℤ y) a gain l p r h, made_at (λ x y. x -ℤ y) b gain l q r h) refl

pub block_long : {C : Type 0} (f : ℤ → ℤ → C) (a b gain : List ℤ) → length a ≡ 8 → length b ≡ 8 →
    length gain ≡ 8 → length (zip2 f (even_of a gain) (odd_of b gain)) ≡ 8
block_long f a b gain p q r =
    zip_long f (even_of a gain) (odd_of b gain) (zip_long (λ (x y : ℤ). x +ℤ y) a gain p r)
    (zip_long (λ (x y : ℤ). x -ℤ y) b gain q r)

pub kept : (xs : List ℤ) → Each1 (λ x. FitsSigned w64 x) xs → map (to_z w64) (map (of_z w64) xs) ≡ xs
kept [] h = refl
kept (x ∷ xs) h = λ i. to_z-of_z w64 x h.0 i ∷ kept xs h.1 i

pub left_fits : (made : ℤ → ℤ → ℤ) (xs ys : List ℤ) → length xs ≡ length ys →
    Each2 (λ x y. Fit x y (made x y)) xs ys → Each1 (λ x. FitsSigned w64 x) xs
left_fits made [] ys e h = tt
left_fits made (x ∷ xs) [] e h = absurd (omega (arith, e))
left_fits made (x ∷ xs) (y ∷ ys) e h = (h.0.0, left_fits made xs ys (omega (arith, e)) h.1)

pub right_fits : (made : ℤ → ℤ → ℤ) (xs ys : List ℤ) → length xs ≡ length ys →
    Each2 (λ x y. Fit x y (made x y)) xs ys → Each1 (λ x. FitsSigned w64 x) ys
right_fits made [] [] e h = tt
right_fits made [] (y ∷ ys) e h = absurd (omega (arith, e))
right_fits made (x ∷ xs) [] e h = absurd (omega (arith, e))
right_fits made (x ∷ xs) (y ∷ ys) e h = (h.0.1.0, right_fits made xs ys (omega (arith, e)) h.1)

abbrev pub passed : List ℤ → List ℤ
passed xs = map (to_z w64) (map (of_z w64) xs)

-- lanes that were handed on
pub made_is : (made : ℤ → ℤ → ℤ) (m a gain : List ℤ) → length a ≡ 8 → length gain ≡ 8 →
    Each2 (λ x y. Fit x y (made x y)) a gain → m ≡ zip2 made (passed a) (passed gain) → passed m ≡ zip2 made a gain
made_is made m a gain p r h is =
    let e : length a ≡ length gain = p ∙ sym r in
    let m_is : m ≡ zip2 made a gain =
    is ∙ ap (λ (xs : List ℤ). zip2 made xs (passed gain)) (kept a (left_fits made a gain e h))
    ∙ ap (λ (ys : List ℤ). zip2 made a ys) (kept gain (right_fits made a gain e h)) in
    ap passed m_is ∙ kept (zip2 made a gain) (made_fit made a gain h)

-- Lists repeated.
use Rattle.chip_core.proofs.Common.{◌≡◌, ℕ, zero, suc, ◌+◌, ◌-◌, ◌*◌, ◌%◌, ◌<◌, ◌≤◌, List, [], ◌++◌, length, get_or, map, take, drop, refl}
use Rattle.chip_core.proofs.Common.{sym, ap, ◌∙◌, arith, length-append, length-drop, inl, inr, flat_map, cases_lt, flat_map-append, places}
use Rattle.chip_core.proofs.Common.{get_or-append_right, get_or-drop, get_or-take, get_or_append_left, length-take-le, mod-mul-add}
use Rattle.chip_core.proofs.Places.{map-places-all}

-- a list repeated n times
abbrev pub repeated : {X : Type 0} → ℕ → List X → List X
repeated zero xs = []
repeated (suc n) xs = repeated n xs ++ xs

pub length-repeated : {X : Type 0} (n : ℕ) (xs : List X) → length (repeated n xs) ≡ length xs * n
length-repeated zero xs = omega arith
length-repeated (suc n) xs = omega (arith, length-append (repeated n xs) xs, length-repeated n xs)

-- By induction over the rounds, place i of a repeated list has what the list has at i modulo its
-- length: i lies in the rounds before the last, or in the last one at i less their length.
pub get_or-repeated : {X : Type 0} (n : ℕ) (xs : List X) (i : ℕ) (d : X) → i < length xs * n →
    get_or (repeated n xs) i d ≡ get_or xs (i % length xs) d
get_or-repeated zero xs i d lt = absurd (omega (arith, lt))
get_or-repeated (suc n) xs i d lt =
    let w = length xs in
    let long = length-repeated n xs in
    elim (cases_lt i (w * n)) [
      | inl less ↦
          get_or_append_left (repeated n xs) xs d i (omega (arith, less, long))
          ∙ get_or-repeated n xs i d less
      | inr over ↦
          let r = i - w * n in
          let e : i ≡ n * w + r = omega (arith, over) in
          let low : r < w = omega (arith, lt, over) in
          get_or-append_right (repeated n xs) xs (w * n) i d long over
          ∙ ap (λ (k : ℕ). get_or xs k d) (sym (ap (λ (k : ℕ). k % w) e ∙ mod-mul-add n w r low))
    ]

-- `many` of them from place `first` on
pub repeated-part : {X : Type 0} (n : ℕ) (xs : List X) (first many : ℕ) (d : X) → first + many ≤ length xs * n →
    map (λ j. get_or xs ((first + j) % length xs) d) (places many) ≡ take many (drop first (repeated n xs))
repeated-part n xs first many d within =
    let all = repeated n xs in
    let long : length (take many (drop first all)) ≡ many =
    length-take-le many (drop first all) (omega (arith, length-drop first all, length-repeated n xs, within)) in
    sym (map-places-all (λ j. get_or xs ((first + j) % length xs) d) (take many (drop first all)) many d long
    (λ k lt.
    get_or-take many (drop first all) k d lt
    ∙ get_or-drop first all k d
    ∙ get_or-repeated n xs (first + k) d (omega (arith, lt, within))))

pub flat_map-repeated : {X Y : Type 0} (f : X → List Y) (n : ℕ) (xs : List X) →
    flat_map f (repeated n xs) ≡ repeated n (flat_map f xs)
flat_map-repeated f zero xs = refl
flat_map-repeated {X} {Y} f (suc n) xs =
    flat_map-append f (repeated n xs) xs
    ∙ ap (λ (l : List Y). l ++ flat_map f xs) (flat_map-repeated f n xs)

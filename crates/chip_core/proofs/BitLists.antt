-- Sums modulo 2 of lists of bits, place by place.
use Rattle.chip_core.proofs.Common.{◌≡◌, ℕ, suc, ◌+◌, ◌<◌, Bool, true, false, List, [], ◌∷◌, ◌++◌, length, take, refl, ap, ◌∙◌, arith, Some}
use Rattle.chip_core.proofs.Common.{slice_get, take_more, get_or_from_slice_get, slice_get_within, are_same, xor, zip_with}

abbrev pub add : List Bool → List Bool → List Bool
add a b = zip_with xor a b

pub xor_assoc : (a b c : Bool) → xor (xor a b) c ≡ xor a (xor b c)
xor_assoc true true true = refl
xor_assoc true true false = refl
xor_assoc true false true = refl
xor_assoc true false false = refl
xor_assoc false b c = refl

pub length_add : (a b : List Bool) → length a ≡ length b → length (add a b) ≡ length a
length_add [] [] h = refl
length_add [] (b ∷ bs) h = refl
length_add (a ∷ as') [] h = absurd (omega (arith, h))
length_add (a ∷ as') (b ∷ bs) h = ap suc (length_add as' bs (omega (arith, h)))

-- one more place at the end of both lists
pub zip_push : (f : Bool → Bool → Bool) (xs ys : List Bool) (x y : Bool) → length xs ≡ length ys →
    zip_with f (xs ++ x ∷ []) (ys ++ y ∷ []) ≡ zip_with f xs ys ++ f x y ∷ []
zip_push f [] [] x y h = refl
zip_push f [] (z ∷ ys) x y h = absurd (omega (arith, h))
zip_push f (z ∷ xs) [] x y h = absurd (omega (arith, h))
zip_push f (u ∷ xs) (v ∷ ys) x y h = ap (λ r. f u v ∷ r) (zip_push f xs ys x y (omega (arith, h)))

-- a loop has read the first i bits of a list, and one more
pub taken_more : (bits : List Bool) (i : ℕ) (bit : Bool) → slice_get bits i ≡ Some bit →
    take (i + 1) bits ≡ take i bits ++ bit ∷ []
taken_more bits i bit read =
    let within : i < length bits = slice_get_within bits i bit read in
    take_more bits i false within ∙
    ap (λ (b : Bool). take i bits ++ b ∷ []) (get_or_from_slice_get bits i bit false read)

pub same_from : (xs ys : List Bool) → are_same xs ys ≡ true → xs ≡ ys
same_from [] [] h = refl
same_from [] (y ∷ ys) h = absurd (cc)
same_from (x ∷ xs) [] h = absurd (cc)
same_from (true ∷ xs) (true ∷ ys) h = ap (λ (zs : List Bool). true ∷ zs) (same_from xs ys h)
same_from (true ∷ xs) (false ∷ ys) h = absurd (cc)
same_from (false ∷ xs) (true ∷ ys) h = absurd (cc)
same_from (false ∷ xs) (false ∷ ys) h = ap (λ (zs : List Bool). false ∷ zs) (same_from xs ys h)

pub same_refl : (xs : List Bool) → are_same xs xs ≡ true
same_refl [] = refl
same_refl (true ∷ xs) = same_refl xs
same_refl (false ∷ xs) = same_refl xs

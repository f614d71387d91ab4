-- The numbers below a number, in order.
use Rattle.chip_core.proofs.Common.{◌≡◌, ℕ, zero, suc, ◌+◌, ◌<◌, List, [], ◌∷◌, ◌++◌, length, get_or, map, refl, ap, ◌∙◌, arith, add-one}
use Rattle.chip_core.proofs.Common.{range_with_len, places}
use Rattle.std.proofs.lemmas.List.FromFn.{length-range_with_len, get_or-range_with_len, length-map-range_with_len, map-range_with_len_more}
use Rattle.std.proofs.lemmas.List.FromFn.{get_or-map-range_with_len, fill_by_all}

-- `places` as std has it, for std's lemmas
pub places_is : (n : ℕ) → places n ≡ range_with_len 0 n
unfolding places
places_is n = refl

range-suc : (a n : ℕ) → range_with_len a (suc n) ≡ range_with_len a n ++ (a + n) ∷ []
range-suc a zero = let e : a ≡ a + 0 = omega arith in ap (λ (m : ℕ). m ∷ []) e
range-suc a (suc n) =
    let place : a + 1 + n ≡ a + suc n = omega arith in
    ap (λ (ms : List ℕ). a ∷ ms) (range-suc (a + 1) n ∙
    ap (λ (m : ℕ). range_with_len (a + 1) n ++ m ∷ []) place)

pub places-none : places 0 ≡ []
unfolding places
places-none = refl

pub places-more : (n : ℕ) → places (n + 1) ≡ places n ++ n ∷ []
unfolding places
places-more n = rw add-one (range-suc 0 n ∙ ap (λ (m : ℕ). range_with_len 0 n ++ m ∷ []) (omega arith))

pub length-places : (n : ℕ) → length (places n) ≡ n
unfolding places
length-places n = length-range_with_len 0 n

pub get_or-places : (n i d : ℕ) → i < n → get_or (places n) i d ≡ i
unfolding places
get_or-places n i d h = get_or-range_with_len 0 n i d h ∙ omega arith

-- a list made from a function of the place
pub length-map-places : {X : Type 0} (f : ℕ → X) (n : ℕ) → length (map f (places n)) ≡ n
unfolding places
length-map-places f n = length-map-range_with_len f 0 n

pub get_or-map-places : {X : Type 0} (f : ℕ → X) (n i : ℕ) (d : X) → i < n → get_or (map f (places n)) i d ≡ f i
unfolding places
get_or-map-places f n i d h = get_or-map-range_with_len f 0 n i i d h (omega arith)

pub map-places-more : {X : Type 0} (f : ℕ → X) (n : ℕ) → map f (places (n + 1)) ≡ map f (places n) ++ f n ∷ []
unfolding places
map-places-more f n = map-range_with_len_more f 0 n n (omega arith)

-- a list is the one that a function makes where each entry is
pub map-places-all : {X : Type 0} (f : ℕ → X) (xs : List X) (n : ℕ) (d : X) → length xs ≡ n →
    ((k : ℕ) → k < n → get_or xs k d ≡ f k) → xs ≡ map f (places n)
unfolding places
map-places-all f xs n d long each = fill_by_all f xs n d long each

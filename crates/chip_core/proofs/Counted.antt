-- Lists made number by number.
use Rattle.chip_core.proofs.Common.{◌≡◌, ℕ, zero, suc, ◌+◌, ◌-◌, ◌<◌, ◌≤◌, List, [], ◌∷◌, ◌++◌, map, take, sym, ap, ◌∙◌, arith, flat_map}
use Rattle.chip_core.proofs.Common.{append_assoc, append-nil, take_at, places}
use Rattle.chip_core.proofs.Places.{length-map-places, map-places-more, places-none}
use Rattle.chip_core.proofs.Ranges.{flat_map-places-more}

pub map-next : {X : Type 0} (f : ℕ → X) (n : ℕ) → map f (places (suc n)) ≡ map f (places n) ++ f n ∷ []
map-next f n = let e : n + 1 ≡ suc n = omega arith in rw e at (map-places-more f n)

pub flat_map-next : {X : Type 0} (f : ℕ → List X) (n : ℕ) → flat_map f (places (suc n)) ≡ flat_map f (places n) ++ f n
flat_map-next f n = let e : n + 1 ≡ suc n = omega arith in rw e at (flat_map-places-more f n)

pub map-zero : {X : Type 0} (f : ℕ → X) → map f (places 0) ≡ []
map-zero f = ap (map f) places-none

pub flat_map-zero : {X : Type 0} (f : ℕ → List X) → flat_map f (places 0) ≡ []
flat_map-zero f = ap (flat_map f) places-none

-- a front and the rest
pub flat_map-add : {X : Type 0} (f : ℕ → List X) (a b : ℕ) →
    flat_map f (places (a + b)) ≡ flat_map f (places a) ++ flat_map (λ i. f (a + i)) (places b)
flat_map-add {X} f a zero =
    let e : a + 0 ≡ a = omega arith in
    ap (λ (n : ℕ). flat_map f (places n)) e
    ∙ sym (append-nil (flat_map f (places a)))
    ∙ ap (λ (l : List X). flat_map f (places a) ++ l) (sym (flat_map-zero (λ i. f (a + i))))
flat_map-add {X} f a (suc b) =
    let e : a + suc b ≡ suc (a + b) = omega arith in
    ap (λ (n : ℕ). flat_map f (places n)) e
    ∙ flat_map-next f (a + b)
    ∙ ap (λ (l : List X). l ++ f (a + b)) (flat_map-add f a b)
    ∙ append_assoc (flat_map f (places a)) (flat_map (λ i. f (a + i)) (places b)) (f (a + b))
    ∙ ap (λ (l : List X). flat_map f (places a) ++ l) (sym (flat_map-next (λ i. f (a + i)) b))

pub map-add : {X : Type 0} (f : ℕ → X) (a b : ℕ) →
    map f (places (a + b)) ≡ map f (places a) ++ map (λ i. f (a + i)) (places b)
map-add {X} f a zero =
    let e : a + 0 ≡ a = omega arith in
    ap (λ (n : ℕ). map f (places n)) e
    ∙ sym (append-nil (map f (places a)))
    ∙ ap (λ (l : List X). map f (places a) ++ l) (sym (map-zero (λ i. f (a + i))))
map-add {X} f a (suc b) =
    let e : a + suc b ≡ suc (a + b) = omega arith in
    ap (λ (n : ℕ). map f (places n)) e
    ∙ map-next f (a + b)
    ∙ ap (λ (l : List X). l ++ f (a + b) ∷ []) (map-add f a b)
    ∙ append_assoc (map f (places a)) (map (λ i. f (a + i)) (places b)) (f (a + b) ∷ [])
    ∙ ap (λ (l : List X). map f (places a) ++ l) (sym (map-next (λ i. f (a + i)) b))

pub flat_map-nothing : {X : Type 0} (f : ℕ → List X) (n : ℕ) → ((k : ℕ) → k < n → f k ≡ []) → flat_map f (places n) ≡ []
flat_map-nothing f zero none = flat_map-zero f
flat_map-nothing {X} f (suc n) none =
    flat_map-next f n
    ∙ ap (λ (l : List X). l ++ f n) (flat_map-nothing f n (λ k lt. none k (omega (arith, lt))))
    ∙ none n (omega arith)

-- the first k of n places
pub take-map-places : {X : Type 0} (f : ℕ → X) (k n : ℕ) → k ≤ n → take k (map f (places n)) ≡ map f (places k)
take-map-places f k n le =
    let e : n ≡ k + (n - k) = omega (arith, le) in
    ap (λ (m : ℕ). take k (map f (places m))) e
    ∙ ap (take k) (map-add f k (n - k))
    ∙ take_at (map f (places k)) (map (λ i. f (k + i)) (places (n - k))) k (length-map-places f k)

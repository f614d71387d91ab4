-- The symbols of bits after other bits.
use Rattle.conv_code.proofs.Common.{◌≡◌, ℕ, zero, suc, ◌+◌, ◌-◌, ◌*◌, ◌<◌, ◌≤◌, Bool, true, false, List, [], ◌∷◌, ◌++◌, length, get_or, map}
use Rattle.conv_code.proofs.Common.{drop, refl, sym, ap, ◌∙◌, arith, append_assoc, append-nil, length-append, length-drop, nat_le, flat_map}
use Rattle.conv_code.proofs.Common.{list_all, get_or_append_left, get_or-drop, drop-append-le, drop-drop, flat_map-append, and_parts, g0}
use Rattle.conv_code.proofs.Common.{leb-true, parity, places, places-none, places-more, symbol, g1, code_symbols, state_after}
use Rattle.conv_code.proofs.Common.{IsContinuedCode, flat_map_ext_places}

-- the two symbols of a place
abbrev pub pair : List Bool → ℕ → List Bool
pair joined j = symbol g0 joined j ∷ symbol g1 joined j ∷ []

-- What m + n places give is what the first m give, followed by what the n places after them give,
-- by induction over n.
split : {X : Type 0} (f : ℕ → List X) (m n : ℕ) →
    flat_map f (places (m + n)) ≡ flat_map f (places m) ++ flat_map (λ j. f (m + j)) (places n)
split f m zero =
    let none : m + 0 ≡ m = omega arith in
    rw (none, places-none) (sym (append-nil (flat_map f (places m))))
split {X} f m (suc n) =
    let g = λ (j : ℕ). f (m + j) in
    let place : m + suc n ≡ m + n + 1 = omega arith in
    let here : suc n ≡ n + 1 = omega arith in
    let last : flat_map g (places n ++ n ∷ []) ≡ flat_map g (places n) ++ flat_map g (n ∷ []) =
    flat_map-append g (places n) (n ∷ []) in
    rw (place, here, places-more (m + n), places-more n)
    (flat_map-append f (places (m + n)) ((m + n) ∷ [])
    ∙ ap (λ (xs : List X). xs ++ flat_map f ((m + n) ∷ [])) (split f m n)
    ∙ append_assoc (flat_map f (places m)) (flat_map g (places n)) (flat_map f ((m + n) ∷ []))
    ∙ ap (λ (xs : List X). flat_map f (places m) ++ xs) (sym last))

taps_same : (x y : List Bool) (j k : ℕ) (generator : List ℕ) → list_all (λ back. nat_le back 8) generator ≡ true →
    ((back : ℕ) → back ≤ 8 → get_or x (8 + j - back) false ≡ get_or y (8 + k - back) false) →
    map (λ back. get_or x (8 + j - back) false) generator ≡ map (λ back. get_or y (8 + k - back) false) generator
taps_same x y j k [] all h = refl
taps_same x y j k (back ∷ backs) all h =
    let parts = and_parts (nat_le back 8) (list_all (λ back. nat_le back 8) backs) all in
    let here = h back (leb-true back 8 parts.0) in
    let rest = taps_same x y j k backs parts.1 h in
    cc

-- a pair depends on its bit and the eight before
pub pair_same : (x y : List Bool) (j k : ℕ) →
    ((back : ℕ) → back ≤ 8 → get_or x (8 + j - back) false ≡ get_or y (8 + k - back) false) → pair x j ≡ pair y k
pair_same x y j k h =
    let first = ap parity (taps_same x y j k g0 refl h) in
    let second = ap parity (taps_same x y j k g1 refl h) in
    cc

pub before : (start xs ys : List Bool) (j : ℕ) → length start ≡ 8 → j < length xs →
    pair (start ++ (xs ++ ys)) j ≡ pair (start ++ xs) j
before start xs ys j eight lt =
    pair_same (start ++ (xs ++ ys)) (start ++ xs) j j
    (λ back le.
    let within : 8 + j - back < length (start ++ xs) = omega (arith, lt, eight, length-append start xs) in
    ap (λ (r : List Bool). get_or r (8 + j - back) false) (sym (append_assoc start xs ys))
    ∙ get_or_append_left (start ++ xs) ys false (8 + j - back) within)

-- A pair of symbols of later bits is the one that an encoder gives which begins with the state
-- after the bits before: the pair depends on its own bit and the eight before it, and these are in
-- that state or among the later bits.
pub following : (start xs ys : List Bool) (j : ℕ) → length start ≡ 8 →
    pair (start ++ (xs ++ ys)) (length xs + j) ≡ pair (state_after start xs ++ ys) j
following start xs ys j eight =
    let m = length xs in
    let within : m ≤ length (start ++ xs) = omega (arith, length-append start xs) in
    let joined : drop m (start ++ (xs ++ ys)) ≡ drop m (start ++ xs) ++ ys =
    ap (drop m) (sym (append_assoc start xs ys)) ∙ drop-append-le m (start ++ xs) ys within in
    pair_same (start ++ (xs ++ ys)) (state_after start xs ++ ys) (m + j) j
    (λ back le.
    let place : 8 + (m + j) - back ≡ m + (8 + j - back) = omega arith in
    rw place (sym (get_or-drop m (start ++ (xs ++ ys)) (8 + j - back) false)
    ∙ ap (λ (r : List Bool). get_or r (8 + j - back) false) joined))

-- The symbols of some bits followed by others are those of the first, and then those of the others
-- from the state that the first leave: each pair of either part depends on nine bits that are the
-- same in both encodings.
pub continued : IsContinuedCode
continued start xs ys eight =
    let joined = start ++ (xs ++ ys) in
    let m = length xs in
    let n = length ys in
    rw (length-append xs ys)
    (split (pair joined) m n
    ∙ ap (λ (r : List Bool). r ++ flat_map (λ j. pair joined (m + j)) (places n))
    (flat_map_ext_places (pair joined) (pair (start ++ xs)) m (λ j lt. before start xs ys j eight lt))
    ∙ ap (λ (r : List Bool). code_symbols start xs ++ r)
    (flat_map_ext_places (λ j. pair joined (m + j)) (pair (state_after start xs ++ ys)) n
    (λ j lt. following start xs ys j eight)))

-- no bits have no symbols, and one bit has two
pub code_symbols-none : (start : List Bool) → code_symbols start [] ≡ []
code_symbols-none start = rw places-none

pub code_symbols-one : (start : List Bool) (bit : Bool) → code_symbols start (bit ∷ []) ≡ pair (start ++ bit ∷ []) 0
unfolding places
code_symbols-one start bit = refl

pub length-state_after : (start bits : List Bool) → length (state_after start bits) ≡ length start
length-state_after start bits = omega (arith, length-drop (length bits) (start ++ bits), length-append start bits)

pub state_after-none : (start : List Bool) → state_after start [] ≡ start
state_after-none start = append-nil start

-- The state after xs and ys is that after ys from the state after xs: dropping as many bits as both
-- have is dropping as many as xs has, which all lie before ys, and then as many as ys has.
pub state_after-append : (start xs ys : List Bool) →
    state_after start (xs ++ ys) ≡ state_after (state_after start xs) ys
state_after-append start xs ys =
    let m = length xs in
    let n = length ys in
    let within : m ≤ length (start ++ xs) = omega (arith, length-append start xs) in
    rw (length-append xs ys, ← append_assoc start xs ys)
    (sym (drop-drop n m (start ++ xs ++ ys)) ∙
    ap (drop n) (drop-append-le m (start ++ xs) ys within))

-- one bit more
pub code_symbols-push : (start xs : List Bool) (bit : Bool) → length start ≡ 8 → code_symbols start (xs ++ bit ∷ []) ≡
    code_symbols start xs ++ pair (state_after start xs ++ bit ∷ []) 0
code_symbols-push start xs bit eight =
    continued start xs (bit ∷ []) eight ∙
    ap (λ (r : List Bool). code_symbols start xs ++ r) (code_symbols-one (state_after start xs) bit)

pub length_pairs : (f g : ℕ → Bool) (n : ℕ) → length (flat_map (λ j. f j ∷ g j ∷ []) (places n)) ≡ 2 * n
length_pairs f g zero = rw places-none
length_pairs f g (suc n) =
    let h = λ (j : ℕ). f j ∷ g j ∷ [] in
    let here : suc n ≡ n + 1 = omega arith in
    rw (
      here,
      places-more n,
      flat_map-append h (places n) (n ∷ []),
      length-append (flat_map h (places n)) (flat_map h (n ∷ [])),
    )
    (omega (arith, length_pairs f g n))

pub length-code_symbols : (start bits : List Bool) → length (code_symbols start bits) ≡ 2 * length bits
length-code_symbols start bits = length_pairs (symbol g0 (start ++ bits)) (symbol g1 (start ++ bits)) (length bits)

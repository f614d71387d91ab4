-- The symbols of a list of bits, place by place.
use Rattle.conv_code.proofs.Common.{◌≡◌, ℕ, zero, suc, ◌+◌, ◌*◌, ◌<◌, Bool, false, List, [], ◌∷◌, ◌++◌, length, get_or, take, drop, sym, ap}
use Rattle.conv_code.proofs.Common.{◌∙◌, arith, below_more, append_assoc, flat_map, get_or_append_left, get_or-append-add, drop_more, g0}
use Rattle.conv_code.proofs.Common.{length-take-le, take-append-drop, take_more, flat_map-append, places, places-more, symbol, g1}
use Rattle.conv_code.proofs.Common.{code_symbols, state_after}
use Rattle.conv_code.proofs.Continued.{pair, before, following, length_pairs, length-state_after}

-- entries 2j and 2j + 1
pub record AreAt (symbols : List Bool) (j : ℕ) (first second : Bool) : Type 0 where
  pub even : get_or symbols (2 * j) false ≡ first
  pub odd : get_or symbols (2 * j + 1) false ≡ second

-- In a list with the pair f j, g j for each number j, that pair stands at places 2 j and 2 j + 1.
-- By induction over the numbers: a pair that is put at the end stands after two values for each
-- number before it, and those keep their places.
pub pairs_at : (f g : ℕ → Bool) (n j : ℕ) → j < n → AreAt (flat_map (λ j. f j ∷ g j ∷ []) (places n)) j (f j) (g j)
pairs_at f g zero j lt = absurd (omega (arith, lt))
pairs_at f g (suc n) j lt =
    let h = λ (j : ℕ). f j ∷ g j ∷ [] in
    let xs = flat_map h (places n) in
    let here : suc n ≡ n + 1 = omega arith in
    let long : length xs ≡ 2 * n = length_pairs f g n in
    let last : get_or (xs ++ f n ∷ g n ∷ []) (length xs + 0) false ≡ f n =
    get_or-append-add xs (f n ∷ g n ∷ []) 0 false in
    let last' : get_or (xs ++ f n ∷ g n ∷ []) (length xs + 1) false ≡ g n =
    get_or-append-add xs (f n ∷ g n ∷ []) 1 false in
    let first : length xs + 0 ≡ 2 * n = omega (arith, long) in
    let second : length xs + 1 ≡ 2 * n + 1 = omega (arith, long) in
    rw (here, places-more n, flat_map-append h (places n) (n ∷ []))
    (below_more (λ j. AreAt (xs ++ f n ∷ g n ∷ []) j (f j) (g j)) n
    (λ j l. let at_j = pairs_at f g n j l in record {
      even = get_or_append_left xs (f n ∷ g n ∷ []) false (2 * j) (omega (arith, l, long)) ∙
          at_j.even;
      odd = get_or_append_left xs (f n ∷ g n ∷ []) false (2 * j + 1) (omega (arith, l, long)) ∙
          at_j.odd;
    })
    (record { even = rw first at last; odd = rw second at last' })
    j (omega (arith, lt)))

pub symbols_at : (start bits : List Bool) (j : ℕ) → j < length bits →
    AreAt (code_symbols start bits) j (symbol g0 (start ++ bits) j) (symbol g1 (start ++ bits) j)
symbols_at start bits j lt = pairs_at (symbol g0 (start ++ bits)) (symbol g1 (start ++ bits)) (length bits) j lt

-- The pair at place j depends only on the state before it and on bit j: the code after the first j
-- bits goes on from their state (`following`), and later bits don't enter the pair (`before`).
pub pair_from_state : (start codeword : List Bool) (j : ℕ) → length start ≡ 8 → j < length codeword →
    pair (start ++ codeword) j ≡ pair (state_after start (take j codeword) ++ get_or codeword j false ∷ []) 0
pair_from_state start codeword j eight lt =
    let xs = take j codeword in
    let bit = get_or codeword j false in
    let rest = drop (j + 1) codeword in
    let state = state_after start xs in
    let long : length xs ≡ j = length-take-le j codeword (omega (arith, lt)) in
    let place : length xs + 0 ≡ j = omega (arith, long) in
    let parts : xs ++ (bit ∷ rest) ≡ codeword =
    ap (λ (r : List Bool). xs ++ r) (sym (drop_more codeword j false lt)) ∙
    take-append-drop j codeword in
    let moved : pair (start ++ (xs ++ (bit ∷ rest))) (length xs + 0) ≡
    pair (state ++ (bit ∷ rest)) 0 = following start xs (bit ∷ rest) 0 eight in
    ap (λ (r : List Bool). pair (start ++ r) j) (sym parts)
    ∙ ap (pair (start ++ (xs ++ (bit ∷ rest)))) (sym place)
    ∙ moved
    ∙ before state (bit ∷ []) rest 0 (length-state_after start xs ∙ eight) (omega arith)

-- two symbols more
pub take_pair : (symbols : List Bool) (j : ℕ) (first second : Bool) → 2 * j + 1 < length symbols →
    AreAt symbols j first second → take (2 * (j + 1)) symbols ≡ take (2 * j) symbols ++ first ∷ second ∷ []
take_pair symbols j first second room is =
    let place : 2 * (j + 1) ≡ 2 * j + 1 + 1 = omega arith in
    let within : 2 * j < length symbols = omega (arith, room) in
    rw (place, take_more symbols (2 * j + 1) false room, take_more symbols (2 * j) false within, is.even, is.odd)
    (append_assoc (take (2 * j) symbols) (first ∷ []) (second ∷ []))

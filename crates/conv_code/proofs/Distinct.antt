-- Equal symbols come from equal bits.
use Rattle.conv_code.proofs.Common.{◌≡◌, ℕ, zero, suc, ◌+◌, ◌-◌, ◌*◌, ◌<◌, ◌≤◌, Bool, true, false, List, [], ◌∷◌, ◌++◌, length, get_or, map}
use Rattle.conv_code.proofs.Common.{take, drop, refl, sym, ap, ◌∙◌, arith, below_more, length-append, nat_le, list_all, take_at, drop_at}
use Rattle.conv_code.proofs.Common.{ext_get_or, and_parts, leb-true, xor, parity, symbol, g0, g1, IsDistinctCode}
use Rattle.conv_code.proofs.Parities.{xor_cancel}
use Rattle.conv_code.proofs.Pairs.{symbols_at}
use Rattle.conv_code.proofs.Solved.{first_same}

-- entries further back than the last of a symbol
tail_same : (x y : List Bool) (backs : List ℕ) (m : ℕ) → 0 < m → list_all (nat_le 1) backs ≡ true →
    ((i : ℕ) → i < m → get_or x i false ≡ get_or y i false) →
    map (λ back. get_or x (m - back) false) backs ≡ map (λ back. get_or y (m - back) false) backs
tail_same x y [] m p all h = refl
tail_same x y (back ∷ backs) m p all h =
    let parts = and_parts (nat_le 1 back) (list_all (nat_le 1) backs) all in
    let far : 1 ≤ back = leb-true 1 back parts.0 in
    let here : get_or x (m - back) false ≡ get_or y (m - back) false = h (m - back) (omega arith) in
    let rest = tail_same x y backs m p parts.1 h in
    cc

-- One entry more is the same where symbol j of g0 is: that symbol is the sum of entry 8 + j and of
-- entries before it, which are the same (`tail_same`), so they cancel (`xor_cancel`).
next_same : (x y : List Bool) (j : ℕ) → symbol g0 x j ≡ symbol g0 y j →
    ((i : ℕ) → i < 8 + j → get_or x i false ≡ get_or y i false) → get_or x (8 + j) false ≡ get_or y (8 + j) false
next_same x y j same h =
    let backs = 1 ∷ 2 ∷ 3 ∷ 5 ∷ 7 ∷ 8 ∷ [] in
    let before : parity (map (λ back. get_or x (8 + j - back) false) backs) ≡
    parity (map (λ back. get_or y (8 + j - back) false) backs) =
    ap parity (tail_same x y backs (8 + j) (omega arith) refl h) in
    let whole : 8 + j - 0 ≡ 8 + j = omega arith in
    let sums : xor (get_or x (8 + j) false) (parity (map (λ back. get_or x (8 + j - back) false) backs))
    ≡ xor (get_or y (8 + j) false) (parity (map (λ back. get_or y (8 + j - back) false) backs)) = rw whole at same in
    xor_cancel _ _ _ (sums ∙ ap (xor (get_or y (8 + j) false)) (sym before))

-- all entries up to a place
up_to : (x y : List Bool) (n d : ℕ) → 8 ≤ n → ((j : ℕ) → j < n → symbol g0 x j ≡ symbol g0 y j) →
    ((j : ℕ) → j < n → symbol g1 x j ≡ symbol g1 y j) →
    d + 8 ≤ n → (i : ℕ) → i < 16 + d → get_or x i false ≡ get_or y i false
up_to x y n zero long h k room i lt =
    first_same x y (λ j l. h j (omega (arith, l))) (λ j l. k j (omega (arith, l))) i (omega (arith, lt))
up_to x y n (suc d) long h k room i lt =
    let before : (i : ℕ) → i < 8 + (8 + d) → get_or x i false ≡ get_or y i false =
    λ i l. up_to x y n d long h k (omega (arith, room)) i (omega (arith, l)) in
    let here = next_same x y (8 + d) (h (8 + d) (omega (arith, room))) before in
    below_more (λ i. get_or x i false ≡ get_or y i false) (8 + (8 + d)) before here i (omega (arith, lt))

-- Equal code symbols of at least eight bits come from equal bits and equal states before them: the
-- first eight pairs of symbols have one solution for the sixteen bits that they depend on, and each
-- later symbol fixes one bit more.
pub distinct : IsDistinctCode
distinct start start' bits bits' s s' long same h =
    let x = start ++ bits in
    let y = start' ++ bits' in
    let n = length bits in
    let first : (j : ℕ) → j < n → symbol g0 x j ≡ symbol g0 y j = λ j l.
    sym (symbols_at start bits j l).even ∙ ap (λ (r : List Bool). get_or r (2 * j) false) h ∙
    (symbols_at start' bits' j (omega (arith, l, same))).even in
    let second : (j : ℕ) → j < n → symbol g1 x j ≡ symbol g1 y j = λ j l.
    sym (symbols_at start bits j l).odd ∙ ap (λ (r : List Bool). get_or r (2 * j + 1) false) h ∙
    (symbols_at start' bits' j (omega (arith, l, same))).odd in
    let whole : x ≡ y =
    ext_get_or false x y (omega (arith, length-append start bits, length-append start' bits'))
    (λ i lt. up_to x y n (n - 8) long first second (omega arith) i (omega (arith, lt, length-append start bits))) in
    record {
      starts = sym (take_at start bits 8 s) ∙ ap (take 8) whole ∙ take_at start' bits' 8 s';
      all = sym (drop_at start bits 8 s) ∙ ap (drop 8) whole ∙ drop_at start' bits' 8 s';
    }

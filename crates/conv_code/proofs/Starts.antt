-- The start bits as sums of the first sixteen symbols.
use Rattle.conv_code.proofs.Common.{◌≡◌, ℕ, zero, suc, ◌+◌, ◌*◌, ◌/◌, ◌%◌, ◌<◌, ◌≤◌, Bool, true, false, cond, List, [], ◌∷◌, ◌++◌, length}
use Rattle.conv_code.proofs.Common.{get_or, map, refl, sym, ap, ◌∙◌, arith, nat_eq, nat_lt, list_all, get_or_append_left, and_parts, parity}
use Rattle.conv_code.proofs.Common.{agree_below, agree_below_at, ltb-true, symbol, g0, g1, code_symbols, state_after}
use Rattle.conv_code.proofs.Continued.{length-code_symbols}
use Rattle.conv_code.proofs.Pairs.{AreAt, symbols_at}
use Rattle.conv_code.proofs.Solved.{solutions, generator_of, place_of, entry_solved}

either : (symbols joined : List Bool) (j r : ℕ) → r < 2 → AreAt symbols j (symbol g0 joined j) (symbol g1 joined j) →
    get_or symbols (2 * j + r) false ≡ symbol (cond (nat_eq r 1) g1 g0) joined j
either symbols joined j zero lt is = let place : 2 * j + 0 ≡ 2 * j = omega arith in rw place is.even
either symbols joined j (suc zero) lt is = is.odd
either symbols joined j (suc (suc r)) lt is = absurd (omega (arith, lt))

-- Code symbol k, for k below 16, is that of equation k: it is one of pair k / 2 (`symbols_at`),
-- whose even entry is g0's symbol and whose odd one is g1's (`either`).
symbol_of : (start bits : List Bool) (k : ℕ) → k < 16 → 8 ≤ length bits →
    get_or (code_symbols start bits) k false ≡ symbol (generator_of k) (start ++ bits) (place_of k)
symbol_of start bits k lt long =
    let j = k / 2 in
    let place : place_of k ≡ j = omega (arith, lt) in
    let parts : 2 * j + k % 2 ≡ k = omega arith in
    let is = either (code_symbols start bits) (start ++ bits) j (k % 2) (omega arith)
    (symbols_at start bits j (omega (arith, lt, long))) in
    ap (λ (n : ℕ). get_or (code_symbols start bits) n false) (sym parts) ∙ is ∙
    ap (symbol (generator_of k) (start ++ bits)) (sym place)

map_below : {X : Type 0} (f g : ℕ → X) (ks : List ℕ) → list_all (λ k. nat_lt k 16) ks ≡ true →
    ((k : ℕ) → k < 16 → f k ≡ g k) → map f ks ≡ map g ks
map_below f g [] all h = refl
map_below f g (k ∷ ks) all h =
    let parts = and_parts (nat_lt k 16) (list_all (λ k. nat_lt k 16) ks) all in
    let here = h k (ltb-true k 16 parts.0) in
    let rest = map_below f g ks parts.1 h in
    cc

abbrev are_early : ℕ → Bool
are_early i = list_all (λ k. nat_lt k 16) (get_or solutions i [])

all_early : agree_below are_early (λ i. true) 16 ≡ true
all_early = refl

-- Each start bit is the sum of the symbols that its row of `solutions` names (`entry_solved`): all
-- of these are among the first 16 code symbols, which are those of the equations (`symbol_of`).
pub start_entry : (start bits symbols : List Bool) (i : ℕ) → i < 8 → length start ≡ 8 →
    16 ≤ length symbols → code_symbols start bits ≡ symbols → get_or start i false ≡
    parity (map (λ place. get_or symbols place false) (get_or solutions i []))
start_entry start bits symbols i lt eight long gives =
    let ks = get_or solutions i [] in
    let enough : 8 ≤ length bits = omega (arith, long, length-code_symbols start bits, ap length gives) in
    let early : list_all (λ k. nat_lt k 16) ks ≡ true =
    agree_below_at are_early (λ i. true) 16 i all_early (omega (arith, lt)) in
    let within : i < length start = omega (arith, lt, eight) in
    sym (get_or_append_left start bits false i within)
    ∙ entry_solved (start ++ bits) i (omega (arith, lt))
    ∙ ap parity
    (sym (map_below (λ k. get_or (code_symbols start bits) k false)
    (λ k. symbol (generator_of k) (start ++ bits) (place_of k)) ks early (λ k l. symbol_of start bits k l enough)))
    ∙ ap (λ (r : List Bool). parity (map (λ place. get_or r place false) ks)) gives

-- eight bits, one by one
pub eight_entries : (s : List Bool) → length s ≡ 8 →
    s ≡ get_or s 0 false ∷ get_or s 1 false ∷ get_or s 2 false ∷ get_or s 3 false ∷ get_or s 4 false
    ∷ get_or s 5 false ∷ get_or s 6 false ∷ get_or s 7 false ∷ []
eight_entries (a ∷ b ∷ c ∷ d ∷ e ∷ f ∷ g ∷ h ∷ []) eight = refl
eight_entries s eight = absurd (omega (arith, eight))

-- A register of eight bits that took eight more holds just these: each step drops the oldest bit
-- and puts the new one at the end, so that after eight steps no bit from before is left.
pub eight_pushed : (s s1 s2 s3 s4 s5 s6 s7 s8 : List Bool) (b1 b2 b3 b4 b5 b6 b7 b8 : Bool) → length s ≡ 8 →
    s1 ≡ state_after s (b1 ∷ []) → s2 ≡ state_after s1 (b2 ∷ []) → s3 ≡ state_after s2 (b3 ∷ []) →
    s4 ≡ state_after s3 (b4 ∷ []) →
    s5 ≡ state_after s4 (b5 ∷ []) → s6 ≡ state_after s5 (b6 ∷ []) → s7 ≡ state_after s6 (b7 ∷ []) →
    s8 ≡ state_after s7 (b8 ∷ []) → s8 ≡ b1 ∷ b2 ∷ b3 ∷ b4 ∷ b5 ∷ b6 ∷ b7 ∷ b8 ∷ []
eight_pushed (a ∷ b ∷ c ∷ d ∷ e ∷ f ∷ g ∷ h ∷ []) s1 s2 s3 s4 s5 s6 s7 s8 b1 b2 b3 b4 b5 b6 b7 b8
    eight e1 e2 e3 e4 e5 e6 e7 e8 =
    let t2 : s2 ≡ c ∷ d ∷ e ∷ f ∷ g ∷ h ∷ b1 ∷ b2 ∷ [] = e2 ∙
    ap (λ (s : List Bool). state_after s (b2 ∷ [])) e1 in
    let t3 : s3 ≡ d ∷ e ∷ f ∷ g ∷ h ∷ b1 ∷ b2 ∷ b3 ∷ [] = e3 ∙
    ap (λ (s : List Bool). state_after s (b3 ∷ [])) t2 in
    let t4 : s4 ≡ e ∷ f ∷ g ∷ h ∷ b1 ∷ b2 ∷ b3 ∷ b4 ∷ [] = e4 ∙
    ap (λ (s : List Bool). state_after s (b4 ∷ [])) t3 in
    let t5 : s5 ≡ f ∷ g ∷ h ∷ b1 ∷ b2 ∷ b3 ∷ b4 ∷ b5 ∷ [] = e5 ∙
    ap (λ (s : List Bool). state_after s (b5 ∷ [])) t4 in
    let t6 : s6 ≡ g ∷ h ∷ b1 ∷ b2 ∷ b3 ∷ b4 ∷ b5 ∷ b6 ∷ [] = e6 ∙
    ap (λ (s : List Bool). state_after s (b6 ∷ [])) t5 in
    let t7 : s7 ≡ h ∷ b1 ∷ b2 ∷ b3 ∷ b4 ∷ b5 ∷ b6 ∷ b7 ∷ [] = e7 ∙
    ap (λ (s : List Bool). state_after s (b7 ∷ [])) t6 in
    e8 ∙ ap (λ (s : List Bool). state_after s (b8 ∷ [])) t7
eight_pushed s s1 s2 s3 s4 s5 s6 s7 s8 b1 b2 b3 b4 b5 b6 b7 b8 eight e1 e2 e3 e4 e5 e6 e7 e8 =
    absurd (omega (arith, eight))

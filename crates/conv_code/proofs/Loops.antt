-- Steps of the loops over bits and symbols.
use Rattle.conv_code.proofs.Common.{◌≡◌, ℕ, ◌+◌, ◌*◌, ◌<◌, Bool, true, false, not, List, [], ◌∷◌, ◌++◌, length, get_or, map, take, drop, ap}
use Rattle.conv_code.proofs.Common.{sym, ◌∙◌, arith, append_assoc, Some, refl, ◌&&◌, ◌/◌, slice_get, at_drop_more, length-binary, beq, xor}
use Rattle.conv_code.proofs.Common.{get_or_from_slice_get, parity, binary, xor_step, symbol, g0, g1, code_symbols, state_after}
use Rattle.conv_code.proofs.Continued.{pair, code_symbols-push, state_after-append, length-code_symbols}
use Rattle.conv_code.proofs.Pairs.{AreAt, symbols_at, pair_from_state}

-- one bit more and its two symbols
pub symbols_more : (start register : ℕ) (xs symbols : List Bool) (bit first second : Bool) →
    symbols ≡ code_symbols (binary 8 start) xs → binary 8 register ≡ state_after (binary 8 start) xs →
    first ≡ symbol g0 (binary 8 register ++ bit ∷ []) 0 → second ≡ symbol g1 (binary 8 register ++ bit ∷ []) 0 →
    symbols ++ first ∷ second ∷ [] ≡ code_symbols (binary 8 start) (xs ++ bit ∷ [])
symbols_more start register xs symbols bit first second given state one two =
    let eight : length (binary 8 start) ≡ 8 = length-binary 8 start in
    rw (given, one, two, state) (sym (code_symbols-push (binary 8 start) xs bit eight))

-- the state after one bit more
pub state_more : (start register next : ℕ) (xs : List Bool) (bit : Bool) →
    binary 8 register ≡ state_after (binary 8 start) xs → binary 8 next ≡ state_after (binary 8 register) (bit ∷ []) →
    binary 8 next ≡ state_after (binary 8 start) (xs ++ bit ∷ [])
state_more start register next xs bit state moved =
    moved ∙ ap (λ (s : List Bool). state_after s (bit ∷ [])) state ∙
    sym (state_after-append (binary 8 start) xs (bit ∷ []))

-- two appended one after another
pub two_appended : (out one two : List Bool) (first second : Bool) → one ≡ out ++ first ∷ [] →
    two ≡ one ++ second ∷ [] → two ≡ out ++ first ∷ second ∷ []
two_appended out one two first second is is' =
    is' ∙ ap (λ (r : List Bool). r ++ second ∷ []) is ∙ append_assoc out (first ∷ []) (second ∷ [])

-- a sum of chosen symbols, one symbol further
pub sum_more : (symbols : List Bool) (sum bit : Bool) (at : List ℕ) (i : ℕ) → i < length at →
    slice_get symbols (get_or at i 0) ≡ Some bit →
    xor (not (beq sum bit)) (parity (map (λ place. get_or symbols place false) (drop (i + 1) at)))
    ≡ xor sum (parity (map (λ place. get_or symbols place false) (drop i at)))
sum_more symbols sum bit places i lt read =
    let rest = parity (map (λ place. get_or symbols place false) (drop (i + 1) places)) in
    let here : get_or symbols (get_or places i 0) false ≡ bit =
    get_or_from_slice_get symbols (get_or places i 0) bit false read in
    let split : xor sum (parity (map (λ place. get_or symbols place false) (drop i places))) ≡
    xor sum (xor (get_or symbols (get_or places i 0) false) rest) =
    at_drop_more (λ (ys : List ℕ). xor sum (parity (map (λ place. get_or symbols place false) ys)))
    places i 0 lt in
    xor_step sum bit rest ∙ sym (split ∙ ap (λ (b : Bool). xor sum (xor b rest)) here)

turned : (bit rest : Bool) → bit ≡ not (beq rest (xor bit rest))
turned true true = refl
turned true false = refl
turned false true = refl
turned false false = refl

-- the bit that gives a first symbol, from the symbol that a zero gives
pub bit_for : (state : List Bool) (of_zero first : Bool) → length state ≡ 8 →
    of_zero ≡ symbol g0 (state ++ false ∷ []) 0 →
    (bit : Bool) → symbol g0 (state ++ bit ∷ []) 0 ≡ first → bit ≡ not (beq of_zero first)
bit_for (a ∷ b ∷ c ∷ d ∷ e ∷ f ∷ g ∷ h ∷ []) of_zero first eight zero_is bit is =
    let rest = xor h (xor g (xor f (xor d (xor b (xor a false))))) in
    turned bit rest ∙ ap (λ (s : Bool). not (beq rest s)) is ∙
    ap (λ (s : Bool). not (beq s first)) (sym zero_is)
bit_for state of_zero first eight zero_is bit is = absurd (omega (arith, eight))

same_heads : (a b c d : Bool) → a ∷ b ∷ [] ≡ c ∷ d ∷ [] → (a ≡ c) × (b ≡ d)
same_heads a b c d h = (cc, cc)

-- the symbols at a place of a codeword, from the state before and the codeword's bit there
pub codeword_at : (start register i : ℕ) (bits symbols codeword : List Bool) →
    code_symbols (binary 8 start) codeword ≡ symbols → i < length codeword →
    binary 8 register ≡ state_after (binary 8 start) bits → bits ≡ take i codeword →
    AreAt symbols i (symbol g0 (binary 8 register ++ get_or codeword i false ∷ []) 0)
    (symbol g1 (binary 8 register ++ get_or codeword i false ∷ []) 0)
codeword_at start register i bits symbols codeword gives lt state read =
    let s = binary 8 start in
    let bit = get_or codeword i false in
    let at_i : AreAt (code_symbols s codeword) i (symbol g0 (s ++ codeword) i) (symbol g1 (s ++ codeword) i) =
    symbols_at s codeword i lt in
    let here : binary 8 register ≡ state_after s (take i codeword) = state ∙ ap (state_after s) read in
    let both : pair (s ++ codeword) i ≡ pair (binary 8 register ++ bit ∷ []) 0 =
    pair_from_state s codeword i (length-binary 8 start) lt ∙
    ap (λ (r : List Bool). pair (r ++ bit ∷ []) 0) (sym here) in
    let heads =
    same_heads (symbol g0 (s ++ codeword) i) (symbol g1 (s ++ codeword) i)
    (symbol g0 (binary 8 register ++ bit ∷ []) 0) (symbol g1 (binary 8 register ++ bit ∷ []) 0)
    both in
    record {
      even = ap (λ (r : List Bool). get_or r (2 * i) false) (sym gives) ∙ at_i.even ∙ heads.0;
      odd = ap (λ (r : List Bool). get_or r (2 * i + 1) false) (sym gives) ∙ at_i.odd ∙ heads.1;
    }

-- the code's comparison of two pairs
pub both_same : (a b c d : Bool) → false ≡ not (beq a c && beq b d) → (a ≡ c) × (b ≡ d)
both_same true true true true h = (refl, refl)
both_same true false true false h = (refl, refl)
both_same false true false true h = (refl, refl)
both_same false false false false h = (refl, refl)
both_same a b c d h = absurd (cc)

pub not_both : (a b c d : Bool) → true ≡ not (beq a c && beq b d) → a ≡ c → ¬ (b ≡ d)
not_both true true true true h p q = cc
not_both true false true false h p q = cc
not_both false true false true h p q = cc
not_both false false false false h p q = cc
not_both a b c d h p q = cc

-- where some codeword gives the symbols, a place below half their number is one of its bits
pub within_codeword : (start i : ℕ) (symbols codeword : List Bool) →
    code_symbols (binary 8 start) codeword ≡ symbols → i < length symbols / 2 → i < length codeword
within_codeword start i symbols codeword gives lt =
    omega (arith, lt, length-code_symbols (binary 8 start) codeword, ap length gives)

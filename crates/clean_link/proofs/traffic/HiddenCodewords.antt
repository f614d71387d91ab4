-- Two codewords whose kept symbols are the same add up to a codeword whose kept symbols are 0.
use Rattle.clean_link.proofs.Common.{◌≡◌, ℕ, zero, suc, ◌+◌, ◌-◌, ◌*◌, ◌<◌, Bool, true, false, not, ◌&&◌, ◌||◌, List, [], ◌∷◌, ◌++◌, length}
use Rattle.clean_link.proofs.Common.{get_or, drop, replicate, refl, sym, ap, ◌∙◌, arith, filter, if◌then◌else◌, list_all, list_any, drop_at}
use Rattle.clean_link.proofs.Common.{and_from, and_parts, drop-drop, xor, add, length_add, g0, g1, state_after, symbol, before, following}
use Rattle.clean_link.proofs.Common.{length-state_after, pair, state_after-append, state_after-none, is_hidden, is_kept, is_seen, ◌/◌, sent}
use Rattle.clean_link.proofs.Common.{stays_apart, ⊎_elim, nat_eq, cases_Bool, eq-eqb, eqb-true, not-true, or_cases, or_left, or_right, map}
use Rattle.clean_link.proofs.Common.{list_all_at, list_any-append, places, places-none, places-more, length-places, get_or-places, address}
use Rattle.clean_link.proofs.Common.{get_or-sent_by, data_shape, place, sent_by, address-place, place_lt, AgreeElsewhere, is_replaced}
use Rattle.clean_link.proofs.Common.{lost_symbols, subst, length-append, code_symbols, symbols_at, quality_indicator, quality_of, R9600}
use Rattle.clean_link.proofs.Common.{traffic_codeword, R4800, R2400, R1200, codeword_fills, codewords_same, frame_codeword, shows_full_rate}
use Rattle.clean_link.proofs.Common.{tells_all_bits, full_rate_symbols, FullRateFramesAreDistinct, binary, check_bits, frame_symbols}
use Rattle.clean_link.proofs.Common.{replaced_places, some_information, AFullRateFrameIsDistinct, ZerosAreShared}
use Rattle.symbol_path.specs.declared.kinds.Kind.TheVariants.{Data}
use Rattle.conv_code.proofs.Pairs.{AreAt}

-- what is true of all numbers below n
pub at_each : (p : ℕ → Bool) (n j : ℕ) → list_all p (places n) ≡ true → j < n → p j ≡ true
at_each p n j all below =
    let here : get_or (places n) j 0 ≡ j = get_or-places n j 0 below in
    ⊎_elim
    (λ (there : p j ≡ true). there)
    (λ (gone : p j ≡ false).
    let none = list_all_at p (places n) j 0 (omega (arith, below, length-places n))
    (ap p here ∙ gone) in
    absurd (cc))
    (cases_Bool (p j))

-- an `or` of which the last is false
before_is : (before here : Bool) → here ≡ false → (before || (here || false)) ≡ true →
    before ≡ true
before_is true here gone any = refl
before_is false true gone any = absurd (cc)
before_is false false gone any = any

-- what is true of one of them
pub at_one : (p : ℕ → Bool) (n : ℕ) → list_any p (places n) ≡ true →
    (j : ℕ) × (j < n) × (p j ≡ true)
at_one p zero any =
    let none : list_any p (places 0) ≡ false = rw places-none refl in
    absurd (cc)
at_one p (suc n) any = ⊎_elim
    (λ (here : p n ≡ true). (n, omega arith, here))
    (λ (not_here : p n ≡ false).
    let one : suc n ≡ n + 1 = omega arith in
    let before : list_any p (places n) ≡ true =
    before_is (list_any p (places n)) (p n) not_here
    (sym (list_any-append p (places n) (n ∷ []))
    ∙ ap (list_any p) (sym (places-more n))
    ∙ ap (λ (k : ℕ). list_any p (places k)) (sym one)
    ∙ any) in
    let found = at_one p n before in
    (found.0, omega (arith, found.1), found.2))
    (cases_Bool (p n))

-- ---- repeated symbols that are known

-- repeated symbol k is sent at a place that isn't replaced, where these are sent at each place
pub record IsThere (repeated : ℕ → ℕ) (replaced : List ℕ) (k : ℕ) : Type 0 where
  pub sent_as : ℕ
  pub below : sent_as < 384
  pub is : repeated sent_as ≡ k
  pub left : is_replaced replaced sent_as ≡ false

-- a replaced place loses its repeated symbol
replaced_lost : (repeated : ℕ → ℕ) (replaced : List ℕ) (i : ℕ) → is_replaced replaced i ≡ true →
    is_replaced (map repeated replaced) (repeated i) ≡ true
replaced_lost repeated [] i out = out
replaced_lost repeated (q ∷ places) i out =
    let k = repeated i in
    ⊎_elim
    (λ (here : nat_eq i q ≡ true).
    or_left (nat_eq k (repeated q)) (is_replaced (map repeated places) k)
    (eq-eqb k (repeated q) (ap repeated (eqb-true i q here))))
    (λ (following : is_replaced places i ≡ true).
    or_right (nat_eq k (repeated q)) (is_replaced (map repeated places) k)
    (replaced_lost repeated places i following))
    (or_cases (nat_eq i q) (is_replaced places i) out)

-- so the place of a kept one isn't replaced
pub kept_there : (repeated : ℕ → ℕ) (replaced : List ℕ) (k i : ℕ) → i < 384 → repeated i ≡ k →
    is_kept (map repeated replaced) k ≡ true → IsThere repeated replaced k
kept_there repeated replaced k i below is kept =
    let lost = map repeated replaced in record {
      sent_as = i;
      below = below;
      is = is;
      left = ⊎_elim
          (λ (out : is_replaced replaced i ≡ true).
          let gone : is_replaced lost k ≡ true =
          ap (is_replaced lost) (sym is) ∙ replaced_lost repeated replaced i out in
          let none = not-true (is_replaced lost k) kept in
          absurd (cc))
          (λ (left : is_replaced replaced i ≡ false). left)
          (cases_Bool (is_replaced replaced i));
    }

-- where it is kept, two frames that agree elsewhere have the same one
pub known_agree : (repeated : ℕ → ℕ) (replaced : List ℕ) (xs ys : List Bool) (r s k : ℕ) →
    IsThere repeated replaced k →
    AgreeElsewhere replaced (sent_by (λ i. repeated i / r) 384 xs)
    (sent_by (λ i. repeated i / s) 384 ys) →
    get_or xs (k / r) false ≡ get_or ys (k / s) false
known_agree repeated replaced xs ys r s k there agree =
    sym (get_or-sent_by (λ i. repeated i / r) 384 xs there.sent_as there.below
    ∙ ap (λ (n : ℕ). get_or xs (n / r) false) there.is)
    ∙ agree there.sent_as there.below there.left
    ∙ get_or-sent_by (λ i. repeated i / s) 384 ys there.sent_as there.below
    ∙ ap (λ (n : ℕ). get_or ys (n / s) false) there.is

-- as the code symbols of rate set 1 are
pub symbol_there : (replaced : List ℕ) (a : ℕ) → a < 384 → is_kept (lost_symbols replaced) a ≡ true →
    IsThere (address data_shape) replaced a
symbol_there replaced a below =
    kept_there (address data_shape) replaced a (place data_shape a) (place_lt Data a below)
    (address-place Data a below)

kept_agree : (replaced : List ℕ) (xs ys : List Bool) (r s a : ℕ) → a < 384 →
    is_kept (lost_symbols replaced) a ≡ true →
    AgreeElsewhere replaced (sent data_shape r xs) (sent data_shape s ys) →
    get_or xs (a / r) false ≡ get_or ys (a / s) false
kept_agree replaced xs ys r s a below kept =
    known_agree (address data_shape) replaced xs ys r s a (symbol_there replaced a below kept)

-- ---- sums of codewords

-- a bit of a sum is the sum of the bits
get_or_add : (x y : List Bool) (i : ℕ) → length x ≡ length y →
    get_or (add x y) i false ≡ xor (get_or x i false) (get_or y i false)
get_or_add [] [] zero h = refl
get_or_add [] [] (suc i) h = refl
get_or_add [] (y ∷ ys) i h = absurd (omega (arith, h))
get_or_add (x ∷ xs) [] i h = absurd (omega (arith, h))
get_or_add (x ∷ xs) (y ∷ ys) zero h = refl
get_or_add (x ∷ xs) (y ∷ ys) (suc i) h = get_or_add xs ys i (omega (arith, h))

-- what is true of both bits
pub either_bit : (on : Bool → Bool) (b : Bool) → on false ≡ true → on true ≡ true → on b ≡ true
either_bit on true h k = k
either_bit on false h k = h

-- four bits may be added up in either order
crossed : (a b p q : Bool) → xor (xor a b) (xor p q) ≡ xor (xor a p) (xor b q)
crossed true true true true = refl
crossed true true false true = refl
crossed true false true true = refl
crossed true false false true = refl
crossed false true true true = refl
crossed false true false true = refl
crossed a b p q = refl

-- a symbol of a sum is the sum of the symbols
pub symbol_add : (generator : List ℕ) (x y : List Bool) (j : ℕ) → length x ≡ length y →
    symbol generator (add x y) j ≡ xor (symbol generator x j) (symbol generator y j)
symbol_add [] x y j h = refl
symbol_add (back ∷ backs) x y j h =
    let a = get_or x (8 + j - back) false in
    let b = get_or y (8 + j - back) false in
    ap (λ (r : Bool). xor r (symbol backs (add x y) j)) (get_or_add x y (8 + j - back) h)
    ∙ ap (xor (xor a b)) (symbol_add backs x y j h)
    ∙ crossed a b (symbol backs x j) (symbol backs y j)

-- equal bits add up to 0
pub same_is_none : (a b : Bool) → a ≡ b → xor a b ≡ false
same_is_none true true h = refl
same_is_none true false h = cc
same_is_none false true h = cc
same_is_none false false h = refl

-- and only they do
none_is_same : (a b : Bool) → xor a b ≡ false → a ≡ b
none_is_same true true h = refl
none_is_same true false h = cc
none_is_same false true h = cc
none_is_same false false h = refl

-- lists whose sum is zeros are the same
pub same_by_sum : (a b : List Bool) (n : ℕ) → length a ≡ n → length b ≡ n →
    add a b ≡ replicate n false → a ≡ b
same_by_sum [] [] n h k sum = refl
same_by_sum [] (y ∷ ys) n h k sum = absurd (omega (arith, h, k))
same_by_sum (x ∷ xs) [] n h k sum = absurd (omega (arith, h, k))
same_by_sum (x ∷ xs) (y ∷ ys) zero h k sum = absurd (omega (arith, h))
same_by_sum (x ∷ xs) (y ∷ ys) (suc n) h k sum =
    let first : x ≡ y = none_is_same x y (ap (λ (r : List Bool). get_or r 0 false) sum) in
    let rest : xs ≡ ys =
    same_by_sum xs ys n (omega (arith, h)) (omega (arith, k)) (ap (drop 1) sum) in
    cc

-- the end of a sum is the sum of the ends
drop_add : (k : ℕ) (a b : List Bool) → length a ≡ length b →
    drop k (add a b) ≡ add (drop k a) (drop k b)
drop_add zero a b h = refl
drop_add (suc k) [] [] h = refl
drop_add (suc k) [] (y ∷ ys) h = absurd (omega (arith, h))
drop_add (suc k) (x ∷ xs) [] h = absurd (omega (arith, h))
drop_add (suc k) (x ∷ xs) (y ∷ ys) h = drop_add k xs ys (omega (arith, h))

-- the sum of two codewords of 192 bits that end in zeros ends in zeros
pub sum_ends : (a b : List Bool) → length a ≡ 192 → length b ≡ 192 →
    drop 184 a ≡ replicate 8 false → drop 184 b ≡ replicate 8 false →
    state_after (replicate 8 false) (add a b) ≡ replicate 8 false
sum_ends a b long long' ends ends' =
    let zeros = replicate 8 false in
    let sum = add a b in
    let same : length a ≡ length b = long ∙ sym long' in
    ap (λ (n : ℕ). drop n (zeros ++ sum)) (length_add a b same ∙ long)
    ∙ sym (drop-drop 184 8 (zeros ++ sum))
    ∙ ap (drop 184) (drop_at zeros sum 8 refl)
    ∙ drop_add 184 a b same
    ∙ ap (λ (r : List Bool). add r (drop 184 b)) ends
    ∙ ap (add zeros) ends'

-- ---- the code symbols of bits

-- Something holds of the pair of code symbols of each of some bits, from bit j on, after eight others.
abbrev pub HoldOfPairs : (ℕ → List Bool → Type 0) → ℕ → List Bool → List Bool → Type 0
HoldOfPairs P j eight bits = (i : ℕ) → i < length bits → P (j + i) (pair (eight ++ bits) i)

module _ (P : ℕ → List Bool → Type 0) (j : ℕ) (eight : List Bool) (bit : Bool) (bits : List Bool)
    (long : length eight ≡ 8) (hold : HoldOfPairs P j eight (bit ∷ bits)) where
  -- it holds of that of the first of them, by nine bits,
  pub pair_here : P j (pair (eight ++ bit ∷ []) 0)
  pair_here =
      let here : j + 0 ≡ j = omega arith in
      subst (P j) (before eight (bit ∷ []) bits 0 long (omega arith))
      (subst (λ (n : ℕ). P n (pair (eight ++ (bit ∷ bits)) 0)) here (hold 0 (omega arith)))

  -- and of the others
  pub pairs_next : HoldOfPairs P (j + 1) (state_after eight (bit ∷ [])) bits
  pairs_next i below =
      let place : j + (1 + i) ≡ j + 1 + i = omega arith in
      subst (P (j + 1 + i)) (following eight (bit ∷ []) bits i long)
      (subst (λ (n : ℕ). P n (pair (eight ++ (bit ∷ bits)) (1 + i))) place
      (hold (1 + i) (omega (arith, below))))

-- ---- hidden bits

-- the kept ones of two code symbols are 0
abbrev HidesPair : List ℕ → ℕ → List Bool → Type 0
HidesPair lost j two =
    (is_kept lost (2 * j) ≡ true → get_or two 0 false ≡ false)
    × (is_kept lost (2 * j + 1) ≡ true → get_or two 1 false ≡ false)

-- a symbol that is 0 if it is kept
hidden_where : (kept sent : Bool) → (kept ≡ true → sent ≡ false) → not (kept && sent) ≡ true
hidden_where true sent h = let none = h refl in rw none refl
hidden_where false sent h = refl

hidden_here : (lost : List ℕ) (j : ℕ) (nine : List Bool) → HidesPair lost j (pair nine 0) →
    is_hidden lost j nine ≡ true
hidden_here lost j nine hides =
    and_from (not (is_kept lost (2 * j) && symbol g0 nine 0))
    (not (is_kept lost (2 * j + 1) && symbol g1 nine 0))
    (hidden_where (is_kept lost (2 * j)) (symbol g0 nine 0) hides.0)
    (hidden_where (is_kept lost (2 * j + 1)) (symbol g1 nine 0) hides.1)

-- the next eight bits are eight
pub next_long : (eight : List Bool) (bit : Bool) → length eight ≡ 8 →
    length (state_after eight (bit ∷ [])) ≡ 8
next_long eight bit long = length-state_after eight (bit ∷ []) ∙ long

-- what is true of all that a test keeps
kept_or_not : {X : Type 0} (p : X → Bool) (x : X) (xs : List X) (b : Bool) →
    list_all p (if b then x ∷ xs else xs) ≡ ((not b || p x) && list_all p xs)
kept_or_not p x xs true = refl
kept_or_not p x xs false = refl

pub all_kept : {X : Type 0} (p q : X → Bool) (xs : List X) →
    list_all p (filter q xs) ≡ list_all (λ x. not (q x) || p x) xs
all_kept p q [] = refl
all_kept p q (x ∷ xs) =
    kept_or_not p x (filter q xs) (q x)
    ∙ ap (λ (b : Bool). (not (q x) || p x) && b) (all_kept p q xs)

-- of a bit that is hidden
pub left_over : (hidden apart : Bool) → (not hidden || apart) ≡ true → hidden ≡ true → apart ≡ true
left_over true apart h is = h
left_over false apart h is = cc

-- bits that stay apart, all of them hidden, don't end in zeros
apart_ends : (lost : List ℕ) (n j : ℕ) (eight bits : List Bool) → length eight ≡ 8 →
    length bits ≡ n → stays_apart lost n j eight ≡ true → HoldOfPairs (HidesPair lost) j eight bits →
    list_any (λ bit. bit) (state_after eight bits) ≡ true
unfolding stays_apart
apart_ends lost zero j eight [] long size apart are =
    ap (list_any (λ bit. bit)) (state_after-none eight) ∙ apart
apart_ends lost zero j eight (bit ∷ bits) long size apart are = absurd (omega (arith, size))
apart_ends lost (suc n) j eight [] long size apart are = absurd (omega (arith, size))
apart_ends lost (suc n) j eight (bit ∷ bits) long size apart are =
    let nine : Bool → List Bool = λ b. eight ++ b ∷ [] in
    let goes_on : List Bool → Bool = λ x. stays_apart lost n (j + 1) (drop 1 x) in
    let on : Bool → Bool = λ b. not (is_hidden lost j (nine b)) || goes_on (nine b) in
    let all : (on false && (on true && true)) ≡ true =
    sym (all_kept goes_on (is_hidden lost j) (nine false ∷ nine true ∷ [])) ∙ apart in
    let both = and_parts (on false) (on true && true) all in
    let goes : on bit ≡ true = either_bit on bit both.0 (and_parts (on true) true both.1).0 in
    let rest : stays_apart lost n (j + 1) (state_after eight (bit ∷ [])) ≡ true =
    left_over (is_hidden lost j (nine bit)) (goes_on (nine bit)) goes
    (hidden_here lost j (eight ++ bit ∷ []) (pair_here (HidesPair lost) j eight bit bits long are)) in
    ap (list_any (λ b. b)) (state_after-append eight (bit ∷ []) bits)
    ∙ apart_ends lost n (j + 1) (state_after eight (bit ∷ [])) bits (next_long eight bit long)
    (omega (arith, size)) rest (pairs_next (HidesPair lost) j eight bit bits long are)

-- so hidden bits after zeros that end in zeros are zeros
pub hidden_none : (lost : List ℕ) (j : ℕ) (bits : List Bool) → j + length bits ≡ 192 →
    ((i : ℕ) → i < 192 → is_seen lost i ≡ true) →
    HoldOfPairs (HidesPair lost) j (replicate 8 false) bits →
    state_after (replicate 8 false) bits ≡ replicate 8 false → bits ≡ replicate (length bits) false
hidden_none lost j [] all seen are ends = refl
hidden_none lost j (false ∷ bits) all seen are ends =
    let zeros = replicate 8 false in
    let rest : bits ≡ replicate (length bits) false =
    hidden_none lost (j + 1) bits (omega (arith, all)) seen
    (pairs_next (HidesPair lost) j zeros false bits refl are)
    (sym (state_after-append zeros (false ∷ []) bits) ∙ ends) in
    ap (λ (r : List Bool). false ∷ r) rest
hidden_none lost j (true ∷ bits) all seen are ends =
    let zeros = replicate 8 false in
    let one = replicate 7 false ++ true ∷ [] in
    let left : length bits ≡ 191 - j = omega (arith, all) in
    let nine = zeros ++ true ∷ [] in
    let goes_on : List Bool → Bool = λ x. stays_apart lost (191 - j) (j + 1) (drop 1 x) in
    let on : Bool = not (is_hidden lost j nine) || goes_on nine in
    let first : (on && true) ≡ true =
    sym (all_kept goes_on (is_hidden lost j) (nine ∷ [])) ∙ seen j (omega (arith, all)) in
    let apart : stays_apart lost (191 - j) (j + 1) one ≡ true =
    left_over (is_hidden lost j nine) (goes_on nine) (and_parts on true first).0
    (hidden_here lost j (zeros ++ true ∷ []) (pair_here (HidesPair lost) j zeros true bits refl are)) in
    let some : list_any (λ bit. bit) (state_after one bits) ≡ true =
    apart_ends lost (191 - j) (j + 1) one bits refl left apart
    (pairs_next (HidesPair lost) j zeros true bits refl are) in
    let none : list_any (λ bit. bit) (state_after one bits) ≡ false =
    ap (list_any (λ bit. bit)) (sym (state_after-append zeros (true ∷ []) bits) ∙ ends) in
    absurd (cc)

-- ---- the same rate

-- each code symbol is sent once
sent_once : (symbols : List Bool) (a : ℕ) → get_or symbols (a / 1) false ≡ get_or symbols a false
sent_once symbols a = let once : a / 1 ≡ a = omega arith in rw once refl

-- a kept symbol is the same
kept_same : (replaced : List ℕ) (xs ys : List Bool) (a : ℕ) → a < 384 →
    is_kept (lost_symbols replaced) a ≡ true →
    AgreeElsewhere replaced (sent data_shape 1 xs) (sent data_shape 1 ys) →
    get_or xs a false ≡ get_or ys a false
kept_same replaced xs ys a below kept agree =
    sym (sent_once xs a) ∙ kept_agree replaced xs ys 1 1 a below kept agree ∙ sent_once ys a

-- so a symbol of the sum is 0 there
sum_is_none : (generator : List ℕ) (x y : List Bool) (j : ℕ) → length x ≡ length y →
    symbol generator x j ≡ symbol generator y j → symbol generator (add x y) j ≡ false
sum_is_none generator x y j long same =
    symbol_add generator x y j long ∙
    same_is_none (symbol generator x j) (symbol generator y j) same

-- the sum of two codewords that agree elsewhere is hidden
sum_hidden : (replaced : List ℕ) (bits bits' : List Bool) → length bits ≡ 192 →
    length bits' ≡ 192 →
    AgreeElsewhere replaced (sent data_shape 1 (code_symbols (replicate 8 false) bits))
    (sent data_shape 1 (code_symbols (replicate 8 false) bits')) →
    HoldOfPairs (HidesPair (lost_symbols replaced)) 0 (replicate 8 false) (add bits bits')
sum_hidden replaced bits bits' long long' agree =
    let zeros = replicate 8 false in
    let x = zeros ++ bits in
    let y = zeros ++ bits' in
    let xs = code_symbols zeros bits in
    let ys = code_symbols zeros bits' in
    let sum = add bits bits' in
    let size : length sum ≡ 192 = length_add bits bits' (long ∙ sym long') ∙ long in
    let both : length x ≡ length y =
    omega (arith, length-append zeros bits, length-append zeros bits', long, long') in
    let at_x : (i : ℕ) → i < length sum → AreAt xs i (symbol g0 x i) (symbol g1 x i) =
    λ i below. symbols_at zeros bits i (omega (arith, below, size, long)) in
    let at_y : (i : ℕ) → i < length sum → AreAt ys i (symbol g0 y i) (symbol g1 y i) =
    λ i below. symbols_at zeros bits' i (omega (arith, below, size, long')) in
    λ i below.
    let here : 0 + i ≡ i = omega arith in (
      λ kept.
          let same = kept_same replaced xs ys (2 * i) (omega (arith, below, size)) (rw here at kept) agree in
          sum_is_none g0 x y i both (sym (at_x i below).even ∙ same ∙ (at_y i below).even),
      λ kept.
          let same = kept_same replaced xs ys (2 * i + 1) (omega (arith, below, size)) (rw here at kept) agree in
          sum_is_none g1 x y i both (sym (at_x i below).odd ∙ same ∙ (at_y i below).odd),
    )

-- so two such codewords are the same
bits_agree : (replaced : List ℕ) (bits bits' : List Bool) → length bits ≡ 192 →
    length bits' ≡ 192 → drop 184 bits ≡ replicate 8 false → drop 184 bits' ≡ replicate 8 false →
    tells_all_bits (lost_symbols replaced) ≡ true →
    AgreeElsewhere replaced (sent data_shape 1 (code_symbols (replicate 8 false) bits))
    (sent data_shape 1 (code_symbols (replicate 8 false) bits')) →
    bits ≡ bits'
bits_agree replaced bits bits' long long' ends ends' tells agree =
    let sum = add bits bits' in
    let size : length sum ≡ 192 = length_add bits bits' (long ∙ sym long') ∙ long in
    let none : sum ≡ replicate (length sum) false =
    hidden_none (lost_symbols replaced) 0 sum (omega (arith, size))
    (λ i below. at_each (is_seen (lost_symbols replaced)) 192 i tells below)
    (sum_hidden replaced bits bits' long long' agree) (sum_ends bits bits' long long' ends ends') in
    same_by_sum bits bits' 192 long long' (none ∙ ap (λ (n : ℕ). replicate n false) size)

-- a frame's bits end in eight zeros
codeword_ends : (information : List Bool) → length (traffic_codeword R9600 information) ≡ 192 →
    drop 184 (traffic_codeword R9600 information) ≡ replicate 8 false
codeword_ends information size =
    let front = information ++ quality_indicator (quality_of R9600) information in
    drop_at front (replicate 8 false) 184
    (omega (arith, size, length-append front (replicate 8 false)))

-- ---- the other rates

-- bits whose sum is 1 aren't equal
differ : (a b : Bool) → xor a b ≡ true → a ≡ b → ⊥
differ a b h same = let none = same_is_none a b same in absurd (cc)

-- two code symbols that differ aren't sent as one
not_one : (replaced : List ℕ) (xs ys : List Bool) (r j : ℕ) → 2 * j / r ≡ (2 * j + 1) / r →
    j < 192 → is_kept (lost_symbols replaced) (2 * j) ≡ true →
    is_kept (lost_symbols replaced) (2 * j + 1) ≡ true →
    xor (get_or xs (2 * j) false) (get_or xs (2 * j + 1) false) ≡ true →
    AgreeElsewhere replaced (sent data_shape 1 xs) (sent data_shape r ys) → ⊥
not_one replaced xs ys r j one lt first second apart agree =
    let even = kept_agree replaced xs ys 1 r (2 * j) (omega (arith, lt)) first agree in
    let odd = kept_agree replaced xs ys 1 r (2 * j + 1) (omega (arith, lt)) second agree in
    differ (get_or xs (2 * j) false) (get_or xs (2 * j + 1) false) apart
    (sym (sent_once xs (2 * j)) ∙ even ∙ ap (λ (n : ℕ). get_or ys n false) one ∙ sym odd ∙
    sent_once xs (2 * j + 1))

-- so no codeword of a lower rate has the symbols
no_lower : (replaced : List ℕ) (xs ys : List Bool) (r : ℕ) →
    ((j : ℕ) → 2 * j / r ≡ (2 * j + 1) / r) →
    shows_full_rate (lost_symbols replaced) xs ≡ true →
    AgreeElsewhere replaced (sent data_shape 1 xs) (sent data_shape r ys) → ⊥
no_lower replaced xs ys r one shows agree =
    let lost = lost_symbols replaced in
    let kept : ℕ → Bool = λ j. is_kept lost (2 * j) && is_kept lost (2 * j + 1) in
    let apart : ℕ → Bool =
    λ j. xor (get_or xs (2 * j) false) (get_or xs (2 * j + 1) false) in
    let found = at_one (λ j. kept j && apart j) 192 shows in
    let j = found.0 in
    let both = and_parts (kept j) (apart j) found.2 in
    let each = and_parts (is_kept lost (2 * j)) (is_kept lost (2 * j + 1)) both.0 in
    not_one replaced xs ys r j (one j) found.1 each.0 each.1 both.1 agree

-- ---- all rates

-- a codeword of any rate that agrees elsewhere is the frame's
pub full_rate_distinct : FullRateFramesAreDistinct
full_rate_distinct replaced information long tells shows R9600 v allowed agree =
    let bits = traffic_codeword R9600 information in
    let size : length bits ≡ 192 = omega (arith, codeword_fills R9600 information long) in
    let same_start : AgreeElsewhere replaced (sent data_shape 1 (full_rate_symbols information))
    (sent data_shape 1 (code_symbols (replicate 8 false) v.bits)) =
    subst (λ (s : List Bool). AgreeElsewhere replaced
    (sent data_shape 1 (full_rate_symbols information))
    (sent data_shape 1 (code_symbols s v.bits))) allowed.begins agree in
    let ends : drop 184 v.bits ≡ replicate 8 false =
    ap (λ (n : ℕ). drop (n - 8) v.bits) (sym allowed.bits_long) ∙ allowed.closes in
    let same = bits_agree replaced bits v.bits size allowed.bits_long (codeword_ends information size)
    ends tells same_start in
    (refl, codewords_same v (frame_codeword R9600 information) allowed.begins (sym same))
full_rate_distinct replaced information long tells shows R4800 v allowed agree =
    absurd (no_lower replaced (full_rate_symbols information) (code_symbols v.start v.bits) 2
    (λ j. omega arith) shows agree)
full_rate_distinct replaced information long tells shows R2400 v allowed agree =
    absurd (no_lower replaced (full_rate_symbols information) (code_symbols v.start v.bits) 4
    (λ j. omega arith) shows agree)
full_rate_distinct replaced information long tells shows R1200 v allowed agree =
    absurd (no_lower replaced (full_rate_symbols information) (code_symbols v.start v.bits) 8
    (λ j. omega arith) shows agree)

-- ---- a frame that is distinct

-- it has 172 information bits
sized : length some_information ≡ 172
unfolding binary
sized = refl

-- the code symbols that are sent at the replaced places
abbrev lost : List ℕ
lost =
    288 ∷ 352 ∷ 232 ∷ 296 ∷ 36 ∷ 100 ∷ 204 ∷ 268 ∷ 354 ∷ 18 ∷ 106 ∷ 170 ∷ 230 ∷ 294 ∷ 222
    ∷ 286 ∷ 33 ∷ 97 ∷ 169 ∷ 233 ∷ 149 ∷ 213 ∷ 29 ∷ 93 ∷ 35 ∷ 99 ∷ 219 ∷ 283 ∷ 295 ∷ 359 ∷ 175
    ∷ 239 ∷ []

lost_is : lost_symbols replaced_places ≡ lost
unfolding binary
lost_is = refl

-- no two codewords have the same code symbols but for those
lost_tells_all_bits : tells_all_bits lost ≡ true
unfolding places stays_apart
lost_tells_all_bits = refl

-- and two kept code symbols of one bit differ
shown : shows_full_rate lost (full_rate_symbols some_information) ≡ true
unfolding binary places check_bits
shown = refl

-- so it is distinct
pub full_rate_frame_distinct : AFullRateFrameIsDistinct
full_rate_frame_distinct =
    full_rate_distinct replaced_places some_information sized
    (ap tells_all_bits lost_is ∙ lost_tells_all_bits)
    (ap (λ (symbols : List ℕ). shows_full_rate symbols (full_rate_symbols some_information)) lost_is
    ∙ shown)

-- ---- frames of zeros

-- all symbols are 0 at both rates
zeros_same : frame_symbols R2400 (frame_codeword R2400 (replicate 40 false))
    ≡ frame_symbols R1200 (frame_codeword R1200 (replicate 16 false))
unfolding binary places sent_by
zeros_same = refl

-- and both are codewords that a decoder tries, so each has the other's symbols
pub zeros_shared : ZerosAreShared
zeros_shared replaced = (
  λ unshared.
      let found = unshared R1200 (frame_codeword R1200 (replicate 16 false))
      (record { start_long = refl; bits_long = refl; begins = refl; closes = refl })
      (λ i below out. ap (λ (r : List Bool). get_or r i false) zeros_same) in
      let same = found.0 in
      cc,
  λ unshared.
      let found = unshared R2400 (frame_codeword R2400 (replicate 40 false))
      (record { start_long = refl; bits_long = refl; begins = refl; closes = refl })
      (λ i below out. ap (λ (r : List Bool). get_or r i false) (sym zeros_same)) in
      let same = found.0 in
      cc,
)

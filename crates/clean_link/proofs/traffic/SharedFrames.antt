-- Frames of both rate sets are distinct where no other codeword shares their symbols.
use Rattle.clean_link.proofs.Common.{◌≡◌, ℕ, ◌+◌, ◌-◌, ◌*◌, ◌/◌, ◌<◌, ◌≤◌, ◌⊎◌, Bool, true, false, not, List, [], ◌∷◌, ◌++◌, length, get_or}
use Rattle.clean_link.proofs.Common.{drop, replicate, refl, sym, ap, ◌∙◌, arith, subst, inl, inr, ◌≢◌, list_any, and_parts, not-true, Rate}
use Rattle.clean_link.proofs.Common.{drop_at, drop-drop, code_symbols, state_after, repeats_of, traffic_codeword, R9600, R4800, R2400, Zero}
use Rattle.clean_link.proofs.Common.{R1200, address, data_shape, sent_by, codeword_bits, is_dropped, repeated_symbol, Rate2, R14400, R7200}
use Rattle.clean_link.proofs.Common.{R3600, R1800, kept_once, IsAllowed, Codeword, codewords_same, frame_codeword, AgreeElsewhere, is_kept}
use Rattle.clean_link.proofs.Common.{frame_bits, lost_symbols, is_known2, lost_symbols2, symbols_known_of, codewords_giving, bits_least, g0}
use Rattle.clean_link.proofs.Common.{AreDistinctBySharing, AreDistinctBySharing2, zero, suc, ◌&&◌, ◌||◌, map, filter, if◌then◌else◌, beq}
use Rattle.clean_link.proofs.Common.{flat_map, list_all, range_with_len, booleans_Decides, pointwise, pointwise_decides, and_from, g1}
use Rattle.clean_link.proofs.Common.{list_all-append, list_all-map, symbol, state_after-append, state_after-none, symbols_at, gives}
use Rattle.clean_link.proofs.traffic.HiddenCodewords.{HoldOfPairs, IsThere, kept_there, known_agree, symbol_there, all_kept, either_bit}
use Rattle.clean_link.proofs.traffic.HiddenCodewords.{left_over, next_long, pair_here, pairs_next}
use Rattle.symbol_path.specs.RatesTwo as rates_two
use Rattle.rate_set_two.specs.TrafficFrames as frames_two

-- ---- codewords that give what is shown

-- two code symbols give what is shown of them
abbrev GivesPair : (ℕ → List Bool) → ℕ → List Bool → Type 0
GivesPair shown j two =
    (list_all (beq (get_or two 0 false)) (shown (2 * j)) ≡ true)
    × (list_all (beq (get_or two 1 false)) (shown (2 * j + 1)) ≡ true)

-- bits after eight others, from bit j on, that give what is shown of their code symbols
abbrev AreGiving : (ℕ → List Bool) → ℕ → List Bool → List Bool → Type 0
AreGiving shown = HoldOfPairs (GivesPair shown)

-- what is true of all elements of joined lists
all_joined : {X Y : Type 0} (p : Y → Bool) (f : X → List Y) (xs : List X) →
    list_all p (flat_map f xs) ≡ list_all (λ x. list_all p (f x)) xs
all_joined p f [] = refl
all_joined p f (x ∷ xs) =
    list_all-append p (f x) (flat_map f xs)
    ∙ ap (λ (b : Bool). list_all p (f x) && b) (all_joined p f xs)

-- the last of nine bits
ninth : (eight : List Bool) (bit : Bool) → length eight ≡ 8 → get_or (eight ++ bit ∷ []) 8 false ≡ bit
ninth eight bit long =
    ap (λ (n : ℕ). get_or (eight ++ bit ∷ []) n false) (sym long) ∙ appended_bit eight bit
  where
    appended_bit : (xs : List Bool) (b : Bool) → get_or (xs ++ b ∷ []) (length xs) false ≡ b
    appended_bit [] b = refl
    appended_bit (x ∷ xs) b = appended_bit xs b

ended : (p : List Bool → Bool) (some : Bool) → some ≡ false →
    list_all p (if some then [] else [] ∷ []) ≡ true → p [] ≡ true
ended p true none all = cc
ended p false none all = (and_parts (p []) true all).0

-- what is true of all codewords that give what is shown is true of such bits
given_all : (shown : ℕ → List Bool) (p : List Bool → Bool) (n j : ℕ) (eight bits : List Bool) →
    length eight ≡ 8 → length bits ≡ n → list_any (λ bit. bit) (state_after eight bits) ≡ false →
    AreGiving shown j eight bits → list_all p (codewords_giving shown n j eight) ≡ true → p bits ≡ true
unfolding codewords_giving
given_all shown p zero j eight [] long size ends are all =
    ended p (list_any (λ bit. bit) eight) (ap (list_any (λ bit. bit)) (sym (state_after-none eight)) ∙ ends) all
given_all shown p zero j eight (bit ∷ bits) long size ends are all = absurd (omega (arith, size))
given_all shown p (suc n) j eight [] long size ends are all = absurd (omega (arith, size))
given_all shown p (suc n) j eight (bit ∷ bits) long size ends are all =
    let nine : Bool → List Bool = λ b. eight ++ b ∷ [] in
    let rest : List Bool → List (List Bool) = λ x. codewords_giving shown n (j + 1) (drop 1 x) in
    let put : List Bool → List Bool → List Bool = λ x codeword. get_or x 8 false ∷ codeword in
    let of_nine : List Bool → Bool = λ x. list_all p (map (put x) (rest x)) in
    let on : Bool → Bool = λ b. not (gives shown j (nine b)) || of_nine (nine b) in
    let each : (on false && (on true && true)) ≡ true =
    sym (all_kept of_nine (gives shown j) (nine false ∷ nine true ∷ []))
    ∙ sym (all_joined p (λ (x : List Bool). map (put x) (rest x))
    (filter (gives shown j) (nine false ∷ nine true ∷ []))) ∙ all in
    let both = and_parts (on false) (on true && true) each in
    let here_gives = pair_here (GivesPair shown) j eight bit bits long are in
    let here : of_nine (nine bit) ≡ true =
    left_over (gives shown j (nine bit)) (of_nine (nine bit))
    (either_bit on bit both.0 (and_parts (on true) true both.1).0)
    (and_from (list_all (beq (symbol g0 (nine bit) 0)) (shown (2 * j)))
    (list_all (beq (symbol g1 (nine bit) 0)) (shown (2 * j + 1))) here_gives.0 here_gives.1) in
    let after_it : list_all (λ codeword. p (put (nine bit) codeword)) (rest (nine bit)) ≡ true =
    sym (list_all-map p (put (nine bit)) (rest (nine bit))) ∙ here in
    sym (ap (λ (b : Bool). p (b ∷ bits)) (ninth eight bit long))
    ∙ given_all shown (λ codeword. p (put (nine bit) codeword)) n (j + 1) (state_after eight (bit ∷ [])) bits
    (next_long eight bit long) (omega (arith, size))
    (ap (list_any (λ b. b)) (sym (state_after-append eight (bit ∷ []) bits)) ∙ ends)
    (pairs_next (GivesPair shown) j eight bit bits long are) after_it

-- so where there is one codeword, they are that one,
pub given_one : (shown : ℕ → List Bool) (n j : ℕ) (eight bits codeword : List Bool) →
    length eight ≡ 8 → length bits ≡ n → list_any (λ bit. bit) (state_after eight bits) ≡ false →
    AreGiving shown j eight bits → codewords_giving shown n j eight ≡ codeword ∷ [] → codeword ≡ bits
given_one shown n j eight bits codeword long size ends are only =
    let same = pointwise_decides booleans_Decides codeword codeword in
    let own : list_all (pointwise beq codeword) (codeword ∷ []) ≡ true =
    and_from (pointwise beq codeword codeword) true (same.1 refl) refl in
    (pointwise_decides booleans_Decides codeword bits).0
    (given_all shown (pointwise beq codeword) n j eight bits long size ends are
    (ap (list_all (pointwise beq codeword)) only ∙ own))

-- and where there is none, there are none
pub given_none : (shown : ℕ → List Bool) (n j : ℕ) (eight bits : List Bool) →
    length eight ≡ 8 → length bits ≡ n → list_any (λ bit. bit) (state_after eight bits) ≡ false →
    AreGiving shown j eight bits → codewords_giving shown n j eight ≡ [] → ⊥
given_none shown n j eight bits long size ends are none =
    let never : false ≡ true =
    given_all shown (λ codeword. false) n j eight bits long size ends are
    (ap (list_all (λ (codeword : List Bool). false)) none ∙ refl) in
    absurd (cc)

-- ---- what is shown

kept_all : (p : Bool) (q : ℕ → Bool) (x : ℕ) (f : ℕ → Bool) (y : Bool) (xs : List ℕ) →
    (p ≡ true → f x ≡ y) → list_all (beq y) (map f xs) ≡ true →
    list_all (beq y) (map f (if p then x ∷ xs else xs)) ≡ true
kept_all true q x f y xs here rest =
    and_from (beq y (f x)) (list_all (beq y) (map f xs)) ((booleans_Decides y (f x)).1 (sym (here refl))) rest
kept_all false q x f y xs here rest = rest

-- a bit that each known one of n repeated symbols shows
all_show : (known : ℕ → Bool) (f : ℕ → Bool) (y : Bool) (a n : ℕ) →
    ((k : ℕ) → a ≤ k → k < a + n → known k ≡ true → f k ≡ y) →
    list_all (beq y) (map f (filter known (range_with_len a n))) ≡ true
all_show known f y a zero each = refl
all_show known f y a (suc n) each =
    kept_all (known a) known a f y (filter known (range_with_len (a + 1) n))
    (λ is. each a (omega arith) (omega arith) is)
    (all_show known f y (a + 1) n (λ k low high is. each k (omega (arith, low)) (omega (arith, high)) is))

-- The code symbols of bits that agree with a frame's, wherever a repeated symbol is known, give
-- what these show.
pub agreeing_give : (known : ℕ → Bool) (xs : List Bool) (r s n all : ℕ) (bits : List Bool) → length bits ≡ n →
    ((c k : ℕ) → c < 2 * n → s * c ≤ k → k < s * c + s → (k < all) × (k / s ≡ c)) →
    ((k : ℕ) → k < all → known k ≡ true →
    get_or xs (k / r) false ≡ get_or (code_symbols (replicate 8 false) bits) (k / s) false) →
    AreGiving (λ c. map (λ k. get_or xs (k / r) false) (filter known (range_with_len (s * c) s))) 0
    (replicate 8 false) bits
agreeing_give known xs r s n all bits size copies agree =
    let zeros = replicate 8 false in
    let ys = code_symbols zeros bits in
    let f : ℕ → Bool = λ k. get_or xs (k / r) false in
    let shows : (c : ℕ) → c < 2 * n →
    list_all (beq (get_or ys c false)) (map f (filter known (range_with_len (s * c) s))) ≡ true =
    λ c low. all_show known f (get_or ys c false) (s * c) s
    (λ k least most is.
    let copy = copies c k low least most in
    agree k copy.0 is ∙ ap (λ (j : ℕ). get_or ys j false) copy.1) in
    λ i below.
    let at = symbols_at zeros bits i below in
    let shown_at : (b : Bool) (c d : ℕ) → get_or ys c false ≡ b → d ≡ c → c < 2 * n →
    list_all (beq b) (map f (filter known (range_with_len (s * d) s))) ≡ true = λ b c d is place low.
    ap (λ (x : Bool). list_all (beq x) (map f (filter known (range_with_len (s * d) s)))) (sym is)
    ∙ ap (λ (m : ℕ). list_all (beq (get_or ys c false)) (map f (filter known (range_with_len (s * m) s)))) place
    ∙ shows c low in (
      shown_at _ (2 * i) _ at.even (omega arith) (omega (arith, below, size)),
      shown_at _ (2 * i + 1) _ at.odd (omega arith) (omega (arith, below, size)),
    )

-- ---- codewords that end in zeros

-- the state after such a codeword, of eight bits or more
ended_zeros : (bits : List Bool) → 8 ≤ length bits → drop (length bits - 8) bits ≡ replicate 8 false →
    list_any (λ bit. bit) (state_after (replicate 8 false) bits) ≡ false
ended_zeros bits long ends =
    let zeros = replicate 8 false in
    let place : length bits ≡ 8 + (length bits - 8) = omega (arith, long) in
    ap (list_any (λ bit. bit))
    (ap (λ (n : ℕ). drop n (zeros ++ bits)) place
    ∙ sym (drop-drop (length bits - 8) 8 (zeros ++ bits))
    ∙ ap (drop (length bits - 8)) (drop_at zeros bits 8 refl)
    ∙ ends)

-- so that of an allowed one
closed : (n : ℕ) (v : Codeword) → 8 ≤ n → IsAllowed Zero n v →
    list_any (λ bit. bit) (state_after (replicate 8 false) v.bits) ≡ false
closed n v enough allowed =
    let long = allowed.bits_long in
    ended_zeros v.bits (omega (arith, long, enough)) allowed.closes

-- ---- frames of any rate set

-- Rates by how often their frames repeat each code symbol, and by their number of bits. There are
-- `all` repeated symbols, of which each known one is sent at a place that isn't replaced.
module _ {R : Type 0} (repeats size : R → ℕ) (all : ℕ)
    (copies : (r : R) (c k : ℕ) → c < 2 * size r → repeats r * c ≤ k →
    k < repeats r * c + repeats r → (k < all) × (k / repeats r ≡ c))
    (same : (r s : R) → (r ≡ s) ⊎ (r ≢ s)) (enough : (r : R) → 8 ≤ size r)
    (repeated : ℕ → ℕ) (known : ℕ → Bool) (replaced : List ℕ)
    (there : (k : ℕ) → k < all → known k ≡ true → IsThere repeated replaced k) where
  abbrev sent_at : R → List Bool → List Bool
  sent_at r xs = sent_by (λ i. repeated i / repeats r) 384 xs

  abbrev shown_to : R → List Bool → R → ℕ → List Bool
  shown_to rate bits r = symbols_known_of known (code_symbols (replicate 8 false) bits) (repeats rate) (repeats r)

  -- Where only a frame's own codeword gives what it shows, no other allowed codeword shares its symbols.
  one_shares : (rate r : R) (bits : List Bool) (v own : Codeword) →
      codewords_giving (shown_to rate bits rate) (size rate) 0 (replicate 8 false) ≡ bits ∷ [] →
      ((q : R) → q ≢ rate →
      codewords_giving (shown_to rate bits q) (size q) 0 (replicate 8 false) ≡ []) →
      IsAllowed Zero (size r) v → AgreeElsewhere replaced (sent_at rate (code_symbols (replicate 8 false) bits))
      (sent_at r (code_symbols v.start v.bits)) → (bits ≡ v.bits → v ≡ own) → (r ≡ rate) × (v ≡ own)
  one_shares rate r bits v own alone others allowed agree is =
      let xs = code_symbols (replicate 8 false) bits in
      let from_zeros : AgreeElsewhere replaced (sent_at rate xs)
      (sent_at r (code_symbols (replicate 8 false) v.bits)) =
      subst (λ (s : List Bool). AgreeElsewhere replaced (sent_at rate xs)
      (sent_at r (code_symbols s v.bits))) allowed.begins agree in
      let zeros = replicate 8 false in
      let giving = agreeing_give known xs (repeats rate) (repeats r) (size r) all v.bits allowed.bits_long (copies r)
      (λ k low kept. known_agree repeated replaced xs (code_symbols zeros v.bits)
      (repeats rate) (repeats r) k (there k low kept) from_zeros) in
      let ends = closed (size r) v (enough r) allowed in
      elim (same r rate) [
        | inl one ↦ (
          one,
          is (given_one (shown_to rate bits r) (size r) 0 zeros v.bits bits refl allowed.bits_long ends giving
              (subst (λ (q : R). codewords_giving (shown_to rate bits q) (size q) 0 zeros ≡ bits ∷ []) (sym one)
              alone)),
        )
        | inr other ↦
            absurd (given_none (shown_to rate bits r) (size r) 0 zeros v.bits refl allowed.bits_long ends giving
            (others r other))
      ]

-- ---- rate set 1

-- the repeated symbols of a code symbol
copies_of : (rate : Rate) (c k : ℕ) → c < 2 * frame_bits rate → repeats_of rate * c ≤ k →
    k < repeats_of rate * c + repeats_of rate → (k < 384) × (k / repeats_of rate ≡ c)
copies_of R9600 c k low least most = (omega (arith, low, least, most), omega (arith, least, most))
copies_of rate c k low least most = (omega (arith, low, least, most), omega (arith, least, most))

-- whether two rates are one
same_rate : (r s : Rate) → (r ≡ s) ⊎ (r ≢ s)
same_rate R9600 R9600 = inl refl
same_rate R4800 R4800 = inl refl
same_rate R2400 R2400 = inl refl
same_rate R1200 R1200 = inl refl
same_rate r s = inr (λ e. cc)

pub distinct_by_sharing : AreDistinctBySharing
distinct_by_sharing replaced rate information none r v allowed agree =
    one_shares repeats_of frame_bits 384 copies_of same_rate bits_least (address data_shape)
    (is_kept (lost_symbols replaced)) replaced (symbol_there replaced) rate r
    (traffic_codeword rate information) v (frame_codeword rate information) none.own none.others
    allowed agree (λ same. codewords_same v (frame_codeword rate information) allowed.begins (sym same))

-- ---- rate set 2

copies_of2 : (rate : Rate2) (c k : ℕ) → c < 2 * rates_two.frame_bits2 rate →
    rates_two.repeats_of2 rate * c ≤ k → k < rates_two.repeats_of2 rate * c + rates_two.repeats_of2 rate →
    (k < 576) × (k / rates_two.repeats_of2 rate ≡ c)
copies_of2 R14400 c k low least most = (omega (arith, low, least, most), omega (arith, least, most))
copies_of2 rate c k low least most = (omega (arith, low, least, most), omega (arith, least, most))

enough_bits2 : (rate : Rate2) → 8 ≤ rates_two.frame_bits2 rate
enough_bits2 R14400 = omega arith
enough_bits2 rate = omega arith

same_rate2 : (r s : Rate2) → (r ≡ s) ⊎ (r ≢ s)
same_rate2 R14400 R14400 = inl refl
same_rate2 R7200 R7200 = inl refl
same_rate2 R3600 R3600 = inl refl
same_rate2 R1800 R1800 = inl refl
same_rate2 r s = inr (λ e. cc)

-- a repeated symbol that is known is sent
known_there2 : (replaced : List ℕ) (k : ℕ) → k < 576 → is_known2 (lost_symbols2 replaced) k ≡ true →
    IsThere repeated_symbol replaced k
known_there2 replaced k low known =
    let both = and_parts (not (is_dropped k)) (is_kept (lost_symbols2 replaced) k) known in
    let once = kept_once k low (not-true (is_dropped k) both.0) in
    kept_there repeated_symbol replaced k once.sent_as once.below once.is both.1

pub distinct_by_sharing2 : AreDistinctBySharing2
distinct_by_sharing2 replaced rate information none r v allowed agree =
    let own = frames_two.frame_codeword2 rate information in
    one_shares rates_two.repeats_of2 rates_two.frame_bits2 576 copies_of2 same_rate2 enough_bits2
    repeated_symbol (is_known2 (lost_symbols2 replaced)) replaced (known_there2 replaced) rate r
    (codeword_bits rate information) v own none.own none.others allowed agree
    (λ same. codewords_same v own allowed.begins (sym same))

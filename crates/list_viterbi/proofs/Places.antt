-- The first places of the definition.
use Rattle.list_viterbi.proofs.Common.{◌≡◌, ℕ, zero, suc, ◌+◌, ◌*◌, ◌<◌, ◌≤◌, Bool, true, false, List, [], ◌∷◌, ◌++◌, length, map, get_or}
use Rattle.list_viterbi.proofs.Common.{refl, sym, ap, subst, ◌∙◌, arith, ℤ, ◌<ℤ◌, ◌⊎◌, ⊎_elim, inl, inr, nat_eq, length-append, min, eqb}
use Rattle.list_viterbi.proofs.Common.{nat_lt, if◌then◌else◌, All, AllPairs, Contains, list_any, IsDistinct, ints, by_lt_z, cases_order}
use Rattle.list_viterbi.proofs.Common.{cases_lt, nat_tests, All-nil, All-push, All-map, All-tail, All-head, All-contains, all_pairs_push}
use Rattle.list_viterbi.proofs.Common.{AllPairs-cons, length-le_from_distinct_below, IsDistinct-from_apart, Contains-from_any, get_or-map}
use Rattle.list_viterbi.proofs.Common.{length-map, first_places, greatest_unless, Codeword, score_of, IsBetter, codeword_at, codeword_count}
use Rattle.list_viterbi.proofs.Common.{IsAllowed, Ends, Zero, Free, AreFirst, first_codewords, codeword_at_allowed, step_of, false≢true}
use Rattle.list_viterbi.proofs.Common.{rank-codeword_at, allowed_at, IsGreatestUnless, AllTaken, scanned, nat_lt-true}
use Rattle.list_viterbi.proofs.Firsts.{one_list}

-- a greater value, or the same and a lesser place
abbrev pub IsBefore : (ℕ → ℤ) → ℕ → ℕ → Type 0
IsBefore f i j = (f j <ℤ f i) ⊎ ((f j ≡ f i) × (i < j))

pub record ArePlaces (f : ℕ → ℤ) (n k : ℕ) (ps : List ℕ) : Type 0 where
  pub long : length ps ≡ min k n
  pub below : All (λ i. i < n) ps
  pub order : AllPairs (IsBefore f) ps
  pub rest : (i : ℕ) → i < n → list_any (nat_eq i) ps ≡ false → All (λ j. IsBefore f j i) ps

-- HOW MANY ARE TAKEN
abbrev below_count : ℕ → List ℕ → ℕ
below_count n [] = 0
below_count n (p ∷ ps) = (if nat_lt p n then 1 else 0) + below_count n ps

one_grows : (n p : ℕ) → (if nat_lt p n then 1 else 0) ≤ (if nat_lt p (suc n) then 1 else 0)
one_grows n p = grind (arith, nat_tests)

one_more : (n p : ℕ) → nat_eq n p ≡ true → (if nat_lt p n then 1 else 0) + 1 ≤ (if nat_lt p (suc n) then 1 else 0)
one_more n p e = grind (arith, nat_tests, e)

count_grows : (n : ℕ) (ps : List ℕ) → below_count n ps ≤ below_count (suc n) ps
count_grows n [] = omega arith
count_grows n (p ∷ ps) = let one = one_grows n p in let rest = count_grows n ps in
    omega (arith, one, rest)

count_more : (n : ℕ) (ps : List ℕ) → list_any (nat_eq n) ps ≡ true → below_count n ps + 1 ≤ below_count (suc n) ps
count_more n [] e = absurd (false≢true e)
count_more n (p ∷ ps) e = by_test (nat_eq n p) refl (count_more n ps) where
  by_test : (t : Bool) → nat_eq n p ≡ t →
      (list_any (nat_eq n) ps ≡ true → below_count n ps + 1 ≤ below_count (suc n) ps) →
      below_count n (p ∷ ps) + 1 ≤ below_count (suc n) (p ∷ ps)
  by_test true is rest = let one = one_more n p is in let grows = count_grows n ps in
      omega (arith, one, grows)
  by_test false is rest = let one = one_grows n p in let more = rest (rw is at e) in
      omega (arith, one, more)

count_all : (n : ℕ) (ps : List ℕ) → ((i : ℕ) → i < n → list_any (nat_eq i) ps ≡ true) → n ≤ below_count n ps
count_all zero ps all = omega arith
count_all (suc n) ps all =
    let before = count_all n ps (λ i h. all i (omega (arith, h))) in
    let more = count_more n ps (all n (omega arith)) in omega (arith, before, more)

count_most : (n : ℕ) (ps : List ℕ) → below_count n ps ≤ length ps
count_most n [] = omega arith
count_most n (p ∷ ps) = let rest = count_most n ps in let one : (if nat_lt p n then 1 else 0) ≤ 1 =
    grind (arith, nat_tests) in omega (arith, rest, one)

-- fewer places than n leave one free
some_free : (ps : List ℕ) (n : ℕ) → length ps < n → AllTaken ps n → ⊥
some_free ps n few all = let c = count_all n ps all.all in let m = count_most n ps in
    omega (arith, few, c, m)

apart : (f : ℕ → ℤ) (a b : ℕ) → IsBefore f a b → eqb a b ≡ false
apart f a b h = by_test (eqb a b) refl where
  less_self : (x y : ℤ) → x ≡ y → y <ℤ x → ⊥
  less_self x y e h = omega (arith, ints, e, h)

  by_test : (t : Bool) → eqb a b ≡ t → eqb a b ≡ false
  by_test false e = e
  by_test true e =
      let same : a ≡ b = grind (arith, nat_tests, e) in
      absurd (⊎_elim (λ less. less_self (f a) (f b) (ap f same) less) (λ tie. let r = tie.1 in
      omega (arith, r, same)) h)

-- Where n places or more are taken, no number below n is free: with a free one after them they
-- would be more than n distinct numbers below n, since each is before the ones that follow it.
none_free : (f : ℕ → ℤ) (n k : ℕ) (ps : List ℕ) → ArePlaces f n k ps → n ≤ length ps → (i : ℕ) →
    i < n → list_any (nat_eq i) ps ≡ false → ⊥
none_free f n k ps h full i within free =
    let more = ps ++ i ∷ [] in
    let order : AllPairs (IsBefore f) more =
    all_pairs_push (IsBefore f) ps i h.order (λ j d b. h.rest i within free j d b) in
    let distinct : IsDistinct eqb more =
    IsDistinct-from_apart eqb more (λ a b d less bound. apart f _ _ (order a b d less bound)) in
    let all : All (λ j. j < n) more = All-push (λ j. j < n) ps i h.below within in
    let most = length-le_from_distinct_below more n distinct
    (λ q e. All-contains (λ j. j < n) more q all
    (Contains-from_any {eq = nat_eq} (λ x y t. grind (arith, nat_tests, t)) q more e)) in
    let size = length-append ps (i ∷ []) in
    omega (arith, most, size, full)

-- ONE PLACE MORE
free_parts : (i b : ℕ) (ps : List ℕ) → list_any (nat_eq i) (ps ++ b ∷ []) ≡ false →
    (list_any (nat_eq i) ps ≡ false) × (nat_eq i b ≡ false)
free_parts i b [] e = (refl, by_test (nat_eq i b) refl) where
  by_test : (t : Bool) → nat_eq i b ≡ t → nat_eq i b ≡ false
  by_test false is = is
  by_test true is = absurd (false≢true (sym (rw is at e)))
free_parts i b (p ∷ ps) e = by_test (nat_eq i p) refl (free_parts i b ps) where
  by_test : (t : Bool) → nat_eq i p ≡ t → (list_any (nat_eq i) (ps ++ b ∷ []) ≡ false →
      (list_any (nat_eq i) ps ≡ false) × (nat_eq i b ≡ false)) →
      (list_any (nat_eq i) (p ∷ ps) ≡ false) × (nat_eq i b ≡ false)
  by_test true is rest = absurd (false≢true (sym (rw is at e)))
  by_test false is rest = let parts = rest (rw is at e) in (rw is parts.0, parts.1)

greatest_before : (taken : List ℕ) (f : ℕ → ℤ) (n b i : ℕ) → IsGreatestUnless taken f n b → i < n →
    list_any (nat_eq i) taken ≡ false → nat_eq i b ≡ false → IsBefore f b i
greatest_before taken f n b i g within free other = ⊎_elim
    (λ same. absurd (let no : nat_eq i b ≡ true = grind (arith, nat_tests, same) in
    absurd (false≢true (sym other ∙ no))))
    (⊎_elim (λ lt. inl (g.first i lt free))
    (λ gt. by_lt_z (f i) (f b) (λ less. inl less)
    (λ back. inr (
      let most = g.greatest i within free in let e : f i ≡ f b =
          omega (arith, ints, most, back) in e,
      gt,
    ))))
    (cases_order i b)

pub place_more : (f : ℕ → ℤ) (n k b : ℕ) (ps : List ℕ) → length ps < n → IsGreatestUnless ps f n b →
    ArePlaces f n k ps → ArePlaces f n (suc k) (ps ++ b ∷ [])
place_more f n k b ps few g h = record {
  long = let size = length-append ps (b ∷ []) in let long = h.long in
      omega (arith, size, long, few);
  below = All-push (λ i. i < n) ps b h.below g.below;
  order = all_pairs_push (IsBefore f) ps b h.order (λ j d bound. h.rest b g.below g.free j d bound);
  rest = λ i within free.
      let parts = free_parts i b ps free in
      All-push (λ j. IsBefore f j i) ps b (h.rest i within parts.0)
      (greatest_before ps f n b i g within parts.0 parts.1);
}

place_same : (f : ℕ → ℤ) (n k : ℕ) (ps : List ℕ) → n ≤ length ps → ArePlaces f n k ps → ArePlaces f n (suc k) ps
place_same f n k ps full h = record {
  long = let long = h.long in omega (arith, long, full);
  below =
      h.below;
  order = h.order;
  rest = h.rest;
}

nat_lt-false : (a b : ℕ) → b ≤ a → nat_lt a b ≡ false
nat_lt-false a b h = grind (arith, nat_tests)

pub are_places : (f : ℕ → ℤ) (k n : ℕ) → ArePlaces f n k (first_places k f n)
unfolding first_places
are_places f zero n = record {
  long = omega arith;
  below = All-nil (λ i. i < n);
  order = λ i j d less b. absurd (omega (arith, b));
  rest = λ i within free. All-nil (λ j. IsBefore f j i);
}
are_places f (suc k) n =
    let before = first_places k f n in
    let h = are_places f k n in
    ⊎_elim
    (λ few. rw (nat_lt-true (length before) n few)
    (place_more f n k (greatest_unless before f n) before few
    (⊎_elim (λ none. absurd (some_free before n few none.0)) (λ is. is) (scanned before f n))
    h))
    (λ full. rw (nat_lt-false (length before) n full) (place_same f n k before full h)) (cases_lt (length before) n)

-- FROM PLACES TO WORDS
index_better : (softs : List ℤ) (ends : Ends) (n i j : ℕ) → i < codeword_count ends n →
    j < codeword_count ends n → IsBefore (λ r. score_of softs (codeword_at ends n r)) i j →
    IsBetter (score_of softs) (codeword_at ends n i) (codeword_at ends n j)
index_better softs ends n i j p q h = ⊎_elim (λ less. inl less)
    (λ tie. inr (
      tie.0,
      rw (rank-codeword_at ends n i p, rank-codeword_at ends n j q)
          (grows ends i j tie.1),
    ))
    h where
      grows : (ends : Ends) (i j : ℕ) → i < j → step_of ends * i < step_of ends * j
      grows Zero i j h = omega (arith, h)
      grows Free i j h = omega (arith, h)

pairs_map : (g : ℕ → Codeword) (R : ℕ → ℕ → Type 0) (S : Codeword → Codeword → Type 0) (P : ℕ → Type 0) (ps : List ℕ) →
    ((i j : ℕ) → P i → P j → R i j → S (g i) (g j)) → All P ps → AllPairs R ps → AllPairs S (map g ps)
pairs_map g R S P [] to all h = λ i j d less b. absurd (omega (arith, b))
pairs_map g R S P (p ∷ ps) to all h =
    AllPairs-cons S (g p) (map g ps)
    (All-map (S (g p)) g ps (λ i d b. to p (get_or ps i d) (All-head P p ps all)
    (All-tail P p ps all i d b) (h 0 (suc i) d (omega arith) (omega (arith, b)))))
    (pairs_map g R S P ps to (All-tail P p ps all)
    (λ i j d less b. h (suc i) (suc j) d (omega (arith, less)) (omega (arith, b))))

contains_map : (g : ℕ → Codeword) (ps : List ℕ) (i : ℕ) → Contains ps i → Contains (map g ps) (g i)
contains_map g ps i h = (
  h.0,
  let b = h.1 in let size = length-map ps g in omega (arith, b, size),
  get_or-map g ps h.0 i (g i) h.1 ∙ ap g h.2,
)

-- The codewords at the first places of the ordering by number are the first ones by the decoder's
-- own order: each allowed codeword has one number, and of two numbers the one with the greater
-- score, or at a tie the lesser one, has the better codeword.
pub places_first : (softs : List ℤ) (ends : Ends) (n k : ℕ) (ps : List ℕ) → 8 ≤ n →
    ArePlaces (λ r. score_of softs (codeword_at ends n r)) (codeword_count ends n) k ps →
    AreFirst (score_of softs) (IsAllowed ends n) k (map (codeword_at ends n) ps)
places_first softs ends n k ps long h =
    let g : ℕ → Codeword = codeword_at ends n in
    let f : ℕ → ℤ = λ r. score_of softs (codeword_at ends n r) in
    let size = length-map ps g in
    let many = h.long in
    record {
      most = omega (arith, size, many);
      kind = All-map (IsAllowed ends n) g ps (λ i d b. codeword_at_allowed ends n (get_or ps i d) long);
      order = pairs_map g (IsBefore f) (IsBetter (score_of softs)) (λ i. i < codeword_count ends n) ps
          (λ i j p q b. index_better softs ends n i j p q b) h.below h.order;
      rest = λ w is.
          let here = allowed_at ends n w long is in
          let r = here.number in
          by_test w r here.below here.is (list_any (nat_eq r) ps) refl;
    } where
      by_test : (w : Codeword) (r : ℕ) → r < codeword_count ends n → codeword_at ends n r ≡ w → (t : Bool) →
          list_any (nat_eq r) ps ≡ t →
          Contains (map (codeword_at ends n) ps) w ⊎ ((length (map (codeword_at ends n) ps) ≡ k) × All
          (λ v. IsBetter (score_of softs) v w) (map (codeword_at ends n) ps))
      by_test w r below is true e =
          inl (subst (Contains (map (codeword_at ends n) ps)) is
          (contains_map (codeword_at ends n) ps r
          (Contains-from_any {eq = nat_eq} (λ x y t. grind (arith, nat_tests, t)) r ps e)))
      by_test w r below is false e =
          inr (
            ⊎_elim
                (λ few. let size = length-map ps (codeword_at ends n) in let many = h.long in
                omega (arith, size, many, few))
                (λ full. absurd (none_free (λ r. score_of softs (codeword_at ends n r))
                (codeword_count ends n) k ps h full r below e))
                (cases_lt (length ps) (codeword_count ends n)),
            subst (λ (w : Codeword). All (λ v. IsBetter (score_of softs) v w) (map (codeword_at ends n) ps))
                is
                (All-map (λ v. IsBetter (score_of softs) v (codeword_at ends n r)) (codeword_at ends n) ps
                (λ i d b. index_better softs ends n (get_or ps i d) r (h.below i d b) below
                (h.rest r below e i d b))),
          )

pub first_codewords_first : (softs : List ℤ) (ends : Ends) (n k : ℕ) → 8 ≤ n →
    AreFirst (score_of softs) (IsAllowed ends n) k (first_codewords k (score_of softs) ends n)
first_codewords_first softs ends n k long =
    places_first softs ends n k _ long (are_places (λ r. score_of softs (codeword_at ends n r)) k
    (codeword_count ends n))

pub by_definition : (softs : List ℤ) (ends : Ends) (n k : ℕ) (codewords : List Codeword) → 8 ≤ n →
    AreFirst (score_of softs) (IsAllowed ends n) k codewords → codewords ≡ first_codewords k (score_of softs) ends n
by_definition softs ends n k codewords long h = one_list (score_of softs) (IsAllowed ends n) k codewords
    (first_codewords k (score_of softs) ends n) h (first_codewords_first softs ends n k long)

pub how_many : (softs : List ℤ) (ends : Ends) (n k : ℕ) (codewords : List Codeword) → 8 ≤ n →
    AreFirst (score_of softs) (IsAllowed ends n) k codewords → length codewords ≡ min k (codeword_count ends n)
how_many softs ends n k codewords long h =
    let f : ℕ → ℤ = λ r. score_of softs (codeword_at ends n r) in
    ap length (by_definition softs ends n k codewords long h)
    ∙ length-map (first_places k f (codeword_count ends n)) (codeword_at ends n)
    ∙ (are_places f k (codeword_count ends n)).long

-- The codewords of the end states that the scores and columns of choices give.
use Rattle.list_viterbi.proofs.Common.{◌≡◌, ℕ, zero, suc, ◌+◌, ◌/◌, ◌<◌, ◌≤◌, List, [], ◌∷◌, ◌++◌, length, get_or, map, take, refl, sym, ap}
use Rattle.list_viterbi.proofs.Common.{subst, ◌∙◌, arith, ℤ, Some, slice_get, take_more, length-take, length-take-le, get_or_from_slice_get}
use Rattle.list_viterbi.proofs.Common.{Codeword, score_of, IsAllowed, end_count, Ends, binary-turned, codewords_same, end_count_le, Entry}
use Rattle.list_viterbi.proofs.Common.{Find, codeword_of, entry_score, first_lists, list_origin, find_score, finds_from, first_finds}
use Rattle.list_viterbi.proofs.Common.{entry_at}
use Rattle.list_viterbi.proofs.Firsts.{Firsts}
use Rattle.list_viterbi.proofs.Merges.{Lists, Scored}
use Rattle.list_viterbi.proofs.Pairs.{Pairs, merge_pairs}
use Rattle.list_viterbi.proofs.Rooms.{found}
use Rattle.list_viterbi.proofs.Agreements.{Agrees, Traces}
use Rattle.list_viterbi.proofs.Standing.{ListsStand, first_columns}

-- a codeword that is found leads back to the entry's
abbrev FindTraces : List (List ℕ) → ℕ → Find → Entry → Type 0
FindTraces columns n f e = (f.score ≡ e.score) × Traces columns n f.state f.rank e

finds_pairs : (columns : List (List ℕ)) (n t place : ℕ) (ss : List ℤ) (es : List Entry) →
    Agrees columns n t place ss es → Pairs (FindTraces columns n) (finds_from t place ss) es
finds_pairs columns n t place [] [] h = tt
finds_pairs columns n t place [] (e ∷ es) h = absurd h
finds_pairs columns n t place (s ∷ ss) [] h = absurd h
finds_pairs columns n t place (s ∷ ss) (e ∷ es) h = (h.0, finds_pairs columns n t (suc place) ss es h.1)

ends_pairs : (columns : List (List ℕ)) (n k count : ℕ) (scores : List (List ℤ))
    (column : List (List Entry)) → count ≤ 256 →
    ((t : ℕ) → t < 256 → Agrees columns n t 0 (get_or scores t []) (get_or column t [])) →
    Pairs (FindTraces columns n) (first_finds scores k count) (first_lists column k count)
unfolding first_finds first_lists
ends_pairs columns n k zero scores column most each = tt
ends_pairs columns n k (suc count) scores column most each =
    merge_pairs (FindTraces columns n) find_score entry_score (λ f e h. h.0) k _ _ _ _
    (ends_pairs columns n k count scores column (omega (arith, most)) each)
    (finds_pairs columns n count 0 (get_or scores count []) (get_or column count []) (each count (omega (arith, most))))

-- the same codeword and score
abbrev SameCodeword : Entry → Entry → Type 0
SameCodeword a b = (codeword_of a ≡ codeword_of b) × (a.score ≡ b.score)

traced_pairs : (columns : List (List ℕ)) (n : ℕ) (finds : List Find) (es : List Entry) →
    length columns ≡ n → Pairs (FindTraces columns n) finds es → Pairs SameCodeword (map (entry_at columns) finds) es
traced_pairs columns n [] [] long h = tt
traced_pairs columns n [] (e ∷ es) long h = absurd h
traced_pairs columns n (f ∷ fs) [] long h = absurd h
traced_pairs columns n (f ∷ fs) (e ∷ es) long h = (
  (
    rw long
        (codewords_same _ (codeword_of e) (binary-turned (list_origin columns n f.state f.rank) ∙ sym h.0.1.1)
        h.0.1.0),
    h.0.0,
  ),
  traced_pairs columns n fs es long h.1,
)

codewords_pairs : (xs ys : List Entry) → Pairs SameCodeword xs ys → map codeword_of xs ≡ map codeword_of ys
codewords_pairs [] [] h = refl
codewords_pairs [] (b ∷ ys) h = absurd h
codewords_pairs (a ∷ xs) [] h = absurd h
codewords_pairs (a ∷ xs) (b ∷ ys) h =
    ap (λ (w : Codeword). w ∷ map codeword_of xs) h.0.0
    ∙ ap (λ (ws : List Codeword). codeword_of b ∷ ws) (codewords_pairs xs ys h.1)

scored_pairs : (softs : List ℤ) (xs ys : List Entry) → Pairs SameCodeword xs ys → Scored softs ys → Scored softs xs
scored_pairs softs [] [] h scored = tt
scored_pairs softs [] (b ∷ ys) h scored = absurd h
scored_pairs softs (a ∷ xs) [] h scored = absurd h
scored_pairs softs (a ∷ xs) (b ∷ ys) h scored = (
  h.0.1 ∙ scored.0 ∙ ap (score_of softs) (sym h.0.0),
  scored_pairs softs xs ys h.1 scored.1,
)

lists_pairs : (softs : List ℤ) (Kind : Codeword → Type 0) (k : ℕ) (xs ys : List Entry) →
    Pairs SameCodeword xs ys → Lists softs Kind k ys → Lists softs Kind k xs
lists_pairs softs Kind k xs ys h lists = (
  subst (Firsts (score_of softs) Kind k) (sym (codewords_pairs xs ys h)) lists.0,
  scored_pairs softs xs ys h lists.1,
)

-- the codewords that all columns lead back to from the first ends
pub found_codewords : (softs : List ℤ) (ends : Ends) (k n : ℕ) (scores : List (List ℤ))
    (columns : List (List ℕ)) (finds : List Find) (es : List Entry) → 8 ≤ n →
    length columns ≡ n → ListsStand softs ends k n scores columns →
    finds ≡ first_finds scores k (end_count ends) → es ≡ map (entry_at columns) finds →
    Lists softs (IsAllowed ends n) k es
found_codewords softs ends k n scores columns finds es eight long h finds_are es_are =
    let lists =
    found softs ends k n h.column (first_lists h.column k (end_count ends)) eight h.listed refl
    in
    let pairs = ends_pairs columns n k (end_count ends) scores h.column (end_count_le ends) h.agree in
    subst (Lists softs (IsAllowed ends n) k) (sym (es_are ∙ ap (map (entry_at columns)) finds_are))
    (lists_pairs softs (IsAllowed ends n) k _ (first_lists h.column k (end_count ends))
    (traced_pairs columns n (first_finds scores k (end_count ends)) _ long pairs) lists)

-- the codewords that the columns of all bits give
pub run_codewords : (softs : List ℤ) (ends : Ends) (k kept bit : ℕ) (scores : List (List ℤ))
    (columns held : List (List ℕ)) (finds : List Find) (es : List Entry) →
    bit ≡ length softs / 2 → 16 ≤ length softs → length softs / 2 ≤ 576 → length held ≡ 576 →
    held ≡ columns → ListsStand softs ends k bit scores columns → kept ≡ k →
    finds ≡ first_finds scores kept (end_count ends) → es ≡ map (entry_at (take (length softs / 2) held)) finds →
    Lists softs (IsAllowed ends (length softs / 2)) k es
run_codewords softs ends k kept bit scores columns held finds es all least most whole same stands few
    finds_are es_are =
    let n = length softs / 2 in
    let stood : ListsStand softs ends k bit scores held = subst (ListsStand softs ends k bit scores) (sym same) stands in
    found_codewords softs ends k n scores (take n held) finds es (omega (arith, least))
    (length-take-le n held (omega (arith, most, whole))) (first_columns softs ends k bit n scores held all stood)
    (finds_are ∙ ap (λ (j : ℕ). first_finds scores j (end_count ends)) few) es_are

-- ONE WORD MORE OF A STATE'S LIST
finds_append : (t place : ℕ) (ss : List ℤ) (s : ℤ) → finds_from t place (ss ++ s ∷ [])
    ≡ finds_from t place ss ++ record { score = s; state = t; rank = place + length ss } ∷ []
finds_append t place [] s = ap (λ (p : ℕ). record { score = s; state = t; rank = p } ∷ []) (omega arith)
finds_append t place (x ∷ xs) s =
    ap (λ (fs : List Find). record { score = x; state = t; rank = place } ∷ fs)
    (finds_append t (suc place) xs s
    ∙ ap (λ (p : ℕ). finds_from t (suc place) xs ++ record { score = s; state = t; rank = p } ∷ []) (omega arith))

pub finds_more : (t : ℕ) (ss : List ℤ) (i : ℕ) (s : ℤ) (finds : List Find) → i < length ss →
    slice_get ss i ≡ Some s → finds ≡ finds_from t 0 (take i ss) →
    finds ++ record { score = s; state = t; rank = i } ∷ [] ≡ finds_from t 0 (take (i + 1) ss)
finds_more t ss i s finds within read is =
    let size = length-take-le i ss (omega (arith, within)) in
    let place : i ≡ 0 + length (take i ss) = omega (arith, size) in
    ap (λ (fs : List Find). fs ++ record { score = s; state = t; rank = i } ∷ []) is
    ∙ ap (λ (p : ℕ). finds_from t 0 (take i ss) ++ record { score = s; state = t; rank = p } ∷ [])
    place
    ∙ sym (finds_append t 0 (take i ss) s)
    ∙ ap (λ (z : ℤ). finds_from t 0 (take i ss ++ z ∷ [])) (sym (get_or_from_slice_get ss i s s read))
    ∙ ap (finds_from t 0) (sym (take_more ss i s within))

finds_long : (t place : ℕ) (ss : List ℤ) → length (finds_from t place ss) ≡ length ss
finds_long t place [] = refl
finds_long t place (s ∷ ss) = ap suc (finds_long t (suc place) ss)

pub finds_count : (t : ℕ) (ss : List ℤ) (i : ℕ) (finds : List Find) →
    finds ≡ finds_from t 0 (take i ss) → length finds ≤ i
finds_count t ss i finds is =
    let size : length finds ≡ length (take i ss) = ap length is ∙ finds_long t 0 (take i ss) in
    let most = length-take i ss in omega (arith, size, most)

-- What scores and columns of choices stand for: the codewords into a state, one after another.
use Rattle.list_viterbi.proofs.Common.{◌≡◌, ℕ, zero, suc, ◌+◌, ◌*◌, ◌/◌, ◌%◌, ◌<◌, ◌≤◌, Bool, List, [], ◌∷◌, ◌++◌, length, get_or, map, sym}
use Rattle.list_viterbi.proofs.Common.{refl, ap, subst, ◌∙◌, arith, ℤ, ◌+ℤ◌, nat_le, All, All-nil, All-cons, All-head, All-tail, binary}
use Rattle.list_viterbi.proofs.Common.{low_bits, gain_by, lane_code_of, code_gains, Entry, entry_score, entry_extended_by, list_from, Pick}
use Rattle.list_viterbi.proofs.Common.{list_into, pick_score, picks_from, picks_by, picks_into, pointer_of, HasChoices, HasPicks, back_of}
use Rattle.list_viterbi.proofs.Common.{list_state_before, place_before, list_origin, list_path}
use Rattle.list_viterbi.proofs.Pairs.{Pairs, merge_pairs, merge_most}

-- a place in a state's list leads back to the entry's codeword
abbrev pub Traces : List (List ℕ) → ℕ → ℕ → ℕ → Entry → Type 0
Traces columns n t place e =
    (list_path columns n t place ≡ e.word.bits)
    × (binary 8 e.word.start ≡ low_bits 8 (list_origin columns n t place))

-- scores and the places from one on lead back to entries
abbrev pub Agrees : List (List ℕ) → ℕ → ℕ → ℕ → List ℤ → List Entry → Type 0
Agrees columns n t place [] [] = Unit {0}
Agrees columns n t place [] (e ∷ es) = ⊥
Agrees columns n t place (s ∷ ss) [] = ⊥
Agrees columns n t place (s ∷ ss) (e ∷ es) =
    ((s ≡ e.score) × Traces columns n t place e) × Agrees columns n t (suc place) ss es

-- what holds of the entries' scores holds of the scores
pub agrees_all : (columns : List (List ℕ)) (n t place : ℕ) (ss : List ℤ) (es : List Entry)
    (P : ℤ → Type 0) → Agrees columns n t place ss es → All (λ e. P e.score) es → All P ss
agrees_all columns n t place [] [] P h all = All-nil P
agrees_all columns n t place [] (e ∷ es) P h all = absurd h
agrees_all columns n t place (s ∷ ss) [] P h all = absurd h
agrees_all columns n t place (s ∷ ss) (e ∷ es) P h all =
    All-cons P s ss (subst P (sym h.0.0) (All-head (λ d. P d.score) e es all))
    (agrees_all columns n t (suc place) ss es P h.1 (All-tail (λ d. P d.score) e es all))

-- OTHER ROWS
-- the first n columns are the same
abbrev pub Same : ℕ → List (List ℕ) → List (List ℕ) → Type 0
Same n columns columns' = (j : ℕ) → j < n → get_or columns' j [] ≡ get_or columns j []

same_back : (n : ℕ) (columns columns' : List (List ℕ)) (t place : ℕ) → Same (suc n) columns columns' →
    back_of columns' n t place ≡ back_of columns n t place
same_back n columns columns' t place h = ap (λ (r : List ℕ). pointer_of (get_or r t 0) (place % 16)) (h n (omega arith))

same_path : (n : ℕ) (columns columns' : List (List ℕ)) (t place : ℕ) → Same n columns columns' →
    list_path columns' n t place ≡ list_path columns n t place
unfolding list_path
same_path zero columns columns' t place h = refl
same_path (suc n) columns columns' t place h =
    ap (λ (b : ℕ). list_path columns' n (2 * (t % 128) + b % 2) (b / 2) ++ nat_le 128 t ∷ [])
    (same_back n columns columns' t place h)
    ∙ ap (λ (r : List Bool). r ++ nat_le 128 t ∷ [])
    (same_path n columns columns' (list_state_before columns n t place) (place_before columns n t place)
    (λ j b. h j (omega (arith, b))))

same_origin : (n : ℕ) (columns columns' : List (List ℕ)) (t place : ℕ) → Same n columns columns' →
    list_origin columns' n t place ≡ list_origin columns n t place
unfolding list_origin
same_origin zero columns columns' t place h = refl
same_origin (suc n) columns columns' t place h =
    ap (λ (b : ℕ). list_origin columns' n (2 * (t % 128) + b % 2) (b / 2)) (same_back n columns columns' t place h)
    ∙ same_origin n columns columns' (list_state_before columns n t place) (place_before columns n t place)
    (λ j b. h j (omega (arith, b)))

pub same_agrees : (n : ℕ) (columns columns' : List (List ℕ)) (t place : ℕ) (ss : List ℤ)
    (es : List Entry) → Same n columns columns' → Agrees columns n t place ss es → Agrees columns' n t place ss es
same_agrees n columns columns' t place [] [] same h = tt
same_agrees n columns columns' t place [] (e ∷ es) same h = absurd h
same_agrees n columns columns' t place (s ∷ ss) [] same h = absurd h
same_agrees n columns columns' t place (s ∷ ss) (e ∷ es) same h = (
  (
    h.0.0,
    (
      same_path n columns columns' t place same ∙ h.0.1.0,
      h.0.1.1 ∙ ap (low_bits 8) (sym (same_origin n columns columns' t place same)),
    ),
  ),
  same_agrees n columns columns' t (suc place) ss es same h.1,
)

-- ONE BIT MORE
-- a pick leads back to the entry's codeword
abbrev PickTraces : List (List ℕ) → ℕ → ℕ → Pick → Entry → Type 0
PickTraces columns n t p e =
    (p.score ≡ e.score)
    × ((list_path columns n (2 * (t % 128) + p.back % 2) (p.back / 2) ++ nat_le 128 t ∷ [] ≡ e.word.bits)
    × (binary 8 e.word.start ≡ low_bits 8 (list_origin columns n (2 * (t % 128) + p.back % 2) (p.back / 2))))

oldest_of : (place oldest : ℕ) → oldest < 2 → (2 * place + oldest) % 2 ≡ oldest
oldest_of place oldest two = omega (arith, two)

place_of : (place oldest : ℕ) → oldest < 2 → (2 * place + oldest) / 2 ≡ place
place_of place oldest two = omega (arith, two)

picks_pairs : (columns : List (List ℕ)) (n t oldest : ℕ) (gain : ℤ) (place : ℕ) (ss : List ℤ)
    (es : List Entry) → oldest < 2 → Agrees columns n (2 * (t % 128) + oldest) place ss es →
    Pairs (PickTraces columns n t) (picks_from oldest gain place ss) (map (entry_extended_by (nat_le 128 t) gain) es)
picks_pairs columns n t oldest gain place [] [] two h = tt
picks_pairs columns n t oldest gain place [] (e ∷ es) two h = absurd h
picks_pairs columns n t oldest gain place (s ∷ ss) [] two h = absurd h
picks_pairs columns n t oldest gain place (s ∷ ss) (e ∷ es) two h = (
  (
    ap (λ (z : ℤ). z +ℤ gain) h.0.0,
    rw (oldest_of place oldest two, place_of place oldest two)
        (ap (λ (r : List Bool). r ++ nat_le 128 t ∷ []) h.0.1.0, h.0.1.1),
  ),
  picks_pairs columns n t oldest gain (suc place) ss es two h.1,
)

-- by both states before
into_pairs : (columns : List (List ℕ)) (n k t : ℕ) (first second : ℤ) (scores : List (List ℤ))
    (column : List (List Entry)) → t < 256 →
    ((u : ℕ) → u < 256 → Agrees columns n u 0 (get_or scores u []) (get_or column u [])) →
    Pairs (PickTraces columns n t) (picks_into scores first second k t) (list_into column first second k t)
unfolding picks_by list_into list_from
into_pairs columns n k t first second scores column below each =
    let gains = code_gains first second t below in
    rw (gains.0, gains.1)
    (merge_pairs (PickTraces columns n t) pick_score entry_score (λ p e h. h.0) k _ _ _ _
    (picks_pairs columns n t 0 _ 0 (get_or scores (2 * (t % 128) + 0) [])
    (get_or column (2 * (t % 128) + 0) []) (omega arith) (each (2 * (t % 128) + 0) (omega arith)))
    (picks_pairs columns n t 1 _ 0 (get_or scores (2 * (t % 128) + 1) [])
    (get_or column (2 * (t % 128) + 1) []) (omega arith) (each (2 * (t % 128) + 1) (omega arith))))

pairs_agree : (columns : List (List ℕ)) (n t place : ℕ) (ps : List Pick) (es : List Entry) →
    place + length ps ≤ 16 → HasChoices (get_or (get_or columns n []) t 0) place ps →
    Pairs (PickTraces columns n t) ps es → Agrees columns (suc n) t place (map pick_score ps) es
unfolding list_path list_origin
pairs_agree columns n t place [] [] few chosen h = tt
pairs_agree columns n t place [] (e ∷ es) few chosen h = absurd h
pairs_agree columns n t place (p ∷ ps) [] few chosen h = absurd h
pairs_agree columns n t place (p ∷ ps) (e ∷ es) few chosen h =
    let choices = get_or (get_or columns n []) t 0 in
    let small : place % 16 ≡ place = omega (arith, few) in
    let back : back_of columns n t place ≡ p.back = ap (pointer_of choices) small ∙ chosen.0 in (
      (h.0.0, rw back h.0.1),
      pairs_agree columns n t (suc place) ps es (omega (arith, few)) chosen.1 h.1,
    )

picks_most : (column : List (List ℤ)) (gain : ℤ) (k t : ℕ) → length (picks_by column gain k t) ≤ k
unfolding picks_by
picks_most column gain k t = merge_most pick_score k _ _

pub step_agrees : (columns : List (List ℕ)) (n k t : ℕ) (first second : ℤ)
    (scores : List (List ℤ)) (column : List (List Entry)) (next : List ℤ) → t < 256 → k ≤ 16 →
    ((u : ℕ) → u < 256 → Agrees columns n u 0 (get_or scores u []) (get_or column u [])) →
    HasPicks next (get_or (get_or columns n []) t 0) (picks_into scores first second k t) →
    Agrees columns (suc n) t 0 next (list_into column first second k t)
step_agrees columns n k t first second scores column next below few each h =
    let ps = picks_into scores first second k t in
    let most = picks_most scores (gain_by first second (lane_code_of t)) k t in
    subst (λ (ss : List ℤ). Agrees columns (suc n) t 0 ss (list_into column first second k t)) (sym h.0)
    (pairs_agree columns n t 0 ps (list_into column first second k t) (omega (arith, most, few)) h.1
    (into_pairs columns n k t first second scores column below each))

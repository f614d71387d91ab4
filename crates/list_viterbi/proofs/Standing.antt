-- Scores and columns of choices stand for the lists of the first codewords into each state.
use Rattle.list_viterbi.proofs.Common.{◌≡◌, ℕ, suc, ◌+◌, ◌*◌, ◌^◌, ◌<◌, ◌≤◌, Bool, true, false, List, [], ◌∷◌, length, get_or, map, set, ℤ}
use Rattle.list_viterbi.proofs.Common.{take, refl, sym, subst, ◌∙◌, arith, pos, unsigned_abs, nat_eq, if◌then◌else◌, All, false≢true, Ends}
use Rattle.list_viterbi.proofs.Common.{reverse_bits_onto, range_with_len, sum_by, get_or-set_same, get_or-set_other, get_or-take, low_bits}
use Rattle.list_viterbi.proofs.Common.{get_or-map-range_with_len, HasStart, Zero, Free, binary-turned, Into, zero_start, Entry, list_into}
use Rattle.list_viterbi.proofs.Common.{EntriesStart, picks_into, HasPicks, starts_at, start_scores, list_origin, list_path}
use Rattle.list_viterbi.proofs.Merges.{Lists}
use Rattle.list_viterbi.proofs.Steps.{Listed, listed_start, list_into_lists}
use Rattle.list_viterbi.proofs.Rooms.{rooms}
use Rattle.list_viterbi.proofs.Agreements.{Agrees, Same, same_agrees, step_agrees, agrees_all}

-- there are lists of the first k codewords into each state that the scores and the first n columns give
pub record ListsStand (softs : List ℤ) (ends : Ends) (k n : ℕ) (scores : List (List ℤ))
    (columns : List (List ℕ)) : Type 0 where
  pub column : List (List Entry)
  pub listed : Listed softs ends k n column
  pub agree : (t : ℕ) → t < 256 → Agrees columns n t 0 (get_or scores t []) (get_or column t [])

-- BEFORE THE FIRST BIT
abbrev begun : ℕ → Entry
begun t = record { word = record { start = reverse_bits_onto 8 t 0; bits = [] }; score = pos 0 }

abbrev start_list : Ends → ℕ → List Entry
start_list ends t = if starts_at ends t then begun t ∷ [] else []

may_start : (ends : Ends) (t : ℕ) → t < 256 → starts_at ends t ≡ true → HasStart ends (low_bits 8 t)
may_start Zero t below is = (zero_start t below).0 is
may_start Free t below is = tt

may_not : (ends : Ends) (t : ℕ) → t < 256 → starts_at ends t ≡ false → ¬ (HasStart ends (low_bits 8 t))
may_not Zero t below is h = let yes : nat_eq t 0 ≡ true = (zero_start t below).1 h in
    false≢true (sym is ∙ yes)
may_not Free t below is h = grind (arith, is)

list_starts : (ends : Ends) (t : ℕ) → t < 256 → EntriesStart ends t (start_list ends t)
list_starts ends t below = by_test (starts_at ends t) refl where
  by_test : (b : Bool) → starts_at ends t ≡ b → EntriesStart ends t (if b then begun t ∷ [] else [])
  by_test true is = (may_start ends t below is, record { start = binary-turned t; none = refl; nothing = refl })
  by_test false is = may_not ends t below is

start_agrees : (columns : List (List ℕ)) (ends : Ends) (t : ℕ) →
    Agrees columns 0 t 0 (start_scores ends t) (start_list ends t)
unfolding list_path list_origin
start_agrees columns ends t = by_test (starts_at ends t) where
  by_test : (b : Bool) → Agrees columns 0 t 0 (if b then pos 0 ∷ [] else []) (if b then begun t ∷ [] else [])
  by_test true = ((refl, (refl, binary-turned t)), tt)
  by_test false = tt

pub stands_first : (softs : List ℤ) (ends : Ends) (k : ℕ) (scores : List (List ℤ)) (columns : List (List ℕ)) → 0 < k →
    ((t : ℕ) → t < 256 → get_or scores t [] ≡ start_scores ends t) → ListsStand softs ends k 0 scores columns
stands_first softs ends k scores columns some starts = record {
  column = map (start_list ends) (range_with_len 0 256);
  listed = listed_start softs ends k (map (start_list ends) (range_with_len 0 256)) some
      (λ t b. subst (EntriesStart ends t) (sym (reads t b)) (list_starts ends t b));
  agree = λ t b. rw (reads t b, starts t b) (start_agrees columns ends t);
} where
  reads : (t : ℕ) → t < 256 → get_or (map (start_list ends) (range_with_len 0 256)) t [] ≡ start_list ends t
  reads t b = get_or-map-range_with_len (start_list ends) 0 256 t t [] b (omega arith)

-- ONE BIT MORE
pub step_stands : (softs : List ℤ) (ends : Ends) (k n : ℕ) (scores next : List (List ℤ))
    (columns columns' : List (List ℕ)) → 2 * n + 2 ≤ length softs → k ≤ 16 →
    ListsStand softs ends k n scores columns → Same n columns columns' →
    ((t : ℕ) → t < 256 →
    HasPicks (get_or next t []) (get_or (get_or columns' n []) t 0)
    (picks_into scores (get_or softs (2 * n) (pos 0)) (get_or softs (2 * n + 1) (pos 0)) k t)) →
    ListsStand softs ends k (suc n) next columns'
step_stands softs ends k n scores next columns columns' room few h same each = record {
  column = map (list_into h.column first second k) (range_with_len 0 256);
  listed = λ t b.
      subst (Lists softs (Into ends (suc n) (low_bits 8 t)) k) (sym (reads t b))
      (list_into_lists softs ends k n h.column room h.listed t b);
  agree = λ t b.
      rw (reads t b)
      (step_agrees columns' n k t first second scores h.column (get_or next t []) b few
      (λ u c. same_agrees n columns columns' u 0 (get_or scores u []) (get_or h.column u []) same (h.agree u c))
      (each t b));
} where
  first : ℤ
  first = get_or softs (2 * n) (pos 0)

  second : ℤ
  second = get_or softs (2 * n + 1) (pos 0)

  reads : (t : ℕ) → t < 256 → get_or (map (list_into h.column first second k) (range_with_len 0 256)) t []
      ≡ list_into h.column first second k t
  reads t b = get_or-map-range_with_len (list_into h.column first second k) 0 256 t t [] b (omega arith)

pub column_stands : (softs : List ℤ) (ends : Ends) (k n : ℕ) (scores next : List (List ℤ))
    (columns : List (List ℕ)) (choices : List ℕ) → 2 * n + 2 ≤ length softs → k ≤ 16 →
    n < length columns → ListsStand softs ends k n scores columns →
    ((t : ℕ) → t < 256 →
    HasPicks (get_or next t []) (get_or choices t 0)
    (picks_into scores (get_or softs (2 * n) (pos 0)) (get_or softs (2 * n + 1) (pos 0)) k t)) →
    ListsStand softs ends k (suc n) next (set columns n choices)
column_stands softs ends k n scores next columns choices room few within h each =
    step_stands softs ends k n scores next columns (set columns n choices) room few h
    (λ j b. get_or-set_other columns n j choices [] (λ e. apart j b e))
    (λ t b. rw (get_or-set_same columns n choices [] within) (each t b))
  where
    apart : (j : ℕ) → j < n → ¬ (j ≡ n)
    apart j b e = omega (arith, b, e)

-- scores grow by no more than the two soft values
pub score_rooms : (softs : List ℤ) (ends : Ends) (k n : ℕ) (scores : List (List ℤ))
    (columns : List (List ℕ)) → 2 * n + 2 ≤ length softs →
    sum_by unsigned_abs softs ≤ 2 ^ 62 → n ≤ 576 → ListsStand softs ends k n scores columns → (t : ℕ) → t < 256 →
    All (λ s. unsigned_abs s + (unsigned_abs (get_or softs (2 * n) (pos 0))
    + unsigned_abs (get_or softs (2 * n + 1) (pos 0))) ≤ 2 ^ 62) (get_or scores t [])
score_rooms softs ends k n scores columns room bound few h t b =
    agrees_all columns n t 0 (get_or scores t []) (get_or h.column t [])
    (λ s. unsigned_abs s + (unsigned_abs (get_or softs (2 * n) (pos 0))
    + unsigned_abs (get_or softs (2 * n + 1) (pos 0))) ≤ 2 ^ 62)
    (h.agree t b) (λ i d c. (rooms softs ends k n h.column room bound few h.listed t b i d c).0)

-- of other columns only the first n matter
pub first_columns : (softs : List ℤ) (ends : Ends) (k m n : ℕ) (scores : List (List ℤ))
    (columns : List (List ℕ)) → m ≡ n → ListsStand softs ends k m scores columns →
    ListsStand softs ends k n scores (take n columns)
first_columns softs ends k m n scores columns is stands =
    let h : ListsStand softs ends k n scores columns = subst (λ (j : ℕ). ListsStand softs ends k j scores columns) is stands in
    record {
      column = h.column;
      listed = h.listed;
      agree = λ t b. same_agrees n columns (take n columns) t 0 (get_or scores t []) (get_or h.column t [])
          (λ j c. get_or-take n columns j [] c) (h.agree t b);
    }

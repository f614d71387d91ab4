-- What metrics and columns of decisions stand for.
use Rattle.viterbi.proofs.Common.{◌≡◌, ℕ, zero, suc, ◌+◌, ◌*◌, ◌%◌, ◌<◌, ◌≤◌, Bool, true, false, List, [], ◌∷◌, ◌++◌, length, get_or, map}
use Rattle.viterbi.proofs.Common.{refl, sym, ap, subst, ◌∙◌, arith, ℤ, pos, ◌+ℤ◌, ◌-ℤ◌, unsigned_abs, Option, Some, None, nat_le, int_lt}
use Rattle.viterbi.proofs.Common.{ints, get_or-map, range_with_len, get_or-map-range_with_len, digit, low_bits, survivor_into, took, path}
use Rattle.viterbi.proofs.Common.{state_before, path_origin, metric_from, metric_into, choice_into, wants, taken_of, forced_at, Agrees}
use Rattle.viterbi.proofs.Common.{Ends, Survivor}
use Rattle.viterbi.proofs.Choices.{IsBestOf}
use Rattle.viterbi.proofs.Steps.{Into, Survive, survivor_into_best}
use Rattle.viterbi.proofs.Living.{alive}
use Rattle.viterbi.proofs.Traced.{step_agrees}
use Rattle.viterbi.proofs.ColumnSteps.{metric_size}

-- the first k columns are the same
abbrev pub Same : ℕ → List (List ℕ) → List (List ℕ) → Type 0
Same k columns columns' = (j : ℕ) → j < k → get_or columns' j [] ≡ get_or columns j []

same_path : (k : ℕ) (columns columns' : List (List ℕ)) (t : ℕ) → Same k columns columns' →
    path columns' k t ≡ path columns k t
unfolding path
same_path zero columns columns' t h = refl
same_path (suc k) columns columns' t h =
    let here : state_before columns' k t ≡ state_before columns k t =
    ap (λ (r : List ℕ). 2 * (t % 128) + digit (took r t)) (h k (omega arith)) in
    ap (λ (u : ℕ). path columns' k u ++ nat_le 128 t ∷ []) here
    ∙ ap (λ (r : List Bool). r ++ nat_le 128 t ∷ [])
    (same_path k columns columns' (state_before columns k t) (λ j b. h j (omega (arith, b))))

same_origin : (k : ℕ) (columns columns' : List (List ℕ)) (t : ℕ) → Same k columns columns' →
    path_origin columns' k t ≡ path_origin columns k t
unfolding path_origin
same_origin zero columns columns' t h = refl
same_origin (suc k) columns columns' t h =
    let here : state_before columns' k t ≡ state_before columns k t =
    ap (λ (r : List ℕ). 2 * (t % 128) + digit (took r t)) (h k (omega arith)) in
    ap (path_origin columns' k) here ∙ same_origin k columns columns' (state_before columns k t)
    (λ j b. h j (omega (arith, b)))

same_agrees : (k : ℕ) (columns columns' : List (List ℕ)) (t : ℕ) (metric : ℤ) (o : Option Survivor) →
    Same k columns columns' → Agrees columns k t metric o → Agrees columns' k t metric o
same_agrees k columns columns' t metric None same h = tt
same_agrees k columns columns' t metric (Some s) same h = (
  h.0,
  (
    same_path k columns columns' t same ∙ h.1.0,
    h.1.1
        ∙ ap (low_bits 8) (sym (same_origin k columns columns' t same)),
  ),
)

-- ALL METRICS CHANGED BY ONE NUMBER
abbrev moved : ℤ → List ℤ → List ℤ
moved by xs = map (λ x. x +ℤ by) xs

moved_read : (by : ℤ) (xs : List ℤ) (u : ℕ) → length xs ≡ 256 → u < 256 →
    get_or (moved by xs) u (pos 0) ≡ get_or xs u (pos 0) +ℤ by
moved_read by xs u whole b = get_or-map (λ x. x +ℤ by) xs u (pos 0) (pos 0) (omega (arith, whole, b))

sum_moved : (x by gain : ℤ) → (x +ℤ by) +ℤ gain ≡ (x +ℤ gain) +ℤ by
sum_moved x by gain = omega (arith, ints)

from_moved : (by : ℤ) (xs : List ℤ) (f s : ℤ) (t oldest : ℕ) → length xs ≡ 256 → oldest < 2 →
    metric_from (moved by xs) f s t oldest ≡ metric_from xs f s t oldest +ℤ by
unfolding metric_from
from_moved by xs f s t oldest whole two =
    rw (moved_read by xs (2 * (t % 128) + oldest) whole (omega (arith, two)))
    (sum_moved (get_or xs (2 * (t % 128) + oldest) (pos 0)) by _)

less_moved : (x y by : ℤ) → int_lt (x +ℤ by) (y +ℤ by) ≡ int_lt x y
less_moved x y by = by_test (int_lt x y) (int_lt (x +ℤ by) (y +ℤ by)) refl refl where
  by_test : (c d : Bool) → int_lt x y ≡ c → int_lt (x +ℤ by) (y +ℤ by) ≡ d → d ≡ c
  by_test true true p q = refl
  by_test false false p q = refl
  by_test true false p q = grind (arith, ints, p, q)
  by_test false true p q = grind (arith, ints, p, q)

wants_moved : (forced : Bool) (x y by : ℤ) → wants forced (x +ℤ by) (y +ℤ by) ≡ wants forced x y
wants_moved true x y by = refl
wants_moved false x y by = less_moved x y by

taken_moved : (c : Bool) (x y by : ℤ) → taken_of c (x +ℤ by) (y +ℤ by) ≡ taken_of c x y +ℤ by
taken_moved true x y by = refl
taken_moved false x y by = refl

choice_moved : (by : ℤ) (xs : List ℤ) (forced : Bool) (f s : ℤ) (t : ℕ) → length xs ≡ 256 →
    choice_into forced (moved by xs) f s t ≡ choice_into forced xs f s t
unfolding choice_into
choice_moved by xs forced f s t whole =
    rw (from_moved by xs f s t 0 whole (omega arith), from_moved by xs f s t 1 whole (omega arith))
    (wants_moved forced (metric_from xs f s t 0) (metric_from xs f s t 1) by)

metric_moved : (by : ℤ) (xs : List ℤ) (forced : Bool) (f s : ℤ) (t : ℕ) → length xs ≡ 256 →
    metric_into forced (moved by xs) f s t ≡ metric_into forced xs f s t +ℤ by
unfolding metric_into
metric_moved by xs forced f s t whole =
    rw (
      choice_moved by xs forced f s t whole,
      from_moved by xs f s t 0 whole (omega arith),
      from_moved by xs f s t 1 whole (omega arith),
    )
    (taken_moved (choice_into forced xs f s t) (metric_from xs f s t 0) (metric_from xs f s t 1) by)

-- what is taken off and then added again
back_again : (x taken top : ℤ) → (x -ℤ top) +ℤ (taken +ℤ top) ≡ x +ℤ taken
back_again x taken top = omega (arith, ints)

-- a metric of the next column and what was taken off
pub next_score : (taken top : ℤ) (xs : List ℤ) (forced : Bool) (f s x : ℤ) (t : ℕ) → length xs ≡ 256 →
    x ≡ metric_into forced xs f s t -ℤ top → x +ℤ (taken +ℤ top) ≡ metric_into forced (moved taken xs) f s t
next_score taken top xs forced f s x t whole is =
    ap (λ (z : ℤ). z +ℤ (taken +ℤ top)) is
    ∙ back_again (metric_into forced xs f s t) taken top
    ∙ sym (metric_moved taken xs forced f s t whole)

-- metrics within a bound stay so
pub next_size : (taken top : ℤ) (xs : List ℤ) (forced : Bool) (f s x : ℤ) (bound t : ℕ) → length xs ≡ 256 →
    ((u : ℕ) → u < 256 → unsigned_abs (get_or xs u (pos 0) +ℤ taken) ≤ bound) → x ≡ metric_into forced xs f s t -ℤ top →
    unsigned_abs (x +ℤ (taken +ℤ top)) ≤ bound + (unsigned_abs f + unsigned_abs s)
next_size taken top xs forced f s x bound t whole small is =
    rw (next_score taken top xs forced f s x t whole is)
    (metric_size forced (moved taken xs) f s bound t (λ u b. rw (moved_read taken xs u whole b) (small u b)))

-- there are survivors that the metrics, what was taken off them, and the first k columns give
pub record SurvivorsStand (softs : List ℤ) (ends : Ends) (k : ℕ) (taken : ℤ) (metrics : List ℤ)
    (columns : List (List ℕ)) : Type 0 where
  pub column : List (Option Survivor)
  pub survive : Survive softs ends k column
  pub agree : (t : ℕ) → t < 256 → Agrees columns k t (get_or metrics t (pos 0) +ℤ taken) (get_or column t None)

-- one bit more
pub step_stands : (softs : List ℤ) (ends : Ends) (k : ℕ) (taken top : ℤ) (metrics next : List ℤ)
    (columns columns' : List (List ℕ)) → 2 * k + 2 ≤ length softs → length metrics ≡ 256 →
    SurvivorsStand softs ends k taken metrics columns → Same k columns columns' →
    ((t : ℕ) → t < 256 →
    get_or next t (pos 0) ≡ metric_into (forced_at ends k) metrics (get_or softs (2 * k) (pos 0))
    (get_or softs (2 * k + 1) (pos 0)) t -ℤ top) →
    ((t : ℕ) → t < 256 →
    took (get_or columns' k []) t ≡ choice_into (forced_at ends k) metrics
    (get_or softs (2 * k) (pos 0)) (get_or softs (2 * k + 1) (pos 0)) t) →
    SurvivorsStand softs ends (suc k) (taken +ℤ top) next columns'
step_stands softs ends k taken top metrics next columns columns' room whole h same nexts choices =
    record {
      column = map (survivor_into h.column first second) (range_with_len 0 256);
      survive =
          λ t b. subst (λ (o : Option Survivor). IsBestOf softs (Into ends (suc k) (low_bits 8 t)) o)
          (sym (reads t b)) (survivor_into_best softs ends k h.column room h.survive t b);
      agree = λ t b.
          rw (
            reads t b,
            next_score taken top metrics (forced_at ends k) first second
                (get_or next t (pos 0)) t whole (nexts t b),
          )
          (step_agrees columns' k t (forced_at ends k) (moved taken metrics) h.column first second
          (λ u c. rw (moved_read taken metrics u whole c)
          (same_agrees k columns columns' u (get_or metrics u (pos 0) +ℤ taken) (get_or h.column u None) same
          (h.agree u c)))
          (alive softs ends k h.column h.survive t)
          (choices t b ∙ sym (choice_moved taken metrics (forced_at ends k) first second t whole)));
    } where
      first : ℤ
      first = get_or softs (2 * k) (pos 0)

      second : ℤ
      second = get_or softs (2 * k + 1) (pos 0)

      reads : (t : ℕ) → t < 256 → get_or (map (survivor_into h.column first second) (range_with_len 0 256)) t None
          ≡ survivor_into h.column first second t
      reads t b = get_or-map-range_with_len (survivor_into h.column first second) 0 256 t t None b (omega arith)

-- of other columns only the first k matter
pub stands_same : (softs : List ℤ) (ends : Ends) (k : ℕ) (taken : ℤ) (metrics : List ℤ)
    (columns columns' : List (List ℕ)) → Same k columns columns' →
    SurvivorsStand softs ends k taken metrics columns → SurvivorsStand softs ends k taken metrics columns'
stands_same softs ends k taken metrics columns columns' same h = record {
  column = h.column;
  survive = h.survive;
  agree = λ t b. same_agrees k columns columns' t (get_or metrics t (pos 0) +ℤ taken)
      (get_or h.column t None) same (h.agree t b);
}

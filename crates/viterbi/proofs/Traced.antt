-- A step over columns of decisions against a step over survivors.
use Rattle.viterbi.proofs.Common.{◌≡◌, ℕ, suc, ◌+◌, ◌*◌, ◌%◌, ◌<◌, Bool, true, false, List, [], ◌∷◌, ◌++◌, get_or, refl, ap, ◌∙◌, arith, ℤ}
use Rattle.viterbi.proofs.Common.{pos, ◌+ℤ◌, Option, Some, None, int_lt, if◌then◌else◌, nat_le, digit, extended_by, better_survivor, took}
use Rattle.viterbi.proofs.Common.{survivor_from, survivor_into, state_before, path_origin, path, metric_from, metric_into, choice_into}
use Rattle.viterbi.proofs.Common.{wants, taken_of, Agrees, Alive, Survivor}

-- the survivor that a column's decision leads back to, with one bit more
one_more : (columns : List (List ℕ)) (k t : ℕ) (choice : Bool) (metric gain : ℤ) (s : Survivor) →
    took (get_or columns k []) t ≡ choice → Agrees columns k (2 * (t % 128) + digit choice) metric (Some s) →
    Agrees columns (suc k) t (metric +ℤ gain) (extended_by (nat_le 128 t) gain (Some s))
unfolding path path_origin
one_more columns k t choice metric gain s is h =
    let before : state_before columns k t ≡ 2 * (t % 128) + digit choice =
    ap (λ (c : Bool). 2 * (t % 128) + digit c) is in
    rw before (ap (λ (z : ℤ). z +ℤ gain) h.0, (ap (λ (bits : List Bool). bits ++ nat_le 128 t ∷ []) h.1.0, h.1.1))

-- add, compare and select, for one state
pub selected : (columns : List (List ℕ)) (k t : ℕ) (forced : Bool) (m0 m1 g0 g1 : ℤ) (o0 o1 : Option Survivor) →
    Agrees columns k (2 * (t % 128) + 0) m0 o0 → Agrees columns k (2 * (t % 128) + 1) m1 o1 → Alive forced o0 o1 →
    took (get_or columns k []) t ≡ wants forced (m0 +ℤ g0) (m1 +ℤ g1) →
    Agrees columns (suc k) t (taken_of (wants forced (m0 +ℤ g0) (m1 +ℤ g1)) (m0 +ℤ g0) (m1 +ℤ g1))
    (better_survivor (extended_by (nat_le 128 t) g0 o0) (extended_by (nat_le 128 t) g1 o1))
selected columns k t true m0 m1 g0 g1 None None h0 h1 alive is = tt
selected columns k t true m0 m1 g0 g1 (Some s0) None h0 h1 alive is = one_more columns k t false m0 g0 s0 is h0
selected columns k t true m0 m1 g0 g1 o0 (Some s1) h0 h1 alive is = absurd alive
selected columns k t false m0 m1 g0 g1 None o1 h0 h1 alive is = absurd alive
selected columns k t false m0 m1 g0 g1 (Some s0) None h0 h1 alive is = absurd alive
selected columns k t false m0 m1 g0 g1 (Some s0) (Some s1) h0 h1 alive is =
    by_test (int_lt (m0 +ℤ g0) (m1 +ℤ g1)) refl where
      same : int_lt (s0.score +ℤ g0) (s1.score +ℤ g1) ≡ int_lt (m0 +ℤ g0) (m1 +ℤ g1)
      same = rw (h0.0, h1.0) refl

      by_test : (c : Bool) → int_lt (m0 +ℤ g0) (m1 +ℤ g1) ≡ c →
          Agrees columns (suc k) t (taken_of (int_lt (m0 +ℤ g0) (m1 +ℤ g1)) (m0 +ℤ g0) (m1 +ℤ g1))
          (if int_lt (s0.score +ℤ g0) (s1.score +ℤ g1)
          then extended_by (nat_le 128 t) g1 (Some s1) else
          extended_by (nat_le 128 t) g0 (Some s0))
      by_test true e = rw (same, e) (one_more columns k t true m1 g1 s1 (is ∙ e) h1)
      by_test false e = rw (same, e) (one_more columns k t false m0 g0 s0 (is ∙ e) h0)

-- the same for the step's own codewords
pub step_agrees : (columns : List (List ℕ)) (k t : ℕ) (forced : Bool) (metrics : List ℤ)
    (column : List (Option Survivor)) (first second : ℤ) →
    ((u : ℕ) → u < 256 → Agrees columns k u (get_or metrics u (pos 0)) (get_or column u None)) →
    Alive forced (get_or column (2 * (t % 128) + 0) None) (get_or column (2 * (t % 128) + 1) None) →
    took (get_or columns k []) t ≡ choice_into forced metrics first second t →
    Agrees columns (suc k) t (metric_into forced metrics first second t) (survivor_into column first second t)
unfolding metric_from metric_into choice_into survivor_from survivor_into
step_agrees columns k t forced metrics column first second each alive is =
    selected columns k t forced _ _ _ _ (get_or column (2 * (t % 128) + 0) None)
    (get_or column (2 * (t % 128) + 1) None)
    (each (2 * (t % 128) + 0) (omega arith)) (each (2 * (t % 128) + 1) (omega arith)) alive is

-- Metrics and columns before the first bit, and the best codeword from those after the last.
use Rattle.viterbi.proofs.Common.{◌≡◌, ℕ, zero, suc, ◌*◌, ◌<◌, ◌≤◌, Bool, false, List, [], length, get_or, map, refl, sym, ap, subst, ◌∙◌}
use Rattle.viterbi.proofs.Common.{arith, ℤ, pos, ◌+ℤ◌, ◌<ℤ◌, ◌≤ℤ◌, ⊎_elim, inl, inr, Option, Some, None, reverse_bits_onto, range_with_len}
use Rattle.viterbi.proofs.Common.{ints, by_lt_z, get_or-map-range_with_len, cases_lt, eqb-true, nat_tests, binary, IsFirstGreatest, Start}
use Rattle.viterbi.proofs.Common.{Codeword, score_of, spelled_codeword, IsBestCodeword, low_bits, end_count, path_origin, path, forced_at}
use Rattle.viterbi.proofs.Common.{Agrees, Ends, Zero, Free, Survivor}
use Rattle.viterbi.proofs.StateBits.{binary-turned, low_first-low_bits}
use Rattle.viterbi.proofs.Choices.{IsBest, IsBestOf, AtLeast, at_least_trans, codewords_same}
use Rattle.viterbi.proofs.Steps.{Into, order_by_state}
use Rattle.viterbi.proofs.Finish.{survive_start, zero_start, IntoBelow, best_is}
use Rattle.viterbi.proofs.Made.{end_count_le}
use Rattle.viterbi.proofs.Living.{has_survivor}
use Rattle.viterbi.proofs.Standing.{SurvivorsStand}

-- BEFORE THE FIRST BIT
abbrev begun : ℕ → Survivor
begun t = record { score = pos 0; codeword = record { start = reverse_bits_onto 8 t 0; bits = [] } }

first_of : Ends → ℕ → Option Survivor
first_of Zero zero = Some (begun 0)
first_of Zero (suc t) = None
first_of Free t = Some (begun t)

first_starts : (ends : Ends) (t : ℕ) → t < 256 → Start ends t (first_of ends t)
unfolding first_of
first_starts Zero zero b =
    record {
      begins = (zero_start 0 b).0 refl;
      start = binary-turned 0;
      none = refl;
      nothing =
          refl;
    }
first_starts Zero (suc t) b = λ z. absurd (none (eqb-true (suc t) 0 ((zero_start (suc t) b).1 z)))
  where
    none : ¬ (suc t ≡ 0)
    none e = omega (arith, e)
first_starts Free t b = record { begins = tt; start = binary-turned t; none = refl; nothing = refl }

first_agrees : (columns : List (List ℕ)) (ends : Ends) (t : ℕ) → Agrees columns 0 t (pos 0) (first_of ends t)
unfolding first_of path path_origin
first_agrees columns Zero zero = (refl, (refl, binary-turned 0))
first_agrees columns Zero (suc t) = tt
first_agrees columns Free t = (refl, (refl, binary-turned t))

pub stands_first : (softs : List ℤ) (ends : Ends) (metrics : List ℤ) (columns : List (List ℕ)) →
    ((t : ℕ) → t < 256 → get_or metrics t (pos 0) ≡ pos 0) → SurvivorsStand softs ends 0 (pos 0) metrics columns
stands_first softs ends metrics columns zeros = record {
  column = map (first_of ends) (range_with_len 0 256);
  survive = survive_start softs ends (map (first_of ends) (range_with_len 0 256))
      (λ t b. subst (Start ends t) (sym (reads t b)) (first_starts ends t b));
  agree = λ t b. rw (reads t b, zeros t b) (first_agrees columns ends t);
} where
  reads : (t : ℕ) → t < 256 → get_or (map (first_of ends) (range_with_len 0 256)) t None ≡ first_of ends t
  reads t b = get_or-map-range_with_len (first_of ends) 0 256 t t None b (omega arith)

-- AFTER THE LAST BIT
-- the best codeword into a state, as the metric and the columns give it
pub record IsTraced (softs : List ℤ) (ends : Ends) (n t : ℕ) (metric : ℤ) (columns : List (List ℕ)) :
    Type 0 where
  pub s : Survivor
  pub best : IsBest softs (Into ends n (low_bits 8 t)) s
  pub score : metric ≡ s.score
  pub bits : path columns n t ≡ s.codeword.bits
  pub start : binary 8 s.codeword.start ≡ low_bits 8 (path_origin columns n t)

traced_of : (softs : List ℤ) (ends : Ends) (n t : ℕ) (metric : ℤ) (columns : List (List ℕ))
    (o : Option Survivor) → forced_at ends n ≡ false →
    IsBestOf softs (Into ends n (low_bits 8 t)) o → Agrees columns n t metric o → IsTraced softs ends n t metric columns
traced_of softs ends n t metric columns None free h a = absurd (has_survivor softs ends n t free h)
traced_of softs ends n t metric columns (Some s) free h a =
    record { s = s; best = h; score = a.0; bits = a.1.0; start = a.1.1 }

pub traced : (softs : List ℤ) (ends : Ends) (n : ℕ) (taken : ℤ) (metrics : List ℤ)
    (columns : List (List ℕ)) → forced_at ends n ≡ false →
    SurvivorsStand softs ends n taken metrics columns → (t : ℕ) → t < 256 →
    IsTraced softs ends n t (get_or metrics t (pos 0) +ℤ taken) columns
traced softs ends n taken metrics columns free h t b =
    traced_of softs ends n t (get_or metrics t (pos 0) +ℤ taken) columns (get_or h.column t None) free
    (h.survive t b) (h.agree t b)

less_stays : (x y taken : ℤ) → x <ℤ y → (x +ℤ taken) <ℤ (y +ℤ taken)
less_stays x y taken h = omega (arith, ints, h)

most_stays : (x y taken : ℤ) → x ≤ℤ y → (x +ℤ taken) ≤ℤ (y +ℤ taken)
most_stays x y taken h = omega (arith, ints, h)

-- the first of the greatest metrics of the end states is the best codeword's
pub ends_best : (softs : List ℤ) (ends : Ends) (n : ℕ) (taken : ℤ) (metrics : List ℤ)
    (columns : List (List ℕ)) (end : ℕ) → forced_at ends n ≡ false → SurvivorsStand softs ends n taken metrics columns →
    IsFirstGreatest (λ t. get_or metrics t (pos 0)) (end_count ends) end → (b : end < 256)
    (s : IsTraced softs ends n end (get_or metrics end (pos 0) +ℤ taken) columns) →
    IsBest softs (IntoBelow ends n (end_count ends)) s.s
ends_best softs ends n taken metrics columns end free h g b s = record {
  kind = record { state = end; below = g.below; into = s.best.kind };
  score = s.best.score;
  most = λ w k. against w k.state k.below k.into;
} where
  a : Codeword
  a = spelled_codeword s.s.codeword

  as_good : (u : ℕ) (v : Codeword) → score_of softs v ≤ℤ score_of softs a →
      Into ends n (low_bits 8 u) v → end < u → u < 256 → AtLeast (score_of softs) a v
  as_good u v le into lt small = by_lt_z (score_of softs v) (score_of softs a) (λ less. inl less)
      (λ back.
      let p = low_first-low_bits 8 end b in
      let q = low_first-low_bits 8 u small in
      let order = order_by_state ends n (low_bits 8 end) (low_bits 8 u) a v s.best.kind into
      (omega (arith, p, q, lt)) in
      let e : score_of softs v ≡ score_of softs a = omega (arith, ints, le, back) in
      inr (e, omega (arith, order)))

  -- The codeword of the chosen end state is at least as good as any that ends in state u, since
  -- that one is at most as good as the survivor of u: before the chosen state all metrics are
  -- lesser, after it none is greater, and at a tie the codeword of the lesser state comes first.
  against : (w : Codeword) (u : ℕ) → u < end_count ends → Into ends n (low_bits 8 u) w → AtLeast (score_of softs) a w
  against w u below into =
      let few = end_count_le ends in
      let small : u < 256 = omega (arith, below, few) in
      let other = traced softs ends n taken metrics columns free h u small in
      let v = spelled_codeword other.s.codeword in
      let score_a : get_or metrics end (pos 0) +ℤ taken ≡ score_of softs a = s.score
      ∙ s.best.score in
      let score_v : get_or metrics u (pos 0) +ℤ taken ≡ score_of softs v = other.score
      ∙ other.best.score in
      let rest : AtLeast (score_of softs) v w = other.best.most w into in
      ⊎_elim
      (λ less. at_least_trans (score_of softs) a v w
      (inl (rw (← score_a, ← score_v)
      (less_stays (get_or metrics u (pos 0)) (get_or metrics end (pos 0)) taken (g.first u less))))
      rest)
      (λ ge. ⊎_elim
      (λ lt. at_least_trans (score_of softs) a v w
      (as_good u v
      (rw (← score_a, ← score_v)
      (most_stays (get_or metrics u (pos 0)) (get_or metrics end (pos 0)) taken
      (g.greatest u below))) other.best.kind lt small) rest)
      (λ le. let same : u ≡ end = omega (arith, ge, le) in s.best.most w
      (subst (λ (t : ℕ). Into ends n (low_bits 8 t) w) same into))
      (cases_lt end u))
      (cases_lt u end)

-- the decoder's codeword and its score
pub codeword_found : (softs : List ℤ) (ends : Ends) (n : ℕ) (taken : ℤ) (metrics : List ℤ)
    (columns : List (List ℕ)) (end start : ℕ) (bits : List Bool) → 8 ≤ n → 2 * n ≡ length softs →
    SurvivorsStand softs ends n taken metrics columns → IsFirstGreatest (λ t. get_or metrics t (pos 0)) (end_count ends) end →
    start ≡ reverse_bits_onto 8 (path_origin columns n end) 0 → bits ≡ path columns n end →
    IsBestCodeword softs ends (spelled_codeword (record { start = start; bits = bits }))
    × (get_or metrics end (pos 0) +ℤ taken
    ≡ score_of softs (spelled_codeword (record { start = start; bits = bits })))
codeword_found softs ends n taken metrics columns end start bits long half h g starts is =
    let few = end_count_le ends in
    let e = g.below in
    let b : end < 256 = omega (arith, e, few) in
    let s = traced softs ends n taken metrics columns (no_closed ends n long) h end b in
    let best = best_is softs ends n s.s long half
    (ends_best softs ends n taken metrics columns end (no_closed ends n long) h g b s) in
    let same_start : binary 8 start ≡ binary 8 s.s.codeword.start = ap (binary 8) starts
    ∙ binary-turned (path_origin columns n end) ∙ sym s.start in
    let same : spelled_codeword s.s.codeword ≡ spelled_codeword (record { start = start; bits = bits }) =
    codewords_same (spelled_codeword s.s.codeword) (spelled_codeword (record { start = start; bits = bits })) (sym same_start)
    (sym (is ∙ s.bits)) in (
      subst (λ (w : Codeword). IsBestCodeword softs ends w) same best,
      s.score ∙ s.best.score
          ∙ ap (score_of softs) same,
    ) where
      no_closed : (ends : Ends) (n : ℕ) → 8 ≤ n → forced_at ends n ≡ false
      no_closed Zero n long = grind (arith, nat_tests, long)
      no_closed Free n long = refl

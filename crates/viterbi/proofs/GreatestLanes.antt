-- The greatest metrics, lane by lane.
use Rattle.viterbi.proofs.Common.{◌≡◌, ℕ, ◌+◌, ◌*◌, ◌/◌, ◌%◌, ◌<◌, Bool, true, false, List, length, get_or, refl, sym, ap, ◌∙◌, arith, ℤ}
use Rattle.viterbi.proofs.Common.{pos, negsuc, ◌≤ℤ◌, FitsSigned, w64, ◌⊎◌, inl, inr, replicate, int_lt, ints, cases_eq, get_or-replicate}
use Rattle.viterbi.proofs.Common.{get_or-zip2, length-zip2, Each1-get_or, Each1-from_get_or, Each1, zip2, IsGreatest, taken_of, AreGreater}
use Rattle.viterbi.proofs.Blocks.{passed, kept}

abbrev pub greater_of : ℤ → ℤ → ℤ
greater_of x y = taken_of (int_lt x y) x y

one_le : (x y : ℤ) → x ≤ℤ greater_of x y
one_le x y = by_test (int_lt x y) refl where
  by_test : (c : Bool) → int_lt x y ≡ c → x ≤ℤ taken_of c x y
  by_test true e = grind (arith, ints, e)
  by_test false e = omega (arith, ints)

other_le : (x y : ℤ) → y ≤ℤ greater_of x y
other_le x y = by_test (int_lt x y) refl where
  by_test : (c : Bool) → int_lt x y ≡ c → y ≤ℤ taken_of c x y
  by_test true e = omega (arith, ints)
  by_test false e = grind (arith, ints, e)

either : (P : ℤ → Type 0) (x y : ℤ) → P x → P y → P (greater_of x y)
either P x y p q = by_test (int_lt x y) where
  by_test : (c : Bool) → P (taken_of c x y)
  by_test true = q
  by_test false = p

fit_at : (xs : List ℤ) (l : ℕ) → l < length xs → Each1 (λ x. FitsSigned w64 x) xs → FitsSigned w64 (get_or xs l (pos 0))
fit_at xs l b h = Each1-get_or (λ x. FitsSigned w64 x) xs l (pos 0) b h

pub are_greater : (xs ys m : List ℤ) → length xs ≡ 8 → length ys ≡ 8 →
    Each1 (λ x. FitsSigned w64 x) xs → Each1 (λ x. FitsSigned w64 x) ys →
    m ≡ zip2 (λ x y. taken_of (int_lt x y) x y) (passed xs) (passed ys) → AreGreater xs ys (passed m)
are_greater xs ys m p q f g is = rw (kept m fit) (record {
  long = long;
  fit = fit;
  first = λ l b. rw (here l b) (one_le (get_or xs l (pos 0)) (get_or ys l (pos 0)));
  second = λ l b. rw (here l b) (other_le (get_or xs l (pos 0)) (get_or ys l (pos 0)));
  least = λ bound l b one other. rw (here l b)
      (either (λ z. z ≤ℤ bound) (get_or xs l (pos 0)) (get_or ys l (pos 0)) one other);
}) where
  plain : m ≡ zip2 (λ x y. taken_of (int_lt x y) x y) xs ys
  plain = is ∙ rw (kept xs f, kept ys g) refl

  long : length m ≡ 8
  long = ap length plain ∙ length-zip2 (λ x y. taken_of (int_lt x y) x y) xs ys (p ∙ sym q) ∙ p

  here : (l : ℕ) → l < 8 → get_or m l (pos 0) ≡ greater_of (get_or xs l (pos 0)) (get_or ys l (pos 0))
  here l b =
      ap (λ (r : List ℤ). get_or r l (pos 0)) plain
      ∙ get_or-zip2 (λ x y. taken_of (int_lt x y) x y) xs ys l (pos 0) (pos 0) (pos 0)
      (omega (arith, p, b)) (omega (arith, q, b))

  fit : Each1 (λ x. FitsSigned w64 x) m
  fit = Each1-from_get_or (λ x. FitsSigned w64 x) m (pos 0)
      (λ l b. rw (here l (omega (arith, b, long)))
      (either (FitsSigned w64) (get_or xs l (pos 0)) (get_or ys l (pos 0))
      (fit_at xs l (omega (arith, b, long, p)) f) (fit_at ys l (omega (arith, b, long, q)) g)))

-- A WHOLE ROW
-- lane l is the greatest of the values at l, 8 + l, 16 + l and so on, of the blocks that are done
pub record AreTops (value : ℕ → ℤ) (k : ℕ) (most : List ℤ) : Type 0 where
  pub long : length most ≡ 8
  pub fit : Each1 (λ x. FitsSigned w64 x) most
  pub over : (t : ℕ) → t < 256 → t / 8 % 16 < k → value t ≤ℤ get_or most (t % 8) (pos 0)
  pub least : (bound : ℤ) → ((t : ℕ) → t < 256 → value t ≤ℤ bound) → (l : ℕ) → l < 8 → get_or most l (pos 0) ≤ℤ bound

above_end : (z : ℤ) → FitsSigned w64 z → negsuc 9223372036854775807 ≤ℤ z
above_end (pos n) h = omega (arith, ints)
above_end (negsuc n) h = let s = h.sfits in omega (arith, ints, s)

int_le_trans : (x y z : ℤ) → x ≤ℤ y → y ≤ℤ z → x ≤ℤ z
int_le_trans x y z p q = omega (arith, ints, p, q)

pub tops_first : (value : ℕ → ℤ) → FitsSigned w64 (value 0) → AreTops value 0 (replicate 8 (negsuc 9223372036854775807))
tops_first value fits = record {
  long = refl;
  fit = Each1-from_get_or (λ x. FitsSigned w64 x) (replicate 8 (negsuc 9223372036854775807)) (pos 0)
      (λ l b. rw (get_or-replicate 8 l (negsuc 9223372036854775807) (pos 0) (omega (arith, b)))
      (record { sfits = omega arith }));
  over = λ t b none. absurd (omega (arith, none));
  least = λ bound all l b.
      rw (get_or-replicate 8 l (negsuc 9223372036854775807) (pos 0) b)
      (int_le_trans _ (value 0) bound (above_end (value 0) fits) (all 0 (omega arith)));
}

pub tops_more : (value : ℕ → ℤ) (k : ℕ) (most m n inner next : List ℤ) → k < 16 → AreTops value k most →
    AreGreater m n inner → AreGreater most inner next → ((l : ℕ) → l < 8 → get_or m l (pos 0) ≡ value (8 * k + l)) →
    ((l : ℕ) → l < 8 → get_or n l (pos 0) ≡ value (8 * (16 + k) + l)) → AreTops value (k + 1) next
tops_more value k most m n inner next few before wings all here there = record {
  long = all.long;
  fit = all.fit;
  over = λ t b done. by_block t b done (cases_eq (t / 8) k) (cases_eq (t / 8) (16 + k));
  least = λ bound each l b.
      all.least bound l b (before.least bound each l b)
      (wings.least bound l b (rw (here l b) (each (8 * k + l) (omega (arith, b, few))))
      (rw (there l b) (each (8 * (16 + k) + l) (omega (arith, b, few)))));
} where
  -- The lane's greatest value is at least that of each state that is done: a state of one of the
  -- two new blocks is compared in this step, and any other was compared before.
  by_block : (t : ℕ) → t < 256 → t / 8 % 16 < k + 1 → (t / 8 ≡ k) ⊎ (¬ (t / 8 ≡ k)) →
      (t / 8 ≡ 16 + k) ⊎ (¬ (t / 8 ≡ 16 + k)) → value t ≤ℤ get_or next (t % 8) (pos 0)
  by_block t b done (inl lower) q =
      let place : 8 * k + t % 8 ≡ t = omega (arith, lower) in
      let lane : t % 8 < 8 = omega arith in
      let is : get_or m (t % 8) (pos 0) ≡ value t = here (t % 8) lane ∙ ap value place in
      rw (← is) (int_le_trans _ _ _ (wings.first (t % 8) lane) (all.second (t % 8) lane))
  by_block t b done (inr off) (inl upper) =
      let place : 8 * (16 + k) + t % 8 ≡ t = omega (arith, upper) in
      let lane : t % 8 < 8 = omega arith in
      let is : get_or n (t % 8) (pos 0) ≡ value t = there (t % 8) lane ∙ ap value place in
      rw (← is) (int_le_trans _ _ _ (wings.second (t % 8) lane) (all.second (t % 8) lane))
  by_block t b done (inr off) (inr off') =
      let lane : t % 8 < 8 = omega arith in
      int_le_trans _ _ _ (before.over t b (lane_before off off')) (all.first (t % 8) lane) where
        lane_before : (¬ (t / 8 ≡ k)) → (¬ (t / 8 ≡ 16 + k)) → t / 8 % 16 < k
        lane_before p q = omega (arith, b, done, p, q)

pub column_greatest : (value : ℕ → ℤ) (most next : List ℤ) (top : ℤ) → length next ≡ 256 →
    AreTops value 16 most → IsGreatest most top →
    ((t : ℕ) → t < 256 → get_or next t (pos 0) ≡ value t) → IsGreatest next top
column_greatest value most next top whole tops h is = record {
  most = λ t b.
      let small : t < 256 = omega (arith, b, whole) in
      rw (is t small)
      (int_le_trans _ _ _ (tops.over t small (omega (arith, small)))
      (h.most (t % 8) (omega (arith, tops.long))));
  least = λ bound all. h.least bound
      (λ l b. tops.least bound (λ t small. rw (is t small) at (all t (omega (arith, small, whole))))
      l (omega (arith, b, tops.long)));
}

-- By how much less another phase of noiseless samples sums up to, if the pilot is louder than all other
-- channels together: in each sixteen samples some turn differs from the first.
use Rattle.clean_signal.proofs.Common.{◌≡◌, ◌≢◌, ℕ, zero, suc, ◌+◌, ◌*◌, ◌<◌, ◌≤◌, ◌%◌, Bool, true, false, List, [], ◌∷◌, length, refl, sym}
use Rattle.clean_signal.proofs.Common.{ap, subst, ◌∙◌, arith, ints, ℤ, pos, negsuc, unsigned_abs, ◌+ℤ◌, ◌*ℤ◌, Pair, Sample, times, plus}
use Rattle.clean_signal.proofs.Common.{conjugate, of_sample, scaled, sum_of, despread, code_point, pilot_chip, distrib_right, same_parts}
use Rattle.clean_signal.proofs.Common.{⊎_elim, ◌⊎◌, inl, inr, cases_lt, sum_below, sum_append, sum_same, sum_front}
use Rattle.chip_core.proofs.Magnitudes.{abs_sum}
use Rattle.short_code.proofs.CodeWindows.{odd_of, odd_step, one_phase, true_false, way_of, way_step}
use Rattle.clean_signal.proofs.signal.OwnPhase.{AreSpread, amount_to, scaled_size, spread_first, spread_rest, times_plus, turn}
use Rattle.clean_signal.proofs.signal.OwnPhase.{turned_point}

-- ---- the turn of a chip by another

pub unit : Bool → Bool → Pair
unit false false = record { i = pos 2; q = pos 0 }
unit false true = record { i = negsuc 1; q = pos 0 }
unit true false = record { i = pos 0; q = pos 2 }
unit true true = record { i = pos 0; q = negsuc 1 }

turn_unit : (a c b d : Bool) → turn (a, c) (b, d) ≡ unit (odd_step a c b d) (way_step a c b d)
unfolding unit odd_step way_step
turn_unit false false false true = refl
turn_unit false false true true = refl
turn_unit false true false true = refl
turn_unit false true true true = refl
turn_unit true false false true = refl
turn_unit true false true true = refl
turn_unit true true false true = refl
turn_unit true true true true = refl
turn_unit a c b d = refl

unit_size : (o w : Bool) → unsigned_abs (unit o w).i + unsigned_abs (unit o w).q ≡ 2
unfolding unit
unit_size false true = refl
unit_size true true = refl
unit_size o w = refl

-- the turn of one phase's chip by another's
abbrev pub turn_of : ℕ → ℕ → Pair
turn_of m n = unit (odd_of m n) (way_of m n)

-- ---- sums by index

amount_append : (a : ℕ → ℕ) (n m : ℕ) → amount_to a (n + m) ≡ amount_to a n + amount_to (λ t. a (n + t)) m
unfolding amount_to
amount_append a n zero = let e : n + 0 ≡ n = omega arith in rw e (omega arith)
amount_append a n (suc m) =
    let e : n + suc m ≡ suc (n + m) = omega arith in
    let rest = amount_append a n m in
    rw e (omega (arith, rest))

pub amount_least : (a : ℕ → ℕ) (least n : ℕ) → ((t : ℕ) → least ≤ a t) → least * n ≤ amount_to a n
unfolding amount_to
amount_least a least zero each = omega arith
amount_least a least (suc n) each =
    let rest = amount_least a least n each in
    let here = each n in
    let more : least * suc n ≡ least * n + least = omega arith in
    omega (arith, rest, here, more)

-- a part of the turn by which a sample adds to the sum
abbrev pub part_at : (Pair → ℤ) → (ℕ → ℕ) → ℕ → ℕ → ℕ → ℤ
part_at part a phase f t = pos (a t) *ℤ part (turn_of (phase + t) (f + t))

abbrev pub part_to : (Pair → ℤ) → (ℕ → ℕ) → ℕ → ℕ → ℕ → ℤ
part_to part a phase f n = sum_below n (part_at part a phase f)

-- the real part of a number, or its imaginary part
abbrev pub side : Bool → Pair → ℤ
side false z = z.i
side true z = z.q

at_first : (part : Pair → ℤ) (a : ℕ → ℕ) (phase f : ℕ) → part_at part a phase f 0 ≡ pos (a 0) *ℤ part (turn_of phase f)
at_first part a phase f =
    let p : phase + 0 ≡ phase = omega arith in
    let q : f + 0 ≡ f = omega arith in
    ap (λ (n : ℕ). pos (a 0) *ℤ part (turn_of n (f + 0))) p
    ∙ ap (λ (n : ℕ). pos (a 0) *ℤ part (turn_of phase n)) q

at_next : (part : Pair → ℤ) (a : ℕ → ℕ) (phase f t : ℕ) →
    part_at part a phase f (suc t) ≡ part_at part (λ t. a (suc t)) (phase + 1) (f + 1) t
at_next part a phase f t =
    let p : phase + suc t ≡ phase + 1 + t = omega arith in
    let q : f + suc t ≡ f + 1 + t = omega arith in
    ap (λ (n : ℕ). pos (a (suc t)) *ℤ part (turn_of n (f + suc t))) p
    ∙ ap (λ (n : ℕ). pos (a (suc t)) *ℤ part (turn_of (phase + 1 + t) n)) q

front : (part : Pair → ℤ) (a : ℕ → ℕ) (phase f n : ℕ) → part_to part a phase f (suc n) ≡
    (pos (a 0) *ℤ part (turn_of phase f)) +ℤ part_to part (λ t. a (suc t)) (phase + 1) (f + 1) n
front part a phase f n =
    sum_front n (part_at part a phase f)
    ∙ ap (λ (z : ℤ). z +ℤ sum_below n (λ t. part_at part a phase f (suc t))) (at_first part a phase f)
    ∙ ap (λ (z : ℤ). (pos (a 0) *ℤ part (turn_of phase f)) +ℤ z) (sum_same n _ _ (λ t lt. at_next part a phase f t))

-- the sum of n samples at phase f, over the link
abbrev pub turned_to : (ℕ → ℕ) → ℕ → ℕ → ℕ → Pair
turned_to a phase f n = record { i = part_to (side false) a phase f n; q = part_to (side true) a phase f n }

pub turned_is : (h : Pair) (f phase : ℕ) (a : ℕ → ℕ) (xs : List Sample) → AreSpread h phase a xs →
    sum_of (despread f xs) ≡ times h (turned_to a phase f (length xs))
unfolding sum_below
turned_is h f phase a [] are = same_parts _ _ _ _ (omega (arith, ints)) (omega (arith, ints))
turned_is h f phase a (x ∷ xs) are =
    let rest = turned_is h (f + 1) (phase + 1) (λ t. a (suc t)) xs (spread_rest h phase a x xs are) in
    let c = pilot_chip (phase % 32768) in
    let d = pilot_chip (f % 32768) in
    let first = scaled (pos (a 0)) (turn_of phase f) in
    let later = turned_to (λ t. a (suc t)) (phase + 1) (f + 1) (length xs) in
    let here : times (of_sample x) (conjugate (code_point f)) ≡ times h first =
    ap (λ (z : Pair). times z (conjugate (code_point f))) (spread_first h phase a x xs are)
    ∙ turned_point (pos (a 0)) h c d
    ∙ ap (λ (z : Pair). times h (scaled (pos (a 0)) z)) (turn_unit c.0 c.1 d.0 d.1) in
    let all : plus first later ≡ turned_to a phase f (suc (length xs)) =
    same_parts _ _ _ _ (sym (front (side false) a phase f (length xs)))
    (sym (front (side true) a phase f (length xs))) in
    ap (λ (z : Pair). plus z (sum_of (despread (f + 1) xs))) here ∙ ap (plus (times h first)) rest
    ∙ times_plus h first later ∙ ap (times h) all

-- ---- two turns that differ

decide : (x y : Bool) → (x ≡ y) ⊎ (x ≡ y → ⊥)
decide false false = inl refl
decide false true = inr (λ e. true_false (sym e))
decide true false = inr true_false
decide true true = inl refl

-- Of a sum of two turns that differ both parts are less than the amounts, by twice the lesser amount.
apart : (o w p v : Bool) (a b m : ℕ) → m ≤ a → m ≤ b → (o ≡ p → w ≡ v → ⊥) →
    (unsigned_abs ((pos a *ℤ (unit o w).i) +ℤ (pos b *ℤ (unit p v).i)) + 2 * m ≤ 2 * (a + b))
    × (unsigned_abs ((pos a *ℤ (unit o w).q) +ℤ (pos b *ℤ (unit p v).q)) + 2 * m ≤ 2 * (a + b))
unfolding unit
apart false false false false a b m pa pb differ = absurd (differ refl refl)
apart false true false true a b m pa pb differ = absurd (differ refl refl)
apart true false true false a b m pa pb differ = absurd (differ refl refl)
apart true true true true a b m pa pb differ = absurd (differ refl refl)
apart false false true true a b m pa pb differ = (omega (arith, ints, pa, pb), omega (arith, ints, pa, pb))
apart false true true true a b m pa pb differ = (omega (arith, ints, pa, pb), omega (arith, ints, pa, pb))
apart true false false true a b m pa pb differ = (omega (arith, ints, pa, pb), omega (arith, ints, pa, pb))
apart true true false true a b m pa pb differ = (omega (arith, ints, pa, pb), omega (arith, ints, pa, pb))
apart o w p v a b m pa pb differ = (omega (arith, ints, pa, pb), omega (arith, ints, pa, pb))

apart_in : (o w p v : Bool) (a b m : ℕ) → m ≤ a → m ≤ b → (o ≡ p → w ≡ v → ⊥) → (s : Bool) →
    unsigned_abs ((pos a *ℤ side s (unit o w)) +ℤ (pos b *ℤ side s (unit p v))) + 2 * m ≤ 2 * (a + b)
apart_in o w p v a b m pa pb differ false = (apart o w p v a b m pa pb differ).0
apart_in o w p v a b m pa pb differ true = (apart o w p v a b m pa pb differ).1

more_same : (m n : ℕ) (s u v : ℤ) → s ≡ pos m *ℤ u → v ≡ u → s +ℤ (pos n *ℤ v) ≡ pos (m + n) *ℤ u
more_same m n s u v is same =
    ap (λ (z : ℤ). s +ℤ (pos n *ℤ z)) same ∙ ap (λ (z : ℤ). z +ℤ (pos n *ℤ u)) is
    ∙ sym (distrib_right (pos m) (pos n) u)

more_less : (m n k : ℕ) (s t : ℤ) → unsigned_abs s + k ≤ 2 * m → unsigned_abs t ≤ 2 * n →
    unsigned_abs (s +ℤ t) + k ≤ 2 * (m + n)
more_less m n k s t small few =
    let sum = abs_sum s t in
    omega (arith, sum, small, few)

-- ---- the turns of a window, from its first sample on

module _ (a : ℕ → ℕ) (phase f least : ℕ) (each : (t : ℕ) → least ≤ a t) where
  abbrev IsSteadyTo : ℕ → Type 0
  IsSteadyTo n = (t : ℕ) → t < n →
      (odd_of (phase + t) (f + t) ≡ odd_of phase f) × (way_of (phase + t) (f + t) ≡ way_of phase f)

  abbrev IsOneTurnTo : ℕ → Type 0
  IsOneTurnTo n = IsSteadyTo n
      × ((s : Bool) → part_to (side s) a phase f n ≡ pos (amount_to a n) *ℤ side s (turn_of phase f))

  abbrev IsLessTo : ℕ → Type 0
  IsLessTo n = (s : Bool) → unsigned_abs (part_to (side s) a phase f n) + 2 * least ≤ 2 * amount_to a n

  steady_one_more : (n : ℕ) → IsSteadyTo n → odd_of (phase + n) (f + n) ≡ odd_of phase f →
      way_of (phase + n) (f + n) ≡ way_of phase f → IsSteadyTo (suc n)
  steady_one_more n steady odd way t lt = ⊎_elim (λ (before : t < n). steady t before)
      (λ (last : n ≤ t).
      let same : n ≡ t = omega (arith, lt, last) in
      subst (λ (j : ℕ). (odd_of (phase + j) (f + j) ≡ odd_of phase f)
      × (way_of (phase + j) (f + j) ≡ way_of phase f)) same (odd, way))
      (cases_lt t n)

  turn_small : (n : ℕ) → unsigned_abs (part_at (side false) a phase f n)
      + unsigned_abs (part_at (side true) a phase f n) ≤ 2 * a n
  turn_small n =
      let size = scaled_size (a n) (turn_of (phase + n) (f + n))
      (unit_size (odd_of (phase + n) (f + n)) (way_of (phase + n) (f + n))) in
      omega (arith, size)

  side_small : (n : ℕ) (s : Bool) → unsigned_abs (part_at (side s) a phase f n) ≤ 2 * a n
  side_small n false = let both = turn_small n in omega (arith, both)
  side_small n true = let both = turn_small n in omega (arith, both)

  pub turned_small : (n : ℕ) → unsigned_abs (part_to (side false) a phase f n)
      + unsigned_abs (part_to (side true) a phase f n) ≤ 2 * amount_to a n
  unfolding sum_below amount_to
  turned_small zero = omega arith
  turned_small (suc n) =
      let rest = turned_small n in
      let here = turn_small n in
      let i = abs_sum (part_to (side false) a phase f n) (part_at (side false) a phase f n) in
      let q = abs_sum (part_to (side true) a phase f n) (part_at (side true) a phase f n) in
      omega (arith, rest, here, i, q)

  -- the first turn that differs
  first_apart : (n : ℕ) → IsOneTurnTo n →
      (odd_of phase f ≡ odd_of (phase + n) (f + n) → way_of phase f ≡ way_of (phase + n) (f + n) → ⊥) → IsLessTo (suc n)
  unfolding sum_below amount_to
  first_apart zero one differ =
      let p : phase ≡ phase + 0 = omega arith in
      let q : f ≡ f + 0 = omega arith in
      absurd (differ (ap (λ (n : ℕ). odd_of n f) p ∙ ap (odd_of (phase + 0)) q)
      (ap (λ (n : ℕ). way_of n f) p ∙ ap (way_of (phase + 0)) q))
  first_apart (suc n) one differ =
      let more = each n in
      let some : least ≤ amount_to a n + a n = omega (arith, more) in
      λ s.
      rw (one.1 s)
      (apart_in (odd_of phase f) (way_of phase f) (odd_of (phase + suc n) (f + suc n))
      (way_of (phase + suc n) (f + suc n)) (amount_to a n + a n) (a (suc n)) least some (each (suc n))
      differ s)

  either_to : (n : ℕ) → IsOneTurnTo n ⊎ IsLessTo n
  unfolding sum_below amount_to
  either_to zero = inl (
    (λ t lt. absurd (omega (arith, lt))),
    λ s. omega (arith, ints),
  )
  either_to (suc n) = ⊎_elim
      (λ (one : IsOneTurnTo n). ⊎_elim
      (λ (odd : odd_of (phase + n) (f + n) ≡ odd_of phase f). ⊎_elim
      (λ (way : way_of (phase + n) (f + n) ≡ way_of phase f).
      let turn : turn_of (phase + n) (f + n) ≡ turn_of phase f =
      ap (λ (o : Bool). unit o (way_of (phase + n) (f + n))) odd
      ∙ ap (λ (w : Bool). unit (odd_of phase f) w) way in inl (
        steady_one_more n one.0 odd way,
        λ s. more_same (amount_to a n) (a n) _ _ _ (one.1 s) (ap (side s) turn),
      ))
      (λ (differ : way_of (phase + n) (f + n) ≡ way_of phase f → ⊥).
      inr (first_apart n one (λ o w. differ (sym w))))
      (decide (way_of (phase + n) (f + n)) (way_of phase f)))
      (λ (differ : odd_of (phase + n) (f + n) ≡ odd_of phase f → ⊥).
      inr (first_apart n one (λ o w. differ (sym o))))
      (decide (odd_of (phase + n) (f + n)) (odd_of phase f)))
      (λ (less : IsLessTo n). inr (λ s.
      more_less (amount_to a n) (a n) (2 * least) (part_to (side s) a phase f n) (part_at (side s) a phase f n)
      (less s) (side_small n s)))
      (either_to n)

  -- so sixteen turns of two phases lose twice the least amplitude in both parts
  window_less : phase < 32768 → f < 32768 → phase ≢ f → IsLessTo 16
  window_less low_phase low_f differ = ⊎_elim
      (λ (one : IsOneTurnTo 16). absurd (differ (one_phase phase f low_phase low_f one.0)))
      (λ (less : IsLessTo 16). less) (either_to 16)

-- ---- one window after the other

abbrev turn_by : ℕ → ℕ → Pair
turn_by m n = let c = pilot_chip m in let d = pilot_chip n in
    unit (odd_step c.0 c.1 d.0 d.1) (way_step c.0 c.1 d.0 d.1)

same_turn : (m n x y : ℕ) → m % 32768 ≡ x % 32768 → n % 32768 ≡ y % 32768 → turn_of m n ≡ turn_of x y
same_turn m n x y p q = ap (λ (k : ℕ). turn_by k (n % 32768)) p ∙ ap (turn_by (x % 32768)) q

-- one window more
window_more : (before window both : ℤ) (a w all least k : ℕ) → both ≡ before +ℤ window →
    unsigned_abs before + 2 * (least * k) ≤ 2 * a → unsigned_abs window + 2 * least ≤ 2 * w →
    all ≡ a + w → unsigned_abs both + 2 * (least * suc k) ≤ 2 * all
window_more before window both a w all least k is rest here long =
    let sum = abs_sum before window in
    let more : least * suc k ≡ least * k + least = omega arith in
    rw (is, more) (omega (arith, sum, rest, here, long))

module _ (a : ℕ → ℕ) (phase f least : ℕ) (each : (t : ℕ) → least ≤ a t) (low_phase : phase < 32768)
    (low_f : f < 32768) (differ : phase ≢ f) where
  window_part : (part : Pair → ℤ) (k : ℕ) → part_to part a phase f (16 * k + 16) ≡ part_to part a phase f (16 * k) +ℤ
      part_to part (λ j. a (16 * k + j)) ((phase + 16 * k) % 32768) ((f + 16 * k) % 32768) 16
  window_part part k =
      sum_append (16 * k) 16 (part_at part a phase f)
      ∙ ap (λ (z : ℤ). part_to part a phase f (16 * k) +ℤ z)
      (sum_same 16 _ _ (λ j lt.
      ap (λ (z : Pair). pos (a (16 * k + j)) *ℤ part z)
      (same_turn (phase + (16 * k + j)) (f + (16 * k + j)) ((phase + 16 * k) % 32768 + j)
      ((f + 16 * k) % 32768 + j) (omega arith) (omega arith))))

  windows_less : (k : ℕ) (s : Bool) →
      unsigned_abs (part_to (side s) a phase f (16 * k)) + 2 * (least * k) ≤ 2 * amount_to a (16 * k)
  unfolding sum_below amount_to
  windows_less zero s =
      let none : 16 * 0 ≡ 0 = omega arith in
      rw none (omega arith)
  windows_less (suc k) s =
      let place : 16 * suc k ≡ 16 * k + 16 = omega arith in
      let here = window_less (λ j. a (16 * k + j)) ((phase + 16 * k) % 32768) ((f + 16 * k) % 32768)
      least (λ j. each (16 * k + j)) (omega arith) (omega arith)
      (λ same. absurd (differ (omega (arith, low_phase, low_f, same)))) s in
      rw place
      (window_more (part_to (side s) a phase f (16 * k))
      (part_to (side s) (λ j. a (16 * k + j)) ((phase + 16 * k) % 32768) ((f + 16 * k) % 32768) 16)
      (part_to (side s) a phase f (16 * k + 16)) (amount_to a (16 * k))
      (amount_to (λ j. a (16 * k + j)) 16) (amount_to a (16 * k + 16)) least k (window_part (side s) k)
      (windows_less k s) here (amount_append a (16 * k) 16))

  -- and whatever follows
  pub turns_less : (k r : ℕ) (s : Bool) →
      unsigned_abs (part_to (side s) a phase f (16 * k + r)) + 2 * (least * k) ≤ 2 * amount_to a (16 * k + r)
  unfolding sum_below amount_to
  turns_less k zero s = let none : 16 * k + 0 ≡ 16 * k = omega arith in rw none (windows_less k s)
  turns_less k (suc r) s =
      let n = 16 * k + r in
      let next : 16 * k + suc r ≡ suc (16 * k + r) = omega arith in
      rw next
      (more_less (amount_to a n) (a n) (2 * (least * k)) (part_to (side s) a phase f n)
      (part_at (side s) a phase f n) (turns_less k r s) (side_small a phase f least each n s))

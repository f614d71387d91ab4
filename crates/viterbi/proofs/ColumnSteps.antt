-- A whole column, block by block.
use Rattle.viterbi.proofs.Common.{◌≡◌, ℕ, ◌+◌, ◌*◌, ◌/◌, ◌%◌, ◌<◌, ◌≤◌, Bool, true, false, List, length, set, get_or, sym, ap, ◌∙◌, arith}
use Rattle.viterbi.proofs.Common.{ℤ, pos, ◌+ℤ◌, ◌*ℤ◌, unsigned_abs, ⊎_elim, ◌⊎◌, inl, inr, subst, ◌-ℤ◌, FitsSigned, to_z, of_z, w64, ints}
use Rattle.viterbi.proofs.Common.{to_z-of_z, cases_lt, cases_eq, get_or-set_same, get_or-set_other, length-set, abs_signed, Each1, bit_of}
use Rattle.viterbi.proofs.Common.{get_or-put_chunk_below, get_or-put_chunk_above, get_or-put_chunk_at, length-put_chunk, Each1-from_get_or}
use Rattle.viterbi.proofs.Common.{put_chunk, sign, low_bit, g0, g1, symbol, low_bits, gain_of, took, metric_from, metric_into, choice_into}
use Rattle.viterbi.proofs.Common.{taken_of, CanStep}
use Rattle.viterbi.proofs.Blocks.{passed, kept}
use Rattle.viterbi.proofs.BlockSteps.{moved_fits, plus_less}

pub gain_of_size : (f s : ℤ) (nine : List Bool) → unsigned_abs (gain_of f s nine) ≤ unsigned_abs f + unsigned_abs s
unfolding gain_of
gain_of_size f s nine =
    sum_size (f *ℤ sign (symbol g0 nine 0)) (s *ℤ sign (symbol g1 nine 0))
    (abs_signed f (symbol g0 nine 0)) (abs_signed s (symbol g1 nine 0)) where
      sum_size : (a b : ℤ) → unsigned_abs a ≡ unsigned_abs f → unsigned_abs b ≡ unsigned_abs s →
          unsigned_abs (a +ℤ b) ≤ unsigned_abs f + unsigned_abs s
      sum_size a b p q = omega (arith, ints, p, q)

from_size : (column : List ℤ) (f s : ℤ) (bound t oldest : ℕ) → oldest < 2 →
    ((u : ℕ) → u < 256 → unsigned_abs (get_or column u (pos 0)) ≤ bound) →
    unsigned_abs (metric_from column f s t oldest) ≤ bound + (unsigned_abs f + unsigned_abs s)
unfolding metric_from
from_size column f s bound t oldest two small =
    let here = small (2 * (t % 128) + oldest) (omega (arith, two)) in
    let gain = gain_of_size f s (low_bits 9 (2 * t + oldest)) in
    added (get_or column (2 * (t % 128) + oldest) (pos 0)) (gain_of f s (low_bits 9 (2 * t + oldest)))
    here gain where
      added : (a g : ℤ) → unsigned_abs a ≤ bound → unsigned_abs g ≤ unsigned_abs f + unsigned_abs s →
          unsigned_abs (a +ℤ g) ≤ bound + (unsigned_abs f + unsigned_abs s)
      added a g p q = omega (arith, ints, p, q)

-- metrics grow by no more than the two soft values
pub metric_size : (forced : Bool) (column : List ℤ) (f s : ℤ) (bound t : ℕ) →
    ((u : ℕ) → u < 256 → unsigned_abs (get_or column u (pos 0)) ≤ bound) →
    unsigned_abs (metric_into forced column f s t) ≤ bound + (unsigned_abs f + unsigned_abs s)
unfolding metric_into
metric_size forced column f s bound t small = either (choice_into forced column f s t) where
  either : (c : Bool) → unsigned_abs (taken_of c (metric_from column f s t 0) (metric_from column f s t 1)) ≤ bound
      + (unsigned_abs f + unsigned_abs s)
  either true = from_size column f s bound t 1 (omega arith) small
  either false = from_size column f s bound t 0 (omega arith) small

-- lanes that hold metrics are handed on as they are
pub metric_fits : (forced : Bool) (column : List ℤ) (top f s : ℤ) (t : ℕ) →
    CanStep column top f s → FitsSigned w64 (metric_into forced column f s t -ℤ top)
unfolding metric_into metric_from
metric_fits forced column top f s t can = either (choice_into forced column f s t) where
  -- The metric out of either predecessor, less the top, fits into 64 bits: the predecessor's metric
  -- is at most the top and near it, and the gain is no greater than both soft values together.
  from : (oldest : ℕ) → oldest < 2 → FitsSigned w64
      ((get_or column (2 * (t % 128) + oldest) (pos 0) +ℤ gain_of f s (low_bits 9 (2 * t + oldest)))
      -ℤ top)
  from oldest two =
      let place = 2 * (t % 128) + oldest in
      let below : place < 256 = omega (arith, two) in
      let gain = gain_of f s (low_bits 9 (2 * t + oldest)) in
      subst (FitsSigned w64) (plus_less (get_or column place (pos 0)) top gain)
      (moved_fits (get_or column place (pos 0)) top gain _ (can.most place below)
      (can.near place below) (gain_of_size f s (low_bits 9 (2 * t + oldest))) can.pair).0

  either : (c : Bool) → FitsSigned w64
      (taken_of c
      (get_or column (2 * (t % 128) + 0) (pos 0) +ℤ gain_of f s (low_bits 9 (2 * t + 0)))
      (get_or column (2 * (t % 128) + 1) (pos 0) +ℤ gain_of f s (low_bits 9 (2 * t + 1)))
      -ℤ top)
  either true = from 1 (omega arith)
  either false = from 0 (omega arith)

pub record BlockMetrics (forced : Bool) (column : List ℤ) (top f s : ℤ) (k : ℕ) (m : List ℤ) :
    Type 0 where
  pub each : (l : ℕ) → l < 8 → get_or m l (pos 0) ≡ metric_into forced column f s (8 * k + l) -ℤ top
  pub kept : passed m ≡ m
  pub fit : Each1 (λ x. FitsSigned w64 x) m

pub metrics_lanes : (forced : Bool) (column : List ℤ) (top f s : ℤ) (k : ℕ) (m : List ℤ) →
    length m ≡ 8 → CanStep column top f s → FitsSigned w64 top → FitsSigned w64 f → FitsSigned w64 s →
    ((l : ℕ) → l < 8 → get_or m l (pos 0)
    ≡ metric_into forced column (to_z w64 (of_z w64 f)) (to_z w64 (of_z w64 s)) (8 * k + l)
    -ℤ to_z w64 (of_z w64 top)) →
    BlockMetrics forced column top f s k m
metrics_lanes forced column top f s k m long can p q r made =
    record { each = each; kept = kept m all; fit = all } where
      each : (l : ℕ) → l < 8 → get_or m l (pos 0) ≡ metric_into forced column f s (8 * k + l) -ℤ top
      each = rw (to_z-of_z w64 top p, to_z-of_z w64 f q, to_z-of_z w64 s r) at made

      all : Each1 (λ x. FitsSigned w64 x) m
      all = Each1-from_get_or (λ x. FitsSigned w64 x) m (pos 0)
          (λ l b. rw (each l (omega (arith, b, long))) (metric_fits forced column top f s (8 * k + l) can))

-- EIGHT STATES WRITTEN
in_block : (next m : List ℤ) (j : ℕ) (f : ℕ → ℤ) (t : ℕ) → length next ≡ 256 → j < 32 → length m ≡ 8 →
    ((l : ℕ) → l < 8 → get_or m l (pos 0) ≡ f (8 * j + l)) → t / 8 ≡ j →
    get_or (put_chunk (8 * j) next m) t (pos 0) ≡ f t
in_block next m j f t whole few long here is =
    let place : 8 * j + t % 8 ≡ t = omega (arith, is) in
    ap (λ (i : ℕ). get_or (put_chunk (8 * j) next m) i (pos 0)) (sym place)
    ∙ get_or-put_chunk_at (8 * j) next m (t % 8) (pos 0) (omega (arith, long)) (omega (arith, whole, few, long))
    ∙ here (t % 8) (omega arith)
    ∙ ap f place

off_block : (next m : List ℤ) (j t : ℕ) → length next ≡ 256 → j < 32 → length m ≡ 8 → (¬ (t / 8 ≡ j)) →
    get_or (put_chunk (8 * j) next m) t (pos 0) ≡ get_or next t (pos 0)
off_block next m j t whole few long off =
    ⊎_elim (λ lt. get_or-put_chunk_below (8 * j) next m t (pos 0) lt)
    (λ ge. ⊎_elim (λ within. absurd (off (omega (arith, ge, within))))
    (λ above. get_or-put_chunk_above (8 * j) next m t (pos 0) (omega (arith, above, long))) (cases_lt t (8 * j + 8)))
    (cases_lt t (8 * j))

-- two blocks of one butterfly, 128 states apart
pub wings_more : (next m n : List ℤ) (k : ℕ) (f : ℕ → ℤ) → length next ≡ 256 → k < 16 → length m ≡ 8 → length n ≡ 8 →
    ((t : ℕ) → t < 256 → t / 8 % 16 < k → get_or next t (pos 0) ≡ f t) →
    ((l : ℕ) → l < 8 → get_or m l (pos 0) ≡ f (8 * k + l)) →
    ((l : ℕ) → l < 8 → get_or n l (pos 0) ≡ f (8 * (16 + k) + l)) → (t : ℕ) → t < 256 → t / 8 % 16 < k + 1 →
    get_or (put_chunk (8 * (16 + k)) (put_chunk (8 * k) next m) n) t (pos 0) ≡ f t
wings_more next m n k f whole few long long' before here there t b done =
    by_block (cases_eq (t / 8) (16 + k)) (cases_eq (t / 8) k) where
      half : List ℤ
      half = put_chunk (8 * k) next m

      size : length half ≡ 256
      size = length-put_chunk (8 * k) next m ∙ whole

      by_block : (t / 8 ≡ 16 + k) ⊎ (¬ (t / 8 ≡ 16 + k)) → (t / 8 ≡ k) ⊎ (¬ (t / 8 ≡ k)) →
          get_or (put_chunk (8 * (16 + k)) half n) t (pos 0) ≡ f t
      by_block (inl upper) lower =
          in_block half n (16 + k) f t size (omega (arith, few)) long' there
          upper
      by_block (inr off) (inl lower) =
          off_block half n (16 + k) t size (omega (arith, few)) long' off
          ∙ in_block next m k f t whole (omega (arith, few)) long here lower
      by_block (inr off) (inr off') =
          off_block half n (16 + k) t size (omega (arith, few)) long' off
          ∙ off_block next m k t whole (omega (arith, few)) long off'
          ∙ before t b (lane_before off off') where
            lane_before : (¬ (t / 8 ≡ 16 + k)) → (¬ (t / 8 ≡ k)) → t / 8 % 16 < k
            lane_before p q = omega (arith, b, done, p, q)

-- EIGHT CHOICES WRITTEN
in_byte : (choices : List ℕ) (bits j : ℕ) (f : ℕ → Bool) (t : ℕ) → length choices ≡ 32 → j < 32 →
    ((l : ℕ) → l < 8 → bit_of bits l ≡ f (8 * j + l)) → t / 8 ≡ j → took (set choices j (bits % 256)) t ≡ f t
unfolding took
in_byte choices bits j f t long few here is =
    let place : 8 * j + t % 8 ≡ t = omega (arith, is) in
    ap (λ (i : ℕ). bit_of (get_or (set choices j (bits % 256)) i 0) (t % 8)) is
    ∙ ap (λ (n : ℕ). bit_of n (t % 8)) (get_or-set_same choices j (bits % 256) 0 (omega (arith, few, long)))
    ∙ low_bit bits 8 (t % 8) (omega arith)
    ∙ here (t % 8) (omega arith)
    ∙ ap f place

off_byte : (choices : List ℕ) (byte j t : ℕ) → (¬ (t / 8 ≡ j)) → took (set choices j byte) t ≡ took choices t
unfolding took
off_byte choices byte j t off = ap (λ (n : ℕ). bit_of n (t % 8)) (get_or-set_other choices j (t / 8) byte 0 off)

pub choices_more : (choices : List ℕ) (bits bits' k : ℕ) (f : ℕ → Bool) → length choices ≡ 32 → k < 16 →
    ((t : ℕ) → t < 256 → t / 8 % 16 < k → took choices t ≡ f t) → ((l : ℕ) → l < 8 → bit_of bits l ≡ f (8 * k + l)) →
    ((l : ℕ) → l < 8 → bit_of bits' l ≡ f (8 * (16 + k) + l)) → (t : ℕ) → t < 256 → t / 8 % 16 < k + 1 →
    took (set (set choices k (bits % 256)) (16 + k) (bits' % 256)) t ≡ f t
choices_more choices bits bits' k f long few before here there t b done =
    by_block (cases_eq (t / 8) (16 + k)) (cases_eq (t / 8) k) where
      half : List ℕ
      half = set choices k (bits % 256)

      size : length half ≡ 32
      size = length-set choices k (bits % 256) ∙ long

      by_block : (t / 8 ≡ 16 + k) ⊎ (¬ (t / 8 ≡ 16 + k)) → (t / 8 ≡ k) ⊎ (¬ (t / 8 ≡ k)) →
          took (set half (16 + k) (bits' % 256)) t ≡ f t
      by_block (inl upper) lower = in_byte half bits' (16 + k) f t size (omega (arith, few)) there upper
      by_block (inr off) (inl lower) =
          off_byte half (bits' % 256) (16 + k) t off
          ∙ in_byte choices bits k f t long (omega (arith, few)) here lower
      by_block (inr off) (inr off') =
          off_byte half (bits' % 256) (16 + k) t off ∙ off_byte choices (bits % 256) k t off'
          ∙ before t b (lane_before off off') where
            lane_before : (¬ (t / 8 ≡ 16 + k)) → (¬ (t / 8 ≡ k)) → t / 8 % 16 < k
            lane_before p q = omega (arith, b, done, p, q)

-- Another cell, a second path, and samples that are divided and rounded, as bounded noise.
use Rattle.clean_signal.proofs.Common.{◌≡◌, ℕ, ◌+◌, ◌*◌, ◌<◌, ◌≤◌, List, [], ◌∷◌, map, refl, ap, ◌∙◌, arith, ℤ, pos, unsigned_abs, ◌+ℤ◌}
use Rattle.clean_signal.proofs.Common.{◌-ℤ◌, ◌*ℤ◌, neg_ℤ, ints, times, Pair, Sample, distrib, mul_assoc_ℤ, times_neg, places, CellPlan, suc}
use Rattle.clean_signal.proofs.Common.{made_samples, samples_of, carriers, sample_with, scaled, sample_of, unsigned_abs-mul, IsNear, louder}
use Rattle.clean_signal.proofs.Common.{lt_of_mul-lt-mul_left, AreRounded, IsRounded, louder_sample, over_link, length, get_or, Bool, true}
use Rattle.clean_signal.proofs.Common.{false, subst, sym, ◌-◌, ◌%◌, sign, point, of_sample, amplitudes, loudness, no_sample, pilot_chip}
use Rattle.clean_signal.proofs.Common.{signal_of_carriers, chip_most, IsCloseSample, with_added, OtherCellsAreNoise}
use Rattle.clean_signal.proofs.noise.Near.{near-self}
use Rattle.clean_signal.proofs.signal.Samples.{length-made, made_at}
use Rattle.clean_signal.specs.NearFiles as laws

-- ---- the parts of a sample of a cell

spread_i : (x y : ℤ) (b c : Bool) (m : ℕ) → unsigned_abs x + unsigned_abs y ≤ m →
    unsigned_abs ((x *ℤ sign b) -ℤ (y *ℤ sign c)) ≤ m
spread_i x y true true m most = omega (arith, ints, most)
spread_i x y false true m most = omega (arith, ints, most)
spread_i x y b c m most = omega (arith, ints, most)

spread_q : (x y : ℤ) (b c : Bool) (m : ℕ) → unsigned_abs x + unsigned_abs y ≤ m →
    unsigned_abs ((x *ℤ sign c) +ℤ (y *ℤ sign b)) ≤ m
spread_q x y true true m most = omega (arith, ints, most)
spread_q x y false true m most = omega (arith, ints, most)
spread_q x y b c m most = omega (arith, ints, most)

-- both parts are at most this
pub record IsSmall (e : ℕ) (z : Pair) : Type 0 where
  pub i : unsigned_abs z.i ≤ e
  pub q : unsigned_abs z.q ≤ e

spread_small : (z : Pair) (chips : Bool × Bool) (m : ℕ) →
    unsigned_abs z.i + unsigned_abs z.q ≤ m → IsSmall m (times z (point chips))
spread_small z chips m most = record {
  i = spread_i z.i z.q chips.0 chips.1 m most;
  q = spread_q z.i z.q chips.0 chips.1 m most;
}

pub sample_small : (plan : CellPlan) (t : ℕ) → IsSmall (loudness plan) (sample_of plan t)
sample_small plan t =
    let chip = plan.link.start + t in
    subst (IsSmall (loudness plan)) (sym (signal_of_carriers plan t))
    (spread_small (scaled (amplitudes chip (carriers plan)) plan.link.factor)
    (pilot_chip ((chip + 32768 - 64 * plan.cell.pn) % 32768)) (loudness plan)
    (chip_most plan chip (scaled (amplitudes chip (carriers plan)) plan.link.factor) refl))

-- ---- lists

close_added : (e : ℕ) (x y : Sample) → IsSmall e (of_sample y) →
    IsCloseSample e (record { i = x.i +ℤ y.i; q = x.q +ℤ y.q }) x
close_added e x y small =
    let p = small.i in
    let q = small.q in
    record { i = omega (arith, ints, p); q = omega (arith, ints, q) }

near_added : (e : ℕ) (xs ys : List Sample) (d : Sample) →
    ((i : ℕ) → i < length ys → IsSmall e (of_sample (get_or ys i d))) → IsNear e (with_added xs ys) xs
near_added e [] ys d each = tt
near_added e (x ∷ xs) [] d each = near-self e (x ∷ xs)
near_added e (x ∷ xs) (y ∷ ys) d each = (
  close_added e x y (each 0 (omega arith)),
  near_added e xs ys d (λ i lt. each (suc i) (omega (arith, lt))),
)

-- ---- the law

small_more : (d e : ℕ) (z : Pair) → d ≤ e → IsSmall d z → IsSmall e z
small_more d e z less small =
    let p = small.i in
    let q = small.q in
    record { i = omega (arith, p, less); q = omega (arith, q, less) }

pub other_cells : OtherCellsAreNoise
other_cells plan other e loud =
    near_added e (made_samples plan) (made_samples other) no_sample
    (λ i lt.
    let within : i < other.link.samples = omega (arith, lt, length-made other) in
    subst (IsSmall e) (sym (made_at other i within))
    (small_more (loudness other) e (sample_of other i) loud (sample_small other i)))

-- ---- no noise

-- Samples with a noise of 0 are the same, by induction over both lists: neither part of a sample
-- differs from the other's, and lists of different lengths aren't near.
pub near-same : (xs ys : List Sample) → IsNear 0 xs ys → xs ≡ ys
near-same [] [] near = refl
near-same [] (y ∷ ys) near = absurd near
near-same (x ∷ xs) [] near = absurd near
near-same (x ∷ xs) (y ∷ ys) near =
    let p = near.0.i in
    let q = near.0.q in
    let i : x.i ≡ y.i = omega (arith, ints, p) in
    let q : x.q ≡ y.q = omega (arith, ints, q) in
    let same : x ≡ y = rw (i, q) refl in
    ap (λ (z : Sample). z ∷ xs) same ∙ ap (λ (zs : List Sample). y ∷ zs) (near-same xs ys near.1)

pub near-equal : (e : ℕ) (xs ys : List Sample) → xs ≡ ys → IsNear e xs ys
near-equal e xs ys same = rw (same) (near-self e ys)

pub none_same : laws.NearWithinNoneIsSame
none_same xs ys = (near-same xs ys, near-equal 0 xs ys)

-- ---- over plain numbers

distributed : (d x y : ℤ) → d *ℤ (x -ℤ y) ≡ (d *ℤ x) -ℤ (d *ℤ y)
distributed d x y = distrib d x (neg_ℤ y) ∙ ap (λ (z : ℤ). (d *ℤ x) +ℤ z) (times_neg d y)

rounded_near : (d e : ℕ) (x r u : ℤ) → unsigned_abs (x -ℤ (pos d *ℤ u)) ≤ e * d →
    IsRounded d x r → unsigned_abs (r -ℤ u) ≤ e
rounded_near d e x r u near rounded =
    let whole : unsigned_abs ((pos d *ℤ r) -ℤ (pos d *ℤ u)) < d * (e + 1) = omega (arith, ints, near, rounded) in
    let size : unsigned_abs (pos d *ℤ (r -ℤ u)) ≡ d * unsigned_abs (r -ℤ u) = unsigned_abs-mul (pos d) (r -ℤ u) in
    let less : d * unsigned_abs (r -ℤ u) < d * (e + 1) = rw (← size, distributed (pos d) r u) whole in
    let all = lt_of_mul-lt-mul_left d less in
    omega (arith, all)

-- ---- lists

rounded_list : (d e : ℕ) (xs rs us : List Sample) → IsNear (e * d) xs (map (louder_sample d) us) →
    AreRounded d xs rs → IsNear e rs us
rounded_list d e [] [] [] near rounded = tt
rounded_list d e [] [] (u ∷ us) near rounded = absurd near
rounded_list d e [] (r ∷ rs) us near rounded = absurd rounded
rounded_list d e (x ∷ xs) rs [] near rounded = absurd near
rounded_list d e (x ∷ xs) [] (u ∷ us) near rounded = absurd rounded
rounded_list d e (x ∷ xs) (r ∷ rs) (u ∷ us) near rounded = (
  record {
    i = rounded_near d e x.i r.i u.i near.0.i rounded.0.i;
    q = rounded_near d e x.q r.q u.q near.0.q rounded.0.q;
  },
  rounded_list d e xs rs us near.1 rounded.1,
)

-- ---- a louder link

louder_times : (d : ℕ) (factor chip : Pair) → sample_with (times (scaled (pos d) factor) chip)
    ≡ louder_sample d (sample_with (times factor chip))
louder_times d factor chip =
    let by = mul_assoc_ℤ (pos d) in
    rw (
      by factor.i chip.i,
      by factor.q chip.q,
      by factor.i chip.q,
      by factor.q chip.i,
      distributed (pos d) (factor.i *ℤ chip.i) (factor.q *ℤ chip.q),
      distrib (pos d) (factor.i *ℤ chip.q) (factor.q *ℤ chip.i),
    ) refl

louder_all : (d : ℕ) (plan : CellPlan) (ts : List ℕ) → map sample_with (map (sample_of (louder d plan)) ts)
    ≡ map (louder_sample d) (map sample_with (map (sample_of plan) ts))
unfolding sample_of carriers
louder_all d plan [] = refl
louder_all d plan (t ∷ ts) = rw (louder_times d plan.link.factor _, louder_all d plan ts) refl

pub louder_links : laws.LouderLinksAreLouder
unfolding made_samples samples_of
louder_links d plan = louder_all d plan (places plan.link.samples)

-- ---- the laws

pub other_paths : laws.OtherPathsAreNoise
other_paths plan link e loud = other_cells plan (over_link link plan) e loud

pub rounding : laws.RoundingIsNoise
rounding d e plan samples rounded near are =
    rounded_list d e samples rounded (made_samples plan) (rw (← louder_links d plan) near) are

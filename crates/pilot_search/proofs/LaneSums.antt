-- The loop over groups of eight samples: what its lanes hold.
use Rattle.pilot_search.proofs.Common.{◌≡◌, ℕ, ◌+◌, ◌*◌, ◌^◌, ◌<◌, ◌≤◌, List, length, drop, sym, ap, ◌∙◌, subst, arith, ℤ, ◌+ℤ◌, to_z, of_z}
use Rattle.pilot_search.proofs.Common.{unsigned_abs, w64, Each1, Each2, zip2, to_z-of_z, fits_signed_from_abs, Each1-weaker, length-zip2}
use Rattle.pilot_search.proofs.Common.{plus, total, Pair, Sample, correlation_with, LanesAreNear, AreProducts, AreSums}
use Rattle.pilot_search.proofs.CorrelationSums.{correlation_with-all}
use Rattle.pilot_search.proofs.LaneLemmas.{kept, kept_lanes, kept_products, lanes_fit, bounds_more, total_bound, lanes_more}

-- KEPT AS BITS
-- sums of at most 4,096 products don't wrap
sums_fit : (k : ℕ) (xs : List ℤ) → k ≤ 4096 → Each1 (λ x. unsigned_abs x ≤ 65536 * k) xs →
    Each1 (λ x. unsigned_abs x < 2 ^ 31) xs
sums_fit k xs few h =
    Each1-weaker (λ x. unsigned_abs x ≤ 65536 * k) (λ x. unsigned_abs x < 2 ^ 31) (λ x le. omega (arith, le, few)) xs h

pub kept_sums : (k : ℕ) (xs : List ℤ) → k ≤ 4096 → Each1 (λ x. unsigned_abs x ≤ 65536 * k) xs → kept xs ≡ xs
kept_sums k xs few h = kept_lanes xs (sums_fit k xs few h)

pub fit_kept : (k : ℕ) (xs : List ℤ) → k ≤ 4096 → Each1 (λ x. unsigned_abs x ≤ 65536 * k) xs →
    Each1 (λ x. unsigned_abs x < 2 ^ 31) (kept xs)
fit_kept k xs few h = subst (Each1 (λ x. unsigned_abs x < 2 ^ 31)) (sym (kept_sums k xs few h)) (sums_fit k xs few h)

-- PRODUCTS
pub products_kept : (samples : List Sample) (signs : List (ℤ × ℤ)) (first : ℕ)
    (real imaginary : List ℤ) → AreProducts samples signs first real imaginary →
    AreProducts samples signs first (kept real) (kept imaginary)
products_kept samples signs first real imaginary p = record {
  real_parts = ap kept p.real_parts ∙ kept_products _ p.real_bound;
  imaginary_parts = ap kept p.imaginary_parts ∙ kept_products _ p.imaginary_bound;
  real_bound = p.real_bound;
  imaginary_bound = p.imaginary_bound;
}

-- products are sums of one group
pub products_near : (samples : List Sample) (signs : List (ℤ × ℤ)) (first : ℕ)
    (real imaginary : List ℤ) → AreProducts samples signs first real imaginary → LanesAreNear 1 real imaginary
products_near samples signs first real imaginary p = record {
  real_long = ap (λ (xs : List ℤ). length xs) p.real_parts;
  imaginary_long = ap (λ (xs : List ℤ). length xs) p.imaginary_parts;
  real_bound = subst (Each1 (λ x. unsigned_abs x ≤ 65536)) (sym p.real_parts) p.real_bound;
  imaginary_bound =
      subst (Each1 (λ x. unsigned_abs x ≤ 65536)) (sym p.imaginary_parts) p.imaginary_bound;
}

-- and so they are where they are kept as bits
pub kept_near : (samples : List Sample) (signs : List (ℤ × ℤ)) (first : ℕ)
    (real imaginary : List ℤ) → AreProducts samples signs first real imaginary →
    LanesAreNear 1 (kept real) (kept imaginary)
kept_near samples signs first real imaginary p =
    products_near samples signs first (kept real) (kept imaginary) (products_kept samples signs first real imaginary p)

-- ONE GROUP MORE
-- sums and products of a group may be added
pub may_add : (k : ℕ) (sums products : List ℤ) → k < 4096 →
    Each1 (λ x. unsigned_abs x ≤ 65536 * k) sums → Each1 (λ x. unsigned_abs x ≤ 65536) products →
    Each2 (λ a b. unsigned_abs a + unsigned_abs b < 2 ^ 31) (kept sums) (kept products)
may_add k sums products few h g =
    subst (λ (z : List ℤ × List ℤ). Each2 (λ a b. unsigned_abs a + unsigned_abs b < 2 ^ 31) z.0 z.1)
    (λ i. (sym (kept_sums k sums (omega (arith, few)) h) i, sym (kept_products products g) i))
    (lanes_fit k sums products few h g)

-- one kind of lanes after one more group
record AreMore (k : ℕ) (sums products after : List ℤ) : Type 0 where
  is : kept after ≡ zip2 (λ a b. a +ℤ b) sums products
  long : length (kept after) ≡ 8
  bound : Each1 (λ x. unsigned_abs x ≤ 65536 * (k + 1)) (kept after)

are_more : (k : ℕ) (sums products after : List ℤ) → k < 4096 → length sums ≡ 8 →
    length products ≡ 8 → Each1 (λ x. unsigned_abs x ≤ 65536 * k) sums → Each1 (λ x. unsigned_abs x ≤ 65536) products →
    after ≡ zip2 (λ a b. a +ℤ b) (kept sums) (kept products) → AreMore k sums products after
are_more k sums products after few long long' h g e =
    let is : after ≡ zip2 (λ a b. a +ℤ b) sums products =
    e ∙ (λ i. zip2 (λ a b. a +ℤ b) (kept_sums k sums (omega (arith, few)) h i) (kept_products products g i)) in
    let near : Each1 (λ x. unsigned_abs x ≤ 65536 * (k + 1)) after =
    subst (Each1 (λ x. unsigned_abs x ≤ 65536 * (k + 1))) (sym is) (bounds_more k sums products h g) in
    let same : kept after ≡ after = kept_sums (k + 1) after (omega (arith, few)) near in
    record {
      is = same ∙ is;
      long = ap (λ (ys : List ℤ). length ys) (same ∙ is)
          ∙ length-zip2 (λ a b. a +ℤ b) sums products (long ∙ sym long') ∙ long;
      bound = subst (Each1 (λ x. unsigned_abs x ≤ 65536 * (k + 1))) (sym same) near;
    }

-- The lanes hold one group more: each has gained a sum of two products, at most 65,536 in size, so
-- nothing wraps after k + 1 groups either, and with the correlation of the samples that are left
-- the lanes still add up to the whole one.
pub sums_more : (samples : List Sample) (signs : List (ℤ × ℤ)) (k : ℕ)
    (real imaginary more_real more_imaginary real' imaginary' : List ℤ) → k < 4096 →
    8 * k + 8 ≤ length samples → 8 * k + 8 ≤ length signs → AreSums samples signs k real imaginary →
    AreProducts samples signs (8 * k) more_real more_imaginary →
    real' ≡ zip2 (λ a b. a +ℤ b) (kept real) (kept more_real) →
    imaginary' ≡ zip2 (λ a b. a +ℤ b) (kept imaginary) (kept more_imaginary) →
    AreSums samples signs (k + 1) (kept real') (kept imaginary')
sums_more samples signs k real imaginary more_real more_imaginary real' imaginary' few le ge all p
    is is' =
    let near = all.near in
    let more = products_near samples signs (8 * k) more_real more_imaginary p in
    let r = are_more k real more_real real' few near.real_long more.real_long near.real_bound
    more.real_bound is in
    let j = are_more k imaginary more_imaginary imaginary' few near.imaginary_long
    more.imaginary_long near.imaginary_bound more.imaginary_bound is' in
    let rest = correlation_with (drop (8 * (k + 1)) samples) (drop (8 * (k + 1)) signs) in
    record {
      near = record { real_long = r.long; imaginary_long = j.long; real_bound = r.bound; imaginary_bound = j.bound };
      whole = ap (λ (ys : List ℤ × List ℤ). plus (record { i = total ys.0; q = total ys.1 }) rest)
          (λ i. (r.is i, j.is i))
          ∙ lanes_more samples signs k real imaginary more_real more_imaginary le ge
          near.real_long near.imaginary_long p.real_parts p.imaginary_parts
          ∙ all.whole;
    }

-- THE LOOP
pub sums_kept : (samples : List Sample) (signs : List (ℤ × ℤ)) (k : ℕ) (real imaginary : List ℤ) →
    k ≤ 4096 → AreSums samples signs k real imaginary → AreSums samples signs k (kept real) (kept imaginary)
sums_kept samples signs k real imaginary few all =
    subst (λ (z : List ℤ × List ℤ). AreSums samples signs k z.0 z.1)
    (λ i. (
      sym (kept_sums k real few all.near.real_bound) i,
      sym (kept_sums k imaginary few all.near.imaginary_bound) i,
    )) all

-- THE SUM OF THE LANES
pub record IsTotal (k : ℕ) (xs : List ℤ) (sum : ℤ) : Type 0 where
  pub is : to_z w64 (of_z w64 sum) ≡ total xs
  pub bound : unsigned_abs (to_z w64 (of_z w64 sum)) ≤ 65536 * (8 * k)

-- Kept in 64 bits, the total of eight lanes is their true sum: after k groups each lane is at most
-- 65,536 k in size, so all eight are at most 65,536 times 8k, far below 2^63.
pub is_total : (k : ℕ) (xs : List ℤ) (sum : ℤ) → k ≤ 4096 → length xs ≡ 8 →
    Each1 (λ x. unsigned_abs x ≤ 65536 * k) xs → sum ≡ total (kept xs) → IsTotal k xs sum
is_total k xs sum few long h e =
    let is : sum ≡ total xs = e ∙ ap total (kept_sums k xs few h) in
    let all : unsigned_abs (total xs) ≤ 65536 * k * 8 =
    subst (λ (m : ℕ). unsigned_abs (total xs) ≤ 65536 * k * m) long (total_bound (65536 * k) xs h)
    in
    let mine : unsigned_abs sum ≤ 65536 * k * 8 = subst (λ (z : ℤ). unsigned_abs z ≤ 65536 * k * 8) (sym is) all in
    let same : to_z w64 (of_z w64 sum) ≡ sum =
    to_z-of_z w64 sum (fits_signed_from_abs w64 sum (omega (arith, mine, few))) in
    record {
      is = same ∙ is;
      bound = subst (λ (z : ℤ). unsigned_abs z ≤ 65536 * (8 * k)) (sym same) (omega (arith, mine));
    }

-- with the samples after the groups
pub sums_left : (samples : List Sample) (signs : List (ℤ × ℤ)) (k n : ℕ) (real imaginary : List ℤ)
    (sum : Pair) → k ≡ n → AreSums samples signs k real imaginary →
    sum ≡ record { i = total real; q = total imaginary } →
    plus sum (correlation_with (drop (8 * n) samples) (drop (8 * n) signs)) ≡ correlation_with samples signs
sums_left samples signs k n real imaginary sum here all is =
    let left = λ (m : ℕ). correlation_with (drop (8 * m) samples) (drop (8 * m) signs) in
    ap (plus sum) (ap left (sym here))
    ∙ ap (λ (p : Pair). plus p (left k)) is
    ∙ all.whole

-- and where none are
pub sums_whole : (samples : List Sample) (signs : List (ℤ × ℤ)) (k n : ℕ) (real imaginary : List ℤ)
    (sum : Pair) → k ≡ n → length samples ≡ 8 * n → AreSums samples signs k real imaginary →
    sum ≡ record { i = total real; q = total imaginary } → sum ≡ correlation_with samples signs
sums_whole samples signs k n real imaginary sum here long all is =
    sym (correlation_with-all samples signs (8 * n) sum (omega (arith, long)))
    ∙ sums_left samples signs k n real imaginary sum here all is

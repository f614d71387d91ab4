-- Lanes of 32 bits that hold products of samples with signs, and sums of them.
use Rattle.pilot_search.proofs.Common.{◌≡◌, ℕ, zero, suc, ◌+◌, ◌*◌, ◌%◌, ◌^◌, ◌<◌, ◌≤◌, List, [], ◌∷◌, map, length, get_or, take, drop, All}
use Rattle.pilot_search.proofs.Common.{add-one, refl, sym, ap, ◌∙◌, arith, ℤ, pos, negsuc, ◌+ℤ◌, ◌*ℤ◌, unsigned_abs, to_z, of_z, FitsSigned}
use Rattle.pilot_search.proofs.Common.{w16, w32, w64, neg_ℤ, +ℤ_assoc, Fits-of_z, int_wrap, ints, to_z-of_z, int_wrap_fits, Each1, subst}
use Rattle.pilot_search.proofs.Common.{wrapping_add-bits, wrapping_mul_onto, fits_signed_from_abs, unsigned_abs-mul, Each2, zip2, map_at}
use Rattle.pilot_search.proofs.Common.{All-head, All-tail, Each2-of, plus, total, Pair, real_part, Sample, across, abs_fits, IsUnit, both}
use Rattle.pilot_search.proofs.Common.{correlation_with, product_at, real_lanes, imaginary_lanes, parts, eight, sample_at, signs_at}
use Rattle.pilot_search.proofs.Common.{with_signs, AreShort, AreUnits, IsShort, AreProducts, Each1-weaker}
use Rattle.pilot_search.proofs.CorrelationSums.{correlation_with-more, no_sample}

-- what a list has at any place, or 0 and 0 after its end
abbrev pub no_sign : ℤ × ℤ
no_sign = (pos 0, pos 0)

pub all_units : (signs : List (ℤ × ℤ)) → All IsUnit signs → AreUnits (signs_at signs)
all_units [] all t = record { i = omega arith; q = omega arith }
all_units (g ∷ signs) all zero = All-head IsUnit g signs all
all_units (g ∷ signs) all (suc t) = all_units signs (All-tail IsUnit g signs all) t

-- a number whose parts are kept as bits
abbrev pub keep : ℤ × ℤ → ℤ × ℤ
keep x = (to_z w16 (of_z w16 x.0), to_z w16 (of_z w16 x.1))

read_short : (n : ℕ) → FitsSigned w16 (to_z w16 n)
read_short n = record { sfits = grind (arith, ints) }

pub kept_short : (x : ℕ → ℤ × ℤ) → AreShort (λ t. keep (x t))
kept_short x t = (read_short (of_z w16 (x t).0), read_short (of_z w16 (x t).1))

pub short_kept : (xs : List (ℤ × ℤ)) → Each1 IsShort xs → map keep xs ≡ xs
short_kept [] h = refl
short_kept (x ∷ xs) h = λ i. (to_z-of_z w16 x.0 h.0.0 i, to_z-of_z w16 x.1 h.0.1 i) ∷ short_kept xs h.1 i

unit_short : (s : ℤ) → unsigned_abs s ≤ 1 → FitsSigned w16 s
unit_short s h = fits_signed_from_abs w16 s (omega (arith, h))

neg_bound : (d : ℤ) → unsigned_abs d ≤ 1 → unsigned_abs (neg_ℤ d) ≤ 1
neg_bound d h = omega (arith, ints, h)

pub units_across : (g : ℕ → ℤ × ℤ) → AreUnits g → AreUnits (λ t. across (g t))
units_across g units t = record { i = neg_bound (g t).1 (units t).q; q = (units t).i }

-- the parts of numbers that agree
pub parts_alike : (x y : ℕ → ℤ × ℤ) (first : ℕ) → ((t : ℕ) → x t ≡ y t) → parts (eight x first) ≡ parts (eight y first)
parts_alike x y first same = λ i. parts (eight (λ t. same t i) first)

-- lanes of 16 bits that are kept as bits
abbrev pub kept16 : List ℤ → List ℤ
kept16 xs = map (to_z w16) (map (of_z w16) xs)

pub kept_units : (x g : ℕ → ℤ × ℤ) (first : ℕ) (xs : List ℤ) → AreUnits g →
    ((t : ℕ) → x t ≡ g t) → xs ≡ parts (eight x first) → kept16 xs ≡ parts (eight g first)
kept_units x g first xs units same is =
    ap kept16 (is ∙ parts_alike x g first same)
    ∙ parts_alike (λ t. keep (g t)) g first
    (λ t i. (
      to_z-of_z w16 (g t).0 (unit_short (g t).0 (units t).i) i,
      to_z-of_z w16 (g t).1 (unit_short (g t).1 (units t).q) i,
    ))

pub same_sign : (c : ℤ) → unsigned_abs c ≤ 1 → to_z w16 (of_z w16 c * 1 % 65536) ≡ c
same_sign (pos zero) h = refl
same_sign (pos (suc zero)) h = refl
same_sign (pos (suc (suc k))) h = absurd (omega arith)
same_sign (negsuc zero) h = refl
same_sign (negsuc (suc k)) h = absurd (omega arith)

pub turned_sign : (c : ℤ) → unsigned_abs c ≤ 1 → to_z w16 (of_z w16 c * 65535 % 65536) ≡ neg_ℤ c
turned_sign (pos zero) h = refl
turned_sign (pos (suc zero)) h = refl
turned_sign (pos (suc (suc k))) h = absurd (omega arith)
turned_sign (negsuc zero) h = refl
turned_sign (negsuc (suc k)) h = absurd (omega arith)

-- the signs of points
pub point_signs : (points : List Sample) (t : ℕ) → sample_at points t ≡ signs_at (map both points) t
point_signs points t = sym (map_at both points t no_sample)

pub turned_signs : (turned : List Sample) (signs : List (ℤ × ℤ)) (t : ℕ) →
    map both turned ≡ map across signs → sample_at turned t ≡ across (signs_at signs t)
turned_signs turned signs t is =
    point_signs turned t
    ∙ ap (λ (gs : List (ℤ × ℤ)). signs_at gs t) is
    ∙ map_at across signs t no_sign

-- PRODUCTS IN LANES OF 32 BITS
abbrev pub wide : ℤ → ℕ
wide x = of_z w32 (to_z w16 (of_z w16 x))

wide-is : (x : ℤ) → FitsSigned w16 x → wide x ≡ of_z w32 x
wide-is x f = ap (of_z w32) (to_z-of_z w16 x f)

pub in_lane : (x : ℤ) → unsigned_abs x ≤ 65536 → FitsSigned w32 x
in_lane x h = fits_signed_from_abs w32 x (omega (arith, h))

below : (x : ℤ) → unsigned_abs x ≤ 65536 → of_z w32 x < 2 ^ 32
below x h = (Fits-of_z {w = w32} {z = x} (in_lane x h)).fits

-- a product of two branches with signs, added
product_bound : (x s : ℤ) → unsigned_abs x ≤ 32768 → unsigned_abs s ≤ 1 → unsigned_abs (x *ℤ s) ≤ 32768
product_bound x s h g = rw (unsigned_abs-mul x s) (most (unsigned_abs x) (unsigned_abs s) h g)
  where
    most : (m n : ℕ) → m ≤ 32768 → n ≤ 1 → m * n ≤ 32768
    most m zero h g = omega arith
    most m (suc zero) h g = omega (arith, h)
    most m (suc (suc n)) h g = absurd (omega arith)

one : (x s : ℤ) → unsigned_abs x ≤ 32768 → unsigned_abs s ≤ 1 → to_z w32 (of_z w32 x * of_z w32 s % 4294967296) ≡ x *ℤ s
one x s h g =
    let small : unsigned_abs (x *ℤ s) ≤ 65536 = omega (arith, product_bound x s h g) in
    wrapping_mul_onto w32 (of_z w32 x) s (below x (omega (arith, h))) (in_lane s (omega (arith, g)))
    ∙ ap (λ (z : ℤ). int_wrap w32 (z *ℤ s)) (to_z-of_z w32 x (in_lane x (omega (arith, h))))
    ∙ int_wrap_fits w32 (x *ℤ s) (in_lane (x *ℤ s) small)

near_sum : (a b : ℤ) → unsigned_abs a ≤ 32768 → unsigned_abs b ≤ 32768 → unsigned_abs (a +ℤ b) ≤ 65536
near_sum a b h g = omega (arith, ints, h, g)

pub with_signs-bound : (x g : ℤ × ℤ) → unsigned_abs x.0 ≤ 32768 → unsigned_abs x.1 ≤ 32768 →
    IsUnit g → unsigned_abs (with_signs x g) ≤ 65536
with_signs-bound x g hx hy u =
    near_sum (x.0 *ℤ g.0) (x.1 *ℤ g.1) (product_bound x.0 g.0 hx u.i) (product_bound x.1 g.1 hy u.q)

-- Two products of a sample's part and a sign, multiplied and added modulo 2^32, give their true
-- sum: each is at most 2^15 in size, so their sum fits into a signed lane.
pair_sum : (x y s t : ℤ) → unsigned_abs x ≤ 32768 → unsigned_abs y ≤ 32768 → unsigned_abs s ≤ 1 → unsigned_abs t ≤ 1 →
    to_z w32 ((of_z w32 x * of_z w32 s % 4294967296 + of_z w32 y * of_z w32 t % 4294967296) %
    4294967296) ≡ (x *ℤ s) +ℤ (y *ℤ t)
pair_sum x y s t hx hy hs ht =
    let p : ℕ = of_z w32 x * of_z w32 s % 4294967296 in
    let q : ℕ = of_z w32 y * of_z w32 t % 4294967296 in
    wrapping_add-bits w32 p q (omega arith) (omega arith)
    ∙ ap (λ (z : ℤ). int_wrap w32 (z +ℤ to_z w32 q)) (one x s hx hs)
    ∙ ap (λ (z : ℤ). int_wrap w32 ((x *ℤ s) +ℤ z)) (one y t hy ht)
    ∙ int_wrap_fits w32 ((x *ℤ s) +ℤ (y *ℤ t))
    (in_lane _ (near_sum (x *ℤ s) (y *ℤ t) (product_bound x s hx hs) (product_bound y t hy ht)))

pub lane : (x g : ℤ × ℤ) → FitsSigned w16 x.0 → FitsSigned w16 x.1 → IsUnit g →
    to_z w32 ((wide x.0 * wide g.0 % 4294967296 + wide x.1 * wide g.1 % 4294967296) %
    4294967296) ≡ with_signs x g
lane x g f e u =
    rw (wide-is x.0 f, wide-is x.1 e, wide-is g.0 (unit_short g.0 u.i), wide-is g.1 (unit_short g.1 u.q))
    (pair_sum x.0 x.1 g.0 g.1 (abs_fits x.0 f) (abs_fits x.1 e) u.i u.q)

-- What holds of every value of `f` holds of each of the eight from place `first` on, since `eight`
-- lists just these.
eight_all : (P : ℤ → Type 0) (f : ℕ → ℤ) (first : ℕ) → ((t : ℕ) → P (f t)) → Each1 P (eight f first)
eight_all P f first h = (
  h first,
  (
    h (first + 1),
    (h (first + 2), (h (first + 3), (h (first + 4), (h (first + 5), (h (first + 6), (h (first + 7), tt)))))),
  ),
)

-- LANES ADDED
-- lanes that are kept as bits
pub kept_lanes : (xs : List ℤ) → Each1 (λ x. unsigned_abs x < 2 ^ 31) xs → map (to_z w32) (map (of_z w32) xs) ≡ xs
kept_lanes [] h = refl
kept_lanes (x ∷ xs) h = λ i. to_z-of_z w32 x (fits_signed_from_abs w32 x h.0) i ∷ kept_lanes xs h.1 i

-- one lane that doesn't wrap
sum_lane : (a b : ℤ) → unsigned_abs a + unsigned_abs b < 2 ^ 31 →
    to_z w32 ((of_z w32 a + of_z w32 b) % 4294967296) ≡ a +ℤ b
sum_lane a b small =
    let fa : FitsSigned w32 a = fits_signed_from_abs w32 a (omega (arith, small)) in
    let fb : FitsSigned w32 b = fits_signed_from_abs w32 b (omega (arith, small)) in
    wrapping_add-bits w32 (of_z w32 a) (of_z w32 b) (Fits-of_z {w = w32} {z = a} fa).fits
    (Fits-of_z {w = w32} {z = b} fb).fits
    ∙ ap (λ (z : ℤ). int_wrap w32 (z +ℤ to_z w32 (of_z w32 b))) (to_z-of_z w32 a fa)
    ∙ ap (λ (z : ℤ). int_wrap w32 (a +ℤ z)) (to_z-of_z w32 b fb)
    ∙ int_wrap_fits w32 (a +ℤ b) (fits_signed_from_abs w32 (a +ℤ b) (omega (arith, ints, small)))

pub added_lanes : (xs ys : List ℤ) → Each2 (λ a b. unsigned_abs a + unsigned_abs b < 2 ^ 31) xs ys →
    map (to_z w32) (zip2 (λ a b. (a + b) % 4294967296) (map (of_z w32) xs) (map (of_z w32) ys)) ≡
    zip2 (λ a b. a +ℤ b) xs ys
added_lanes [] ys h = refl
added_lanes (x ∷ xs) [] h = refl
added_lanes (x ∷ xs) (y ∷ ys) h = λ i. sum_lane x y h.0 i ∷ added_lanes xs ys h.1 i

-- EIGHT PRODUCTS
abbrev pub kept : List ℤ → List ℤ
kept xs = map (to_z w32) (map (of_z w32) xs)

pub kept_products : (xs : List ℤ) → Each1 (λ x. unsigned_abs x ≤ 65536) xs → kept xs ≡ xs
kept_products xs h =
    kept_lanes xs
    (Each1-weaker (λ x. unsigned_abs x ≤ 65536) (λ x. unsigned_abs x < 2 ^ 31) (λ x le. omega (arith, le)) xs h)

-- numbers that are kept as bits, each with its signs
lanes_with : (x g : ℕ → ℤ × ℤ) (first : ℕ) → Each1 IsShort (eight x first) → AreUnits g →
    (lanes : List ℤ) → lanes ≡ eight (λ t. with_signs (keep (x t)) (g t)) first →
    (kept lanes ≡ eight (λ t. with_signs (x t) (g t)) first) ×
    Each1 (λ z. unsigned_abs z ≤ 65536) (eight (λ t. with_signs (x t) (g t)) first)
lanes_with x g first short units lanes is =
    let near = λ (z : List ℤ). Each1 (λ y. unsigned_abs y ≤ 65536) z in
    let bound : near (eight (λ t. with_signs (keep (x t)) (g t)) first) =
    eight_all (λ y. unsigned_abs y ≤ 65536) (λ t. with_signs (keep (x t)) (g t)) first
    (λ t. let fits = kept_short x t in
    with_signs-bound (keep (x t)) (g t) (abs_fits (keep (x t)).0 fits.0) (abs_fits (keep (x t)).1 fits.1) (units t)) in
    let same : eight (λ t. with_signs (keep (x t)) (g t)) first ≡
    eight (λ t. with_signs (x t) (g t)) first =
    ap (λ (xs : List (ℤ × ℤ)). zip2 with_signs xs (eight g first)) (short_kept (eight x first) short) in
    (ap kept is ∙ kept_products _ bound ∙ same, subst near same bound)

-- products by signs and by signs that are turned, kept as bits
pub are_products : (samples : List Sample) (signs : List (ℤ × ℤ)) (first : ℕ)
    (real imaginary : List ℤ) → Each1 IsShort (eight (sample_at samples) first) → AreUnits (signs_at signs) →
    real ≡ eight (λ t. with_signs (keep (sample_at samples t)) (signs_at signs t)) first → imaginary ≡
    eight (λ t. with_signs (keep (sample_at samples t)) (across (signs_at signs t))) first →
    AreProducts samples signs first (kept real) (kept imaginary)
are_products samples signs first real imaginary short units is js =
    let x : ℕ → ℤ × ℤ = sample_at samples in
    let g : ℕ → ℤ × ℤ = signs_at signs in
    let r = lanes_with x g first short units real is in
    let q = lanes_with x (λ t. across (g t)) first short (units_across g units) imaginary js in
    let e : eight (λ t. with_signs (x t) (g t)) first ≡ real_lanes samples signs first =
    λ i. eight (λ t. real_part (x t).0 (x t).1 (g t).0 (g t).1 i) first in
    record {
      real_parts = r.0 ∙ e;
      imaginary_parts = q.0;
      real_bound = subst (Each1 (λ z. unsigned_abs z ≤ 65536)) e r.1;
      imaginary_bound = q.1;
    }

-- TOTALS
total_suc : (xs : List ℤ) (k : ℕ) → k < length xs → total (take (suc k) xs) ≡ total (take k xs) +ℤ get_or xs k (pos 0)
total_suc [] k lt = absurd (omega arith)
total_suc (x ∷ xs) zero lt = omega (arith, ints)
total_suc (x ∷ xs) (suc k) lt =
    ap (λ (z : ℤ). x +ℤ z) (total_suc xs k (omega arith)) ∙
    sym (+ℤ_assoc x (total (take k xs)) (get_or xs k (pos 0)))

pub total_more : (xs : List ℤ) (k : ℕ) → k < length xs →
    total (take (k + 1) xs) ≡ total (take k xs) +ℤ get_or xs k (pos 0)
total_more xs k lt = rw add-one (total_suc xs k lt)

total-added : (xs ys : List ℤ) → length xs ≡ length ys → total (zip2 (λ a b. a +ℤ b) xs ys) ≡ total xs +ℤ total ys
total-added [] [] e = refl
total-added [] (y ∷ ys) e = absurd (omega arith)
total-added (x ∷ xs) [] e = absurd (omega arith)
total-added (x ∷ xs) (y ∷ ys) e =
    ap (λ (z : ℤ). (x +ℤ y) +ℤ z) (total-added xs ys (omega arith)) ∙ four x y (total xs) (total ys)
  where
    four : (a b c d : ℤ) → (a +ℤ b) +ℤ (c +ℤ d) ≡ (a +ℤ c) +ℤ (b +ℤ d)
    four a b c d = omega (arith, ints)

pub total_bound : (n : ℕ) (xs : List ℤ) → Each1 (λ x. unsigned_abs x ≤ n) xs → unsigned_abs (total xs) ≤ n * length xs
total_bound n [] h = omega arith
total_bound n (x ∷ xs) h =
    far x (total xs) n (n * length xs) (n * suc (length xs)) (omega arith) h.0 (total_bound n xs h.1)
  where
    far : (a b : ℤ) (n m k : ℕ) → k ≡ n + m → unsigned_abs a ≤ n → unsigned_abs b ≤ m → unsigned_abs (a +ℤ b) ≤ k
    far a b n m k e h g = omega (arith, ints, e, h, g)

-- THE STEP OF THE LOOP OVER GROUPS
-- lanes stay far from the ends of their type
pub lanes_fit : (k : ℕ) (xs ys : List ℤ) → k < 4096 → Each1 (λ x. unsigned_abs x ≤ 65536 * k) xs →
    Each1 (λ x. unsigned_abs x ≤ 65536) ys → Each2 (λ a b. unsigned_abs a + unsigned_abs b < 2 ^ 31) xs ys
lanes_fit k xs ys few h g =
    Each2-of (λ x. unsigned_abs x ≤ 65536 * k) (λ x. unsigned_abs x ≤ 65536)
    (λ a b. unsigned_abs a + unsigned_abs b < 2 ^ 31) (λ a b p q. omega (arith, p, q, few)) xs
    ys h g

pub bounds_more : (k : ℕ) (xs ys : List ℤ) → Each1 (λ x. unsigned_abs x ≤ 65536 * k) xs →
    Each1 (λ x. unsigned_abs x ≤ 65536) ys → Each1 (λ x. unsigned_abs x ≤ 65536 * (k + 1)) (zip2 (λ a b. a +ℤ b) xs ys)
bounds_more k [] ys h g = tt
bounds_more k (x ∷ xs) [] h g = tt
bounds_more k (x ∷ xs) (y ∷ ys) h g =
    (step x y (65536 * k) (65536 * (k + 1)) (omega arith) h.0 g.0, bounds_more k xs ys h.1 g.1)
  where
    step : (a b : ℤ) (m n : ℕ) → n ≡ m + 65536 → unsigned_abs a ≤ m → unsigned_abs b ≤ 65536 → unsigned_abs (a +ℤ b) ≤ n
    step a b m n e h g = omega (arith, ints, e, h, g)

-- one product further
product_more : (samples : List Sample) (signs : List (ℤ × ℤ)) (t u : ℕ) (sum : Pair) → u ≡ t + 1 →
    t < length samples → t < length signs → plus (plus sum (product_at samples signs t))
    (correlation_with (drop u samples) (drop u signs)) ≡ plus sum (correlation_with (drop t samples) (drop t signs))
product_more samples signs t u sum e lt gt =
    ap (λ (n : ℕ). plus (plus sum (product_at samples signs t)) (correlation_with (drop n samples) (drop n signs))) e
    ∙ correlation_with-more samples signs t sum (product_at samples signs t) _ _ lt gt refl refl
    refl

-- eight products further
abbrev with_eight : List Sample → List (ℤ × ℤ) → ℕ → Pair → Pair
with_eight samples signs t sum =
    let p = λ (k : ℕ). product_at samples signs k in
    plus (plus
    (plus (plus (plus (plus (plus (plus sum (p t)) (p (t + 1))) (p (t + 2))) (p (t + 3)))
    (p (t + 4))) (p (t + 5))) (p (t + 6))) (p (t + 7))

-- Eight products more are eight single steps of the correlation, in each of which one sample's
-- product goes from what is left into the sum.
eight_more : (samples : List Sample) (signs : List (ℤ × ℤ)) (t : ℕ) (sum : Pair) →
    t + 8 ≤ length samples → t + 8 ≤ length signs → plus (with_eight samples signs t sum)
    (correlation_with (drop (t + 8) samples) (drop (t + 8) signs)) ≡
    plus sum (correlation_with (drop t samples) (drop t signs))
eight_more samples signs t sum le ge =
    let p = λ (k : ℕ). product_at samples signs k in
    let s1 = plus sum (p t) in
    let s2 = plus s1 (p (t + 1)) in
    let s3 = plus s2 (p (t + 2)) in
    let s4 = plus s3 (p (t + 3)) in
    let s5 = plus s4 (p (t + 4)) in
    let s6 = plus s5 (p (t + 5)) in
    let s7 = plus s6 (p (t + 6)) in
    product_more samples signs (t + 7) (t + 8) s7 (omega arith) (omega (arith, le)) (omega (arith, ge))
    ∙ product_more samples signs (t + 6) (t + 7) s6 (omega arith) (omega (arith, le)) (omega (arith, ge))
    ∙ product_more samples signs (t + 5) (t + 6) s5 (omega arith) (omega (arith, le)) (omega (arith, ge))
    ∙ product_more samples signs (t + 4) (t + 5) s4 (omega arith) (omega (arith, le)) (omega (arith, ge))
    ∙ product_more samples signs (t + 3) (t + 4) s3 (omega arith) (omega (arith, le)) (omega (arith, ge))
    ∙ product_more samples signs (t + 2) (t + 3) s2 (omega arith) (omega (arith, le)) (omega (arith, ge))
    ∙ product_more samples signs (t + 1) (t + 2) s1 (omega arith) (omega (arith, le)) (omega (arith, ge))
    ∙ product_more samples signs t (t + 1) sum (omega arith) (omega (arith, le)) (omega (arith, ge))

regroup : (s a b c d e f g h : ℤ) → s +ℤ (a +ℤ (b +ℤ (c +ℤ (d +ℤ (e +ℤ (f +ℤ (g +ℤ (h +ℤ pos 0)))))))) ≡
    (((((((s +ℤ a) +ℤ b) +ℤ c) +ℤ d) +ℤ e) +ℤ f) +ℤ g) +ℤ h
regroup s a b c d e f g h = omega (arith, ints)

-- Eight products more in the lanes leave the correlation as it was: what the lanes gain is the
-- products of samples 8k to 8k + 7, and these are missing from the samples that are left.
pub lanes_more : (samples : List Sample) (signs : List (ℤ × ℤ)) (k : ℕ)
    (real imaginary more_real more_imaginary : List ℤ) → 8 * k + 8 ≤ length samples → 8 * k + 8 ≤ length signs →
    length real ≡ 8 → length imaginary ≡ 8 → more_real ≡ real_lanes samples signs (8 * k) →
    more_imaginary ≡ imaginary_lanes samples signs (8 * k) →
    plus (record {
      i = total (zip2 (λ a b. a +ℤ b) real more_real);
      q = total (zip2 (λ a b. a +ℤ b) imaginary more_imaginary);
    })
    (correlation_with (drop (8 * (k + 1)) samples) (drop (8 * (k + 1)) signs))
    ≡ plus (record { i = total real; q = total imaginary })
    (correlation_with (drop (8 * k) samples) (drop (8 * k) signs))
lanes_more samples signs k real imaginary more_real more_imaginary le ge long long' is is' =
    let t : ℕ = 8 * k in
    let sum : Pair = record { i = total real; q = total imaginary } in
    let p = λ (n : ℕ). product_at samples signs n in
    let place : 8 * (k + 1) ≡ t + 8 = omega arith in
    let i : total (zip2 (λ a b. a +ℤ b) real more_real) ≡ (with_eight samples signs t sum).i =
    rw is (total-added real (real_lanes samples signs t) long
    ∙ regroup (total real) (p t).i (p (t + 1)).i (p (t + 2)).i (p (t + 3)).i (p (t + 4)).i
    (p (t + 5)).i (p (t + 6)).i (p (t + 7)).i) in
    let q : total (zip2 (λ a b. a +ℤ b) imaginary more_imaginary) ≡
    (with_eight samples signs t sum).q =
    rw is' (total-added imaginary (imaginary_lanes samples signs t) long'
    ∙ regroup (total imaginary) (p t).q (p (t + 1)).q (p (t + 2)).q (p (t + 3)).q (p (t + 4)).q
    (p (t + 5)).q (p (t + 6)).q (p (t + 7)).q) in
    ap (λ (n : ℕ). plus (record {
      i = total (zip2 (λ a b. a +ℤ b) real more_real);
      q = total (zip2 (λ a b. a +ℤ b) imaginary more_imaginary);
    })
    (correlation_with (drop n samples) (drop n signs))) place
    ∙ ap (λ (x : ℤ × ℤ). plus (record {
      i = x.0;
      q = x.1;
    }) (correlation_with (drop (t + 8) samples) (drop (t + 8) signs))) (λ j. (i j, q j))
    ∙ eight_more samples signs t sum le ge

-- SUMS IN 64 BITS
pub wide_sum : (s r : ℤ) → unsigned_abs s ≤ 2 ^ 40 → unsigned_abs r < 2 ^ 31 →
    to_z w64 (of_z w64 (s +ℤ to_z w64 (of_z w64 r))) ≡ s +ℤ r
wide_sum s r hs hr =
    ap (λ (z : ℤ). to_z w64 (of_z w64 (s +ℤ z))) (to_z-of_z w64 r (fits_signed_from_abs w64 r (omega (arith, hr))))
    ∙ to_z-of_z w64 (s +ℤ r) (fits_signed_from_abs w64 (s +ℤ r) (omega (arith, ints, hs, hr)))

pub far_sum : (s r : ℤ) (m n : ℕ) → unsigned_abs s ≤ m → unsigned_abs r < 2 ^ 31 → n ≡ m + 2 ^ 31 →
    unsigned_abs (s +ℤ r) ≤ n
far_sum s r m n hs hr e = omega (arith, ints, hs, hr, e)

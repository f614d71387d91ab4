-- Products of chips with the signs of a Walsh row, lane by lane.
use Rattle.rake_finger.proofs.Common.{◌≡◌, ℕ, zero, suc, ◌+◌, ◌*◌, ◌%◌, ◌^◌, ◌<◌, ◌≤◌, Bool, true, false, List, [], ◌∷◌, map, length, refl}
use Rattle.rake_finger.proofs.Common.{get_or, sym, ap, ◌∙◌, subst, arith, ℤ, pos, ◌+ℤ◌, ◌*ℤ◌, unsigned_abs, to_z, of_z, FitsSigned, w32}
use Rattle.rake_finger.proofs.Common.{ints, to_z-of_z, int_wrap_fits, wrapping_mul_onto, unsigned_abs-mul, mul-le, sign, zip_with, times}
use Rattle.rake_finger.proofs.Common.{real_part, distrib_right, mul_assoc_ℤ, neg_times, Pair, Sample, turned, walsh, no_sample, kept}
use Rattle.rake_finger.proofs.Common.{kept_lanes, kept_products, no_sign, AreRowSigns, AreUnitSigns, turned_sign, covered_signs, sign_lanes}
use Rattle.rake_finger.proofs.Common.{covered_from, in_lane}
use Rattle.std.proofs.Math.IntN.{neg_ℤ}
use Rattle.std.proofs.Math.Facts.{Fits-of_z}
use Rattle.std.specs.Int.{int_wrap}
use lib.Lanes.{Each1, zip2}
use Rattle.std.proofs.lemmas.Simd.{Each1-weaker, Each1-zip2, Each2-of}
use Rattle.pilot_search.specs.Lanes.{eight, product_at, real_lanes, imaginary_lanes, AreProducts}
use Rattle.pilot_search.proofs.LaneSums.{products_kept}
use Rattle.rake_finger.proofs.CoveredSums.{row_sign, same_parts}

-- SIGNS
pub unit_lanes : (signs : List ℤ) (first : ℕ) → first + 8 ≤ 64 → AreUnitSigns signs →
    Each1 (λ x. unsigned_abs x ≤ 1) (sign_lanes signs first)
unit_lanes signs first room u = (
  u first (omega (arith, room)),
  (
    u (first + 1) (omega (arith, room)),
    (
      u (first + 2) (omega (arith, room)),
      (
        u (first + 3) (omega (arith, room)),
        (
          u (first + 4) (omega (arith, room)),
          (
            u (first + 5) (omega (arith, room)),
            (u (first + 6) (omega (arith, room)), (u (first + 7) (omega (arith, room)), tt)),
          ),
        ),
      ),
    ),
  ),
)

-- LANES TIMES SIGNS
product_most : (x s : ℤ) → unsigned_abs x ≤ 65536 → unsigned_abs s ≤ 1 → unsigned_abs (x *ℤ s) ≤ 65536
product_most x s h g =
    let most = mul-le (unsigned_abs x) (unsigned_abs s) 65536 1 h g in
    rw (unsigned_abs-mul x s) (omega (arith, most))

signed_lane : (x s : ℤ) → unsigned_abs x ≤ 65536 → unsigned_abs s ≤ 1 →
    to_z w32 (of_z w32 x * of_z w32 s % 4294967296) ≡ x *ℤ s
signed_lane x s h g =
    let fx : FitsSigned w32 x = in_lane x h in
    let fs : FitsSigned w32 s = in_lane s (omega (arith, g)) in
    wrapping_mul_onto w32 (of_z w32 x) s (Fits-of_z {w = w32} {z = x} fx).fits fs
    ∙ ap (λ (z : ℤ). int_wrap w32 (z *ℤ s)) (to_z-of_z w32 x fx)
    ∙ int_wrap_fits w32 (x *ℤ s) (in_lane (x *ℤ s) (product_most x s h g))

pub signed_all : (xs ys : List ℤ) → Each1 (λ x. unsigned_abs x ≤ 65536) xs → Each1 (λ y. unsigned_abs y ≤ 1) ys →
    map (to_z w32) (zip2 (λ a b. a * b % 4294967296) (map (of_z w32) xs) (map (of_z w32) ys)) ≡
    zip2 (λ a b. a *ℤ b) xs ys
signed_all [] ys h g = refl
signed_all (x ∷ xs) [] h g = refl
signed_all (x ∷ xs) (y ∷ ys) h g = λ i. signed_lane x y h.0 g.0 i ∷ signed_all xs ys h.1 g.1 i

pub signed_near : (xs ys : List ℤ) → Each1 (λ x. unsigned_abs x ≤ 65536) xs → Each1 (λ y. unsigned_abs y ≤ 1) ys →
    Each1 (λ x. unsigned_abs x ≤ 65536) (zip2 (λ a b. a *ℤ b) xs ys)
signed_near xs ys h g =
    Each1-zip2 (λ a b. a *ℤ b) (λ x. unsigned_abs x ≤ 65536) xs ys
    (Each2-of (λ x. unsigned_abs x ≤ 65536) (λ y. unsigned_abs y ≤ 1)
    (λ x y. unsigned_abs (x *ℤ y) ≤ 65536) (λ x y p q. product_most x y p q) xs ys h g)

pub kept_units : (xs : List ℤ) → Each1 (λ x. unsigned_abs x ≤ 1) xs → kept xs ≡ xs
kept_units xs h =
    kept_lanes xs
    (Each1-weaker (λ x. unsigned_abs x ≤ 1) (λ x. unsigned_abs x < 2 ^ 31) (λ x le. omega (arith, le)) xs h)

pub near_kept : (xs : List ℤ) → Each1 (λ x. unsigned_abs x ≤ 65536) xs → Each1 (λ x. unsigned_abs x ≤ 65536) (kept xs)
near_kept xs h = subst (Each1 (λ x. unsigned_abs x ≤ 65536)) (sym (kept_products xs h)) h

-- lanes of products times lanes of signs, all kept as bits
pub signed_kept : (products lanes signs result : List ℤ) →
    Each1 (λ x. unsigned_abs x ≤ 65536) products → lanes ≡ signs → Each1 (λ x. unsigned_abs x ≤ 1) signs →
    result ≡ zip2 (λ a b. a *ℤ b) (kept products) (kept lanes) → kept result ≡ zip2 (λ a b. a *ℤ b) products signs
signed_kept products lanes signs result h is u e =
    let f : kept products ≡ products = kept_products products h in
    let g : kept lanes ≡ signs = ap kept is ∙ kept_units signs u in
    let whole : result ≡ zip2 (λ a b. a *ℤ b) products signs = e ∙ (λ i. zip2 (λ a b. a *ℤ b) (f i) (g i)) in
    ap kept whole
    ∙ kept_products (zip2 (λ a b. a *ℤ b) products signs) (signed_near products signs h u)

-- PRODUCTS WITH COVERED SIGNS
covered_real : (s : Sample) (g : ℤ × ℤ) (w : ℤ) → (turned s (turned_sign w g)).i ≡ (turned s g).i *ℤ w
covered_real s g w =
    sym (real_part s.i s.q (g.0 *ℤ w) (g.1 *ℤ w))
    ∙ (λ i. sym (mul_assoc_ℤ s.i g.0 w) i +ℤ sym (mul_assoc_ℤ s.q g.1 w) i)
    ∙ sym (distrib_right (s.i *ℤ g.0) (s.q *ℤ g.1) w)
    ∙ ap (λ (z : ℤ). z *ℤ w) (real_part s.i s.q g.0 g.1)

covered_imaginary : (s : Sample) (g : ℤ × ℤ) (w : ℤ) → (turned s (turned_sign w g)).q ≡ (turned s g).q *ℤ w
covered_imaginary s g w =
    ap (λ (z : ℤ). (s.i *ℤ z) +ℤ (s.q *ℤ (g.0 *ℤ w))) (sym (neg_times g.1 w))
    ∙ (λ i. sym (mul_assoc_ℤ s.i (neg_ℤ g.1) w) i +ℤ sym (mul_assoc_ℤ s.q g.0 w) i)
    ∙ sym (distrib_right (s.i *ℤ neg_ℤ g.1) (s.q *ℤ g.0) w)

pub length-covered : (row : List ℤ) (k : ℕ) (signs : List (ℤ × ℤ)) → length (covered_signs row k signs) ≡ length signs
length-covered row k [] = refl
length-covered row k (g ∷ signs) = ap suc (length-covered row (suc k) signs)

get_or-covered : (row : List ℤ) (k t : ℕ) (signs : List (ℤ × ℤ)) → t < length signs →
    get_or (covered_signs row k signs) t no_sign ≡
    turned_sign (get_or row ((k + t) % 64) (pos 0)) (get_or signs t no_sign)
get_or-covered row k t [] lt = absurd (omega arith)
get_or-covered row k zero (g ∷ signs) lt =
    let here : k ≡ k + 0 = omega arith in
    ap (λ (n : ℕ). turned_sign (get_or row (n % 64) (pos 0)) g) here
get_or-covered row k (suc t) (g ∷ signs) lt =
    let further : suc k + t ≡ k + suc t = omega arith in
    get_or-covered row (suc k) t signs (omega (arith, lt))
    ∙ ap (λ (n : ℕ). turned_sign (get_or row (n % 64) (pos 0)) (get_or signs t no_sign)) further

-- the sign of a chip of the code, covered
at_chip : (row : List ℤ) (signs : List (ℤ × ℤ)) (t chip : ℕ) → t < length signs → t % 64 ≡ chip →
    get_or (covered_signs row 0 signs) t no_sign ≡ turned_sign (get_or row chip (pos 0)) (get_or signs t no_sign)
at_chip row signs t chip lt place =
    let here : (0 + t) % 64 ≡ chip = omega (arith, place) in
    get_or-covered row 0 t signs lt
    ∙ ap (λ (n : ℕ). turned_sign (get_or row n (pos 0)) (get_or signs t no_sign)) here

-- a part of the products that a sign of the row may be taken out of
abbrev Turns : (Pair → ℤ) → Type 0
Turns part = (s : Sample) (g : ℤ × ℤ) (w : ℤ) →
    part (turned s (turned_sign w g)) ≡ part (turned s g) *ℤ w

part_at : (part : Pair → ℤ) → Turns part → (samples : List Sample) (signs : List (ℤ × ℤ))
    (row : List ℤ) (t chip : ℕ) → t < length signs → t % 64 ≡ chip →
    part (product_at samples signs t) *ℤ get_or row chip (pos 0) ≡
    part (product_at samples (covered_signs row 0 signs) t)
part_at part turns samples signs row t chip lt place =
    sym (ap (λ (g : ℤ × ℤ). part (turned (get_or samples t no_sample) g)) (at_chip row signs t chip lt place)
    ∙ turns (get_or samples t no_sample) (get_or signs t no_sign) (get_or row chip (pos 0)))

-- eight places of a row and of the samples
covered_lanes : (part : Pair → ℤ) → Turns part → (samples : List Sample) (signs : List (ℤ × ℤ))
    (row : List ℤ) (t chip : ℕ) → t + 8 ≤ length signs → t % 64 ≡ chip → chip + 8 ≤ 64 →
    zip2 (λ a b. a *ℤ b) (eight (λ n. part (product_at samples signs n)) t) (sign_lanes row chip) ≡
    eight (λ n. part (product_at samples (covered_signs row 0 signs) n)) t
covered_lanes part turns samples signs row t chip room place whole =
    let one = part_at part turns samples signs row in
    λ i. one t chip (omega (arith, room)) place i
    ∷ one (t + 1) (chip + 1) (omega (arith, room)) (omega (arith, place, whole)) i
    ∷ one (t + 2) (chip + 2) (omega (arith, room)) (omega (arith, place, whole)) i
    ∷ one (t + 3) (chip + 3) (omega (arith, room)) (omega (arith, place, whole)) i
    ∷ one (t + 4) (chip + 4) (omega (arith, room)) (omega (arith, place, whole)) i
    ∷ one (t + 5) (chip + 5) (omega (arith, room)) (omega (arith, place, whole)) i
    ∷ one (t + 6) (chip + 6) (omega (arith, room)) (omega (arith, place, whole)) i
    ∷ one (t + 7) (chip + 7) (omega (arith, room)) (omega (arith, place, whole)) i
    ∷ []

-- the products of a group of chips, covered by the row
pub covered_are : (samples : List Sample) (signs : List (ℤ × ℤ)) (row : List ℤ) (k group : ℕ)
    (real imaginary real' imaginary' : List ℤ) → k % 8 ≡ group → 8 * k + 8 ≤ length signs →
    AreUnitSigns row → AreProducts samples signs (8 * k) real imaginary →
    real' ≡ zip2 (λ a b. a *ℤ b) real (sign_lanes row (8 * group)) →
    imaginary' ≡ zip2 (λ a b. a *ℤ b) imaginary (sign_lanes row (8 * group)) →
    AreProducts samples (covered_signs row 0 signs) (8 * k) real' imaginary'
covered_are samples signs row k group real imaginary real' imaginary' same room u p e f =
    let place : 8 * k % 64 ≡ 8 * group = omega (arith, same) in
    let whole : 8 * group + 8 ≤ 64 = omega (arith, same) in
    let units = unit_lanes row (8 * group) whole u in
    let r = covered_lanes (λ p. p.i) covered_real samples signs row (8 * k) (8 * group) room place
    whole in
    let i = covered_lanes (λ p. p.q) covered_imaginary samples signs row (8 * k) (8 * group) room
    place whole in
    record {
      real_parts = e
          ∙ ap (λ (xs : List ℤ). zip2 (λ a b. a *ℤ b) xs (sign_lanes row (8 * group)))
          p.real_parts
          ∙ r;
      imaginary_parts = f
          ∙ ap (λ (xs : List ℤ). zip2 (λ a b. a *ℤ b) xs (sign_lanes row (8 * group)))
          p.imaginary_parts
          ∙ i;
      real_bound = subst (Each1 (λ x. unsigned_abs x ≤ 65536)) r
          (signed_near (real_lanes samples signs (8 * k)) (sign_lanes row (8 * group))
          p.real_bound units);
      imaginary_bound = subst (Each1 (λ x. unsigned_abs x ≤ 65536)) i
          (signed_near (imaginary_lanes samples signs (8 * k)) (sign_lanes row (8 * group))
          p.imaginary_bound units);
    }

-- COVERED SAMPLES
row_turn : (b : Bool) (y : Pair) → ◌≡◌ {A = Pair} record {
  i = y.i *ℤ sign b;
  q = y.q *ℤ sign b;
} (times (record { i = sign b; q = pos 0 }) y)
row_turn true y = same_parts _ _ _ _ (omega (arith, ints)) (omega (arith, ints))
row_turn false y = same_parts _ _ _ _ (omega (arith, ints)) (omega (arith, ints))

covered_one : (row k : ℕ) (signs : List ℤ) (s : Sample) (g : ℤ × ℤ) → AreRowSigns row signs →
    turned s (turned_sign (get_or signs (k % 64) (pos 0)) g) ≡ times (row_sign row k) (turned s g)
covered_one row k signs s g all =
    let w = sign (walsh row (k % 64)) in
    ap (λ (z : ℤ). turned s (turned_sign z g)) (all (k % 64) (omega arith))
    ∙ same_parts _ _ _ _ (covered_real s g w) (covered_imaginary s g w)
    ∙ row_turn (walsh row (k % 64)) (turned s g)

pub covered_all : (row k : ℕ) (row_signs : List ℤ) (samples : List Sample)
    (signs : List (ℤ × ℤ)) → AreRowSigns row row_signs → zip_with turned samples (covered_signs row_signs k signs) ≡
    covered_from row k (zip_with turned samples signs)
covered_all row k row_signs [] signs all = refl
covered_all row k row_signs (s ∷ samples) [] all = refl
covered_all row k row_signs (s ∷ samples) (g ∷ signs) all = λ i.
    covered_one row k row_signs s g all i
    ∷ covered_all row (suc k) row_signs samples signs all i

-- the same for a group of chips, from the clauses of the two calls that made them
pub group_products : (samples : List Sample) (signs : List (ℤ × ℤ)) (row : List ℤ) (k : ℕ)
    (real imaginary real' imaginary' : List ℤ) → 8 * k + 8 ≤ length signs → AreUnitSigns row →
    AreProducts samples signs (8 * k) real imaginary →
    real' ≡ zip2 (λ a b. a *ℤ b) (kept real) (sign_lanes row (8 * (k % 8))) →
    imaginary' ≡ zip2 (λ a b. a *ℤ b) (kept imaginary) (sign_lanes row (8 * (k % 8))) →
    AreProducts samples (covered_signs row 0 signs) (8 * k) (kept real') (kept imaginary')
group_products samples signs row k real imaginary real' imaginary' room u p e f =
    products_kept samples (covered_signs row 0 signs) (8 * k) real' imaginary'
    (covered_are samples signs row k (k % 8) (kept real) (kept imaginary) real' imaginary' refl room
    u (products_kept samples signs (8 * k) real imaginary p) e f)

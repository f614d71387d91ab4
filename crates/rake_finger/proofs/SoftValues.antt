-- Soft values: from sums to the definitions, and their bounds.
use Rattle.rake_finger.proofs.Common.{unsigned_abs-mul, fits_signed_mul, unsigned_abs, symbol_chips, window_chips, finger_place, FitsSigned}
use Rattle.rake_finger.proofs.Common.{covered_from, despread_at, turned_part, walsh-pilot, symbol_sum, soft_bound, to_z-of_z, neg_times, []}
use Rattle.rake_finger.proofs.Common.{pilot_sum, IsWithin, mul-le, sum_of, Sample, Finger, arith, times, List, refl, ◌+ℤ◌, ◌*ℤ◌, to_z, of_z}
use Rattle.rake_finger.proofs.Common.{ints, Pair, Form, Sync, Data, soft, ◌≡◌, suc, ◌+◌, ◌*◌, ◌/◌, ◌^◌, ◌≤◌, ◌∷◌, ◌∙◌, pos, w64, ap, ℕ, ℤ}
use Rattle.rake_finger.proofs.CoveredSums.{same_parts}

one_times : (p : Pair) → times (record { i = pos 1; q = pos 0 }) p ≡ p
one_times p = same_parts _ _ p.i p.q (omega (arith, ints)) (omega (arith, ints))

pub covered-pilot : (k : ℕ) (ps : List Pair) → covered_from 0 k ps ≡ ps
covered-pilot k [] = refl
covered-pilot k (p ∷ ps) = rw (walsh-pilot, one_times p, covered-pilot (suc k) ps)

pub pilot_is : (samples : List Sample) (finger : Finger) (form : Form) (start window place chips : ℕ) (sum : Pair) →
    chips ≡ window_chips form → place ≡ finger_place finger start + chips * window →
    sum ≡ sum_of (covered_from 0 0 (despread_at samples finger.phase place chips)) →
    sum ≡ pilot_sum samples finger form start window
unfolding pilot_sum
pilot_is samples finger form start window place chips sum size at h =
    rw (at, size) at h ∙
    ap sum_of
    (covered-pilot 0
    (despread_at samples finger.phase (finger_place finger start + window_chips form * window) (window_chips form)))

pub symbol_is : (samples : List Sample) (finger : Finger) (form : Form) (start symbol place chips : ℕ) (sum : Pair) →
    chips ≡ symbol_chips form → place ≡ finger_place finger start + chips * symbol →
    sum ≡ sum_of (covered_from finger.row 0 (despread_at samples finger.phase place chips)) →
    sum ≡ symbol_sum samples finger form start symbol
unfolding symbol_sum
symbol_is samples finger form start symbol place chips sum size at h = rw (at, size) at h

pub turned_part-is : (pilot symbol : Pair) → (pilot.i *ℤ symbol.i) +ℤ (pilot.q *ℤ symbol.q) ≡ turned_part pilot symbol
turned_part-is pilot symbol = rw (neg_times pilot.q symbol.q) (omega (arith, ints))

pub soft_is : (samples : List Sample) (finger : Finger) (form : Form) (start j : ℕ) →
    turned_part (pilot_sum samples finger form start (symbol_chips form * j / window_chips form))
    (symbol_sum samples finger form start j) ≡ soft samples finger form start j
unfolding soft
soft_is samples finger form start j = refl

-- how great a part of a sum can be
pub pilot_most : (form : Form) → 65536 * window_chips form ≤ 2 ^ 27
pilot_most Sync = omega arith
pilot_most Data = omega arith

pub symbol_most : (form : Form) → 65536 * symbol_chips form ≤ 2 ^ 24
symbol_most Sync = omega arith
symbol_most Data = omega arith

-- the sums' bounds bound the value
pub soft_bounded : (form : Form) (a b c d : ℕ) → a ≤ 65536 * window_chips form → b ≤ 65536 * symbol_chips form →
    c ≤ 65536 * window_chips form → d ≤ 65536 * symbol_chips form → a * b + c * d ≤ soft_bound form
soft_bounded Sync a b c d ha hb hc hd =
    let m : a * b ≤ (65536 * 1024) * (65536 * 256) = mul-le a b (65536 * 1024) (65536 * 256) ha hb in
    let n : c * d ≤ (65536 * 1024) * (65536 * 256) = mul-le c d (65536 * 1024) (65536 * 256) hc hd in
    omega (arith, m, n)
soft_bounded Data a b c d ha hb hc hd =
    let m : a * b ≤ (65536 * 1536) * (65536 * 64) = mul-le a b (65536 * 1536) (65536 * 64) ha hb in
    let n : c * d ≤ (65536 * 1536) * (65536 * 64) = mul-le c d (65536 * 1536) (65536 * 64) hc hd in
    omega (arith, m, n)

pub value_small : (form : Form) (p s : Pair) (value : ℤ) →
    unsigned_abs p.i ≤ 65536 * window_chips form → unsigned_abs p.q ≤ 65536 * window_chips form →
    IsWithin (65536 * symbol_chips form) s →
    unsigned_abs value ≤ unsigned_abs p.i * unsigned_abs s.i + unsigned_abs p.q * unsigned_abs s.q →
    unsigned_abs value ≤ soft_bound form
value_small form p s value hi hq near bound =
    let most =
    soft_bounded form (unsigned_abs p.i) (unsigned_abs s.i) (unsigned_abs p.q) (unsigned_abs s.q)
    hi near.0 hq near.1 in
    omega (arith, bound, most)

-- a product of two parts that fits
pub product_is : (a b : ℤ) → FitsSigned w64 a → FitsSigned w64 b → unsigned_abs a ≤ 2 ^ 27 → unsigned_abs b ≤ 2 ^ 24 →
    to_z w64 (of_z w64 (to_z w64 (of_z w64 a) *ℤ to_z w64 (of_z w64 b))) ≡ a *ℤ b
product_is a b fa fb ha hb =
    let fits : FitsSigned w64 (a *ℤ b) = fits_signed_mul w64 a b (2 ^ 27) (2 ^ 24) ha hb (omega arith) in
    rw (to_z-of_z w64 a fa, to_z-of_z w64 b fb, to_z-of_z w64 (a *ℤ b) fits)

pub product_most : (a b : ℤ) → unsigned_abs a ≤ 2 ^ 27 → unsigned_abs b ≤ 2 ^ 24 → unsigned_abs (a *ℤ b) ≤ 2 ^ 51
product_most a b ha hb = rw (unsigned_abs-mul a b) (mul-le (unsigned_abs a) (unsigned_abs b) (2 ^ 27) (2 ^ 24) ha hb)

-- A block of eight states by the codewords of the definitions.
use Rattle.viterbi.proofs.Common.{◌≡◌, ℕ, zero, suc, ◌+◌, ◌-◌, ◌*◌, ◌/◌, ◌%◌, ◌^◌, ◌<◌, ◌≤◌, Bool, true, false, List, [], ◌∷◌, length, map}
use Rattle.viterbi.proofs.Common.{take, drop, get_or, refl, sym, ap, ◌∙◌, arith, ℤ, pos, ◌+ℤ◌, ◌-ℤ◌, ◌*ℤ◌, ◌≤ℤ◌, ◌<ℤ◌, negsuc, FitsSigned}
use Rattle.viterbi.proofs.Common.{unsigned_abs, to_z, of_z, w64, nat_lt, int_lt, list_all, range_with_len, ints, to_z-of_z, abs_signed, Fit}
use Rattle.viterbi.proofs.Common.{fits_signed_from_abs, and_parts, nat_tests, get_or-map, get_or-drop, get_or-take, length-map, Each1, sign}
use Rattle.viterbi.proofs.Common.{length-take-le, get_or-range_with_len, length-range_with_len, get_or-chunk, length-chunk, Each2, chunk}
use Rattle.viterbi.proofs.Common.{Each1-from_get_or, bit_of, low_bits, gain_of, wants, taken_of, metric_from, metric_into, choice_into}
use Rattle.viterbi.proofs.Common.{lane_codes, patterns, gain_by, lane_code_of, length-drop, CanStep, AreEveryOther}
use Rattle.viterbi.proofs.Codes.{code_gains}
use Rattle.viterbi.proofs.Blocks.{passed, kept}

-- THE TABLES
all_tests : (p : ℕ → Bool) (xs : List ℕ) (i d : ℕ) → i < length xs → list_all p xs ≡ true → p (get_or xs i d) ≡ true
all_tests p [] i d h all = absurd (omega (arith, h))
all_tests p (x ∷ xs) zero d h all = (and_parts (p x) (list_all p xs) all).0
all_tests p (x ∷ xs) (suc i) d h all = all_tests p xs i d (omega (arith, h)) (and_parts (p x) (list_all p xs) all).1

all_below : (p : ℕ → Bool) (n : ℕ) → list_all p (range_with_len 0 n) ≡ true → (t : ℕ) → t < n → p t ≡ true
all_below p n all t b =
    let place : 0 + t ≡ t = omega arith in
    sym (ap p (get_or-range_with_len 0 n t 0 b ∙ place))
    ∙ all_tests p (range_with_len 0 n) t 0 (omega (arith, b, length-range_with_len 0 n)) all

abbrev small_pattern : ℕ → Bool
small_pattern k = nat_lt (get_or patterns k 0) 4

all_small : list_all small_pattern (range_with_len 0 32) ≡ true
unfolding patterns
all_small = refl

abbrev small_lane : ℕ → Bool
small_lane j = nat_lt (get_or lane_codes j 0) 4

all_lanes : list_all small_lane (range_with_len 0 32) ≡ true
unfolding lane_codes
all_lanes = refl

pub pattern_small : (k : ℕ) → k < 32 → get_or patterns k 0 < 4
pattern_small k b = let e = all_below small_pattern 32 all_small k b in grind (arith, nat_tests, e)

pub lane_small : (j : ℕ) → j < 32 → get_or lane_codes j 0 < 4
lane_small j b = let e = all_below small_lane 32 all_lanes j b in grind (arith, nat_tests, e)

pub code_at : (k l : ℕ) → l < 8 → lane_code_of (8 * k + l) ≡ get_or lane_codes (8 * get_or patterns k 0 + l) 0
code_at k l b =
    let block : (8 * k + l) / 8 ≡ k = omega (arith, b) in
    let lane : (8 * k + l) % 8 ≡ l = omega (arith, b) in
    rw (block, lane) refl

-- GAINS
pub gain_size : (f s : ℤ) (c : ℕ) → unsigned_abs (gain_by f s c) ≤ unsigned_abs f + unsigned_abs s
unfolding gain_by
gain_size f s c =
    sum_size (f *ℤ sign (bit_of c 0)) (s *ℤ sign (bit_of c 1))
    (abs_signed f (bit_of c 0)) (abs_signed s (bit_of c 1)) where
      sum_size : (a b : ℤ) → unsigned_abs a ≡ unsigned_abs f → unsigned_abs b ≡ unsigned_abs s →
          unsigned_abs (a +ℤ b) ≤ unsigned_abs f + unsigned_abs s
      sum_size a b p q = omega (arith, ints, p, q)

lanes_long : length lane_codes ≡ 32
unfolding lane_codes
lanes_long = refl

-- Each of the 32 gains that are looked up by a lane's code is the gain of that code: codes are
-- below 4, and a gain of at most 2^62 in size comes back unchanged from 64 bits.
pub lanes_made : (f s : ℤ) (four : List ℤ) → unsigned_abs f + unsigned_abs s ≤ 2 ^ 62 →
    ((c : ℕ) → c < 4 → get_or four c (pos 0) ≡ gain_by f s c) → (j : ℕ) → j < 32 →
    get_or (map (λ c. to_z w64 (of_z w64 (get_or four c (pos 0)))) lane_codes) j (pos 0)
    ≡ gain_by f s (get_or lane_codes j 0)
lanes_made f s four small is j b =
    let c = get_or lane_codes j 0 in
    let few = lane_small j b in
    let size : unsigned_abs (gain_by f s c) < 2 ^ 63 = omega (arith, small, gain_size f s c) in
    get_or-map (λ c. to_z w64 (of_z w64 (get_or four c (pos 0)))) lane_codes j 0 (pos 0) (omega (arith, b, lanes_long))
    ∙ rw (is c few) (to_z-of_z w64 (gain_by f s c) (fits_signed_from_abs w64 (gain_by f s c) size))

-- A lane of gains has the gain at its own place: the lanes are the n of the 32 gains that begin at
-- the place `at`, and a gain that fits into 64 bits is read as it was written.
pub gains_read : (n : ℕ) (xs : List ℤ) (at l : ℕ) → length xs ≡ 32 → at + n ≤ 32 → l < n →
    FitsSigned w64 (get_or xs (at + l) (pos 0)) →
    get_or (passed (chunk 0 n (take (32 - at) (drop at xs)))) l (pos 0) ≡ get_or xs (at + l) (pos 0)
gains_read n xs at l long room b fits =
    let part = take (32 - at) (drop at xs) in
    let size : length part ≡ 32 - at = length-take-le (32 - at) (drop at xs) (omega (arith, length-drop at xs, long)) in
    let lanes = chunk 0 n part in
    let many : length lanes ≡ n = length-chunk 0 n part (omega (arith, size, room)) in
    let read : get_or lanes l (pos 0) ≡ get_or xs (at + l) (pos 0) =
    get_or-chunk 0 n part l (pos 0) b
    ∙ ap (λ (i : ℕ). get_or part i (pos 0)) (omega arith)
    ∙ get_or-take (32 - at) (drop at xs) l (pos 0) (omega (arith, room, b))
    ∙ get_or-drop at xs l (pos 0) in
    get_or-map (to_z w64) (map (of_z w64) lanes) l 0 (pos 0) (omega (arith, b, many, length-map lanes (of_z w64)))
    ∙ ap (to_z w64) (get_or-map (of_z w64) lanes l (pos 0) 0 (omega (arith, b, many)))
    ∙ ap (λ (z : ℤ). to_z w64 (of_z w64 z)) read
    ∙ to_z-of_z w64 _ fits

-- NUMBERS OF 64 BITS
pub fits_between : (z : ℤ) → pos 0 ≤ℤ (z +ℤ pos (2 ^ 63)) → z <ℤ pos (2 ^ 63) → FitsSigned w64 z
fits_between (pos n) low high = record { sfits = omega (arith, ints, high) }
fits_between (negsuc n) low high = record { sfits = omega (arith, ints, low) }

-- a metric that is no greater than the top, less the top
pub less_fits : (x top : ℤ) (g : ℕ) → x ≤ℤ top → unsigned_abs (top -ℤ x) + g ≤ 2 ^ 63 → FitsSigned w64 (x -ℤ top)
less_fits x top g most near =
    fits_between (x -ℤ top) (omega (arith, ints, most, near)) (omega (arith, ints, most, near))

-- and with what a bit adds
pub moved_fits : (x top gain : ℤ) (g : ℕ) → x ≤ℤ top → unsigned_abs (top -ℤ x) + g ≤ 2 ^ 63 →
    unsigned_abs gain ≤ g → g ≤ 2 ^ 62 → FitsSigned w64 ((x -ℤ top) +ℤ gain) × FitsSigned w64 ((x -ℤ top) -ℤ gain)
moved_fits x top gain g most near size few = (
  fits_between ((x -ℤ top) +ℤ gain) (omega (arith, ints, most, near, size, few))
      (omega (arith, ints, most, near, size, few)),
  fits_between ((x -ℤ top) -ℤ gain) (omega (arith, ints, most, near, size, few))
      (omega (arith, ints, most, near, size, few)),
)

-- A BLOCK
pub each2_from : (made : ℤ → ℤ → ℤ) (xs ys : List ℤ) (n : ℕ) → length xs ≡ n → length ys ≡ n →
    ((l : ℕ) → l < n →
    Fit (get_or xs l (pos 0)) (get_or ys l (pos 0))
    (made (get_or xs l (pos 0)) (get_or ys l (pos 0)))) →
    Each2 (λ x y. Fit x y (made x y)) xs ys
each2_from made [] ys n p q h = tt
each2_from made (x ∷ xs) [] n p q h = tt
each2_from made (x ∷ xs) (y ∷ ys) zero p q h = absurd (omega (arith, p))
each2_from made (x ∷ xs) (y ∷ ys) (suc n) p q h = (
  h 0 (omega arith),
  each2_from made xs ys n (omega (arith, p)) (omega (arith, q))
      (λ l b. h (suc l) (omega (arith, b))),
)

pub passed_is : (xs : List ℤ) → ((l : ℕ) → l < length xs → FitsSigned w64 (get_or xs l (pos 0))) → passed xs ≡ xs
passed_is xs h = kept xs (Each1-from_get_or (λ x. FitsSigned w64 x) xs (pos 0) h)

-- lanes of a column, as they are handed on and less the top
pub less_lanes : (column xs : List ℤ) (top : ℤ) (at : ℕ) → at + 15 ≤ length column → FitsSigned w64 top →
    ((t : ℕ) → t < length column → FitsSigned w64 (get_or column t (pos 0))) →
    ((t : ℕ) → t < length column → FitsSigned w64 (get_or column t (pos 0) -ℤ top)) →
    AreEveryOther (λ x. x) column at xs → (passed xs ≡ xs) × Each1 (λ x. Fit x top (x -ℤ top)) xs
less_lanes column xs top at room fits each less h =
    let long = h.long in (
      passed_is xs (λ l b. rw (h.each l (omega (arith, b, long)))
          (each (at + 2 * l) (omega (arith, b, long, room)))),
      Each1-from_get_or (λ x. Fit x top (x -ℤ top)) xs (pos 0)
          (λ l b. rw (h.each l (omega (arith, b, long))) (
            each (at + 2 * l) (omega (arith, b, long, room)),
            (fits, less (at + 2 * l) (omega (arith, b, long, room))),
          )),
    )

-- and what is made of them, handed on again
pub less_read : (column xs made : List ℤ) (top : ℤ) (at : ℕ) → at + 15 ≤ length column → FitsSigned w64 top →
    ((t : ℕ) → t < length column → FitsSigned w64 (get_or column t (pos 0))) →
    ((t : ℕ) → t < length column → FitsSigned w64 (get_or column t (pos 0) -ℤ top)) →
    AreEveryOther (λ x. x) column at xs → made ≡ map (λ x. x -ℤ to_z w64 (of_z w64 top)) (passed xs) →
    AreEveryOther (λ x. x -ℤ top) column at (passed made)
less_read column xs made top at room top_fits each less h made_of =
    rw (passed_is made fits) (record { long = size; each = here }) where
      is : made ≡ map (λ x. x -ℤ top) xs
      is = rw ((less_lanes column xs top at room top_fits each less h).0, to_z-of_z w64 top top_fits)
          at made_of

      here : (l : ℕ) → l < 8 → get_or made l (pos 0) ≡ get_or column (at + 2 * l) (pos 0) -ℤ top
      here l b =
          ap (λ (r : List ℤ). get_or r l (pos 0)) is
          ∙ get_or-map (λ x. x -ℤ top) xs l (pos 0) (pos 0) (omega (arith, b, h.long))
          ∙ ap (λ (z : ℤ). z -ℤ top) (h.each l b)

      size : length made ≡ 8
      size = ap length is ∙ length-map xs (λ x. x -ℤ top) ∙ h.long

      fits : (l : ℕ) → l < length made → FitsSigned w64 (get_or made l (pos 0))
      fits l b = rw (here l (omega (arith, b, size))) (less (at + 2 * l) (omega (arith, b, size, room)))

place_even : (k l : ℕ) → k < 32 → l < 8 → 2 * ((8 * k + l) % 128) + 0 ≡ 16 * (k % 16) + 2 * l
place_even k l p b = omega (arith, p, b)

place_odd : (k l : ℕ) → k < 32 → l < 8 → 2 * ((8 * k + l) % 128) + 1 ≡ 16 * (k % 16) + 1 + 2 * l
place_odd k l p b = omega (arith, p, b)

-- the two metrics that are compared, each less the top
pub plus_less : (x top g : ℤ) → (x -ℤ top) +ℤ g ≡ (x +ℤ g) -ℤ top
plus_less x top g = omega (arith, ints)

minus_less : (x top g : ℤ) → (x -ℤ top) -ℤ g ≡ (x +ℤ (pos 0 -ℤ g)) -ℤ top
minus_less x top g = omega (arith, ints)

-- A lane's sum is the metric out of the even state, less the top: lane l of block k is for state 8k
-- + l, its even predecessor stands at that lane's place, and the gain is that of the two symbols on
-- the way.
pub from_even : (column : List ℤ) (top f s : ℤ) (k l : ℕ) (a g : ℤ) → k < 32 → l < 8 →
    a ≡ get_or column (16 * (k % 16) + 2 * l) (pos 0) -ℤ top →
    g ≡ gain_by f s (get_or lane_codes (8 * get_or patterns k 0 + l) 0) →
    a +ℤ g ≡ metric_from column f s (8 * k + l) 0 -ℤ top
unfolding metric_from
from_even column top f s k l a g p b ais gis =
    let t = 8 * k + l in
    let gain : g ≡ gain_of f s (low_bits 9 (2 * t + 0)) =
    gis ∙ ap (gain_by f s) (sym (code_at k l b)) ∙ sym (code_gains f s t (omega (arith, p, b))).0 in
    let here : a ≡ get_or column (2 * (t % 128) + 0) (pos 0) -ℤ top =
    ais ∙ ap (λ (i : ℕ). get_or column i (pos 0) -ℤ top) (sym (place_even k l p b)) in
    ap (λ (z : ℤ). z +ℤ g) here
    ∙ ap (λ (z : ℤ). (get_or column (2 * (t % 128) + 0) (pos 0) -ℤ top) +ℤ z) gain
    ∙ plus_less (get_or column (2 * (t % 128) + 0) (pos 0)) top _

-- A lane's difference is the metric out of the odd state, less the top: out of the odd predecessor
-- both code symbols are the opposite ones, so the gain is taken off instead of added.
pub from_odd : (column : List ℤ) (top f s : ℤ) (k l : ℕ) (a g : ℤ) → k < 32 → l < 8 →
    a ≡ get_or column (16 * (k % 16) + 1 + 2 * l) (pos 0) -ℤ top →
    g ≡ gain_by f s (get_or lane_codes (8 * get_or patterns k 0 + l) 0) →
    a -ℤ g ≡ metric_from column f s (8 * k + l) 1 -ℤ top
unfolding metric_from
from_odd column top f s k l a g p b ais gis =
    let t = 8 * k + l in
    let gain : pos 0 -ℤ g ≡ gain_of f s (low_bits 9 (2 * t + 1)) =
    ap (λ (z : ℤ). pos 0 -ℤ z) (gis ∙ ap (gain_by f s) (sym (code_at k l b)))
    ∙ sym (code_gains f s t (omega (arith, p, b))).1 in
    let here : a ≡ get_or column (2 * (t % 128) + 1) (pos 0) -ℤ top =
    ais ∙ ap (λ (i : ℕ). get_or column i (pos 0) -ℤ top) (sym (place_odd k l p b)) in
    ap (λ (z : ℤ). z -ℤ g) here
    ∙ minus_less (get_or column (2 * (t % 128) + 1) (pos 0)) top g
    ∙ ap (λ (z : ℤ). (get_or column (2 * (t % 128) + 1) (pos 0) +ℤ z) -ℤ top) gain

-- what is taken off both changes no comparison
less_same : (x y top : ℤ) → int_lt (x -ℤ top) (y -ℤ top) ≡ int_lt x y
less_same x y top = by_test (int_lt x y) (int_lt (x -ℤ top) (y -ℤ top)) refl refl where
  by_test : (c d : Bool) → int_lt x y ≡ c → int_lt (x -ℤ top) (y -ℤ top) ≡ d → d ≡ c
  by_test true true p q = refl
  by_test false false p q = refl
  by_test true false p q = grind (arith, ints, p, q)
  by_test false true p q = grind (arith, ints, p, q)

wants_same : (forced : Bool) (x y top : ℤ) → wants forced (x -ℤ top) (y -ℤ top) ≡ wants forced x y
wants_same true x y top = refl
wants_same false x y top = less_same x y top

taken_less : (c : Bool) (x y top : ℤ) → taken_of c (x -ℤ top) (y -ℤ top) ≡ taken_of c x y -ℤ top
taken_less true x y top = refl
taken_less false x y top = refl

pub block_chosen : (column : List ℤ) (top f s : ℤ) (k l : ℕ) (forced : Bool) (a b g : ℤ) (bit : Bool) →
    a +ℤ g ≡ metric_from column f s (8 * k + l) 0 -ℤ top → b -ℤ g ≡ metric_from column f s (8 * k + l) 1 -ℤ top →
    bit ≡ wants forced (a +ℤ g) (b -ℤ g) → bit ≡ choice_into forced column f s (8 * k + l)
unfolding choice_into
block_chosen column top f s k l forced a b g bit p q is = is ∙ rw (p, q) (wants_same forced _ _ top)

pub block_metric : (column : List ℤ) (top f s : ℤ) (k l : ℕ) (forced : Bool) (a b g m : ℤ) →
    a +ℤ g ≡ metric_from column f s (8 * k + l) 0 -ℤ top → b -ℤ g ≡ metric_from column f s (8 * k + l) 1 -ℤ top →
    m ≡ taken_of (wants forced (a +ℤ g) (b -ℤ g)) (a +ℤ g) (b -ℤ g) →
    m ≡ metric_into forced column f s (8 * k + l) -ℤ top
unfolding choice_into metric_into
block_metric column top f s k l forced a b g m p q is =
    is
    ∙ rw (p, q)
    (rw (wants_same forced (metric_from column f s (8 * k + l) 0) (metric_from column f s (8 * k + l) 1)
    top)
    (taken_less (wants forced (metric_from column f s (8 * k + l) 0) (metric_from column f s (8 * k + l) 1)) _ _ top))

-- LANES THAT ARE HANDED ON
pub lane_gain : (gains g : List ℤ) (f s : ℤ) (k : ℕ) → k < 32 →
    ((j : ℕ) → j < 32 → get_or gains j (pos 0) ≡ gain_by f s (get_or lane_codes j 0)) →
    ((l : ℕ) → l < 8 → get_or g l (pos 0) ≡ get_or gains (8 * get_or patterns k 0 + l) (pos 0)) → (l : ℕ) → l < 8 →
    get_or g l (pos 0) ≡ gain_by f s (get_or lane_codes (8 * get_or patterns k 0 + l) 0)
lane_gain gains g f s k p made read l b = let few = pattern_small k p in read l b
    ∙ made (8 * get_or patterns k 0 + l) (omega (arith, few, b))

pub gain_fits : (f s : ℤ) (c : ℕ) → unsigned_abs f + unsigned_abs s ≤ 2 ^ 62 → FitsSigned w64 (gain_by f s c)
gain_fits f s c pair = fits_signed_from_abs w64 _ (let size = gain_size f s c in omega (arith, pair, size))

-- A block's metrics and gains fit into their lanes, and so do their sums and differences: each
-- metric is near the top, which is taken off it, and a gain is no greater than both soft values
-- together.
pub lanes_fit : (column a g : List ℤ) (top f s : ℤ) (k at : ℕ) → at + 15 ≤ 256 →
    CanStep column top f s → AreEveryOther (λ x. x -ℤ top) column at a → length g ≡ 8 →
    ((l : ℕ) → l < 8 →
    get_or g l (pos 0) ≡ gain_by f s (get_or lane_codes (8 * get_or patterns k 0 + l) 0)) →
    (passed a ≡ a) × ((passed g ≡ g) × (Each2 (λ x y. Fit x y (x +ℤ y)) a g × Each2 (λ x y. Fit x y (x -ℤ y)) a g))
lanes_fit column a g top f s k at room can h n gains = (
  passed_is a (λ l b. a_fits l (omega (arith, b, h.long))),
  (
    passed_is g (λ l b. g_fits l (omega (arith, b, n))),
    (
      each2_from (λ x y. x +ℤ y) a g 8 h.long n (λ l b. (a_fits l b, (g_fits l b, (both l b).0))),
      each2_from (λ x y. x -ℤ y) a g 8 h.long n (λ l b. (a_fits l b, (g_fits l b, (both l b).1))),
    ),
  ),
) where
  a_fits : (l : ℕ) → l < 8 → FitsSigned w64 (get_or a l (pos 0))
  a_fits l b =
      rw (h.each l b)
      (less_fits (get_or column (at + 2 * l) (pos 0)) top _ (can.most (at + 2 * l) (omega (arith, b, room)))
      (can.near (at + 2 * l) (omega (arith, b, room))))

  g_fits : (l : ℕ) → l < 8 → FitsSigned w64 (get_or g l (pos 0))
  g_fits l b = rw (gains l b) (gain_fits f s (get_or lane_codes (8 * get_or patterns k 0 + l) 0) can.pair)

  both : (l : ℕ) → l < 8 → FitsSigned w64 (get_or a l (pos 0) +ℤ get_or g l (pos 0))
      × FitsSigned w64 (get_or a l (pos 0) -ℤ get_or g l (pos 0))
  both l b =
      rw (h.each l b, gains l b)
      (moved_fits (get_or column (at + 2 * l) (pos 0)) top _ _ (can.most (at + 2 * l) (omega (arith, b, room)))
      (can.near (at + 2 * l) (omega (arith, b, room)))
      (gain_size f s (get_or lane_codes (8 * get_or patterns k 0 + l) 0)) can.pair)

-- what is known of the lanes of one block
pub record BlockLanes (column : List ℤ) (top f s : ℤ) (k : ℕ) (a o g : List ℤ) : Type 0 where
  pub even_kept : passed a ≡ a
  pub odd_kept : passed o ≡ o
  pub gain_kept : passed g ≡ g
  pub even_fit : Each2 (λ x y. Fit x y (x +ℤ y)) a g
  pub odd_fit : Each2 (λ x y. Fit x y (x -ℤ y)) o g
  pub even_is : (l : ℕ) → l < 8 → get_or a l (pos 0) +ℤ get_or g l (pos 0) ≡ metric_from column f s (8 * k + l) 0 -ℤ top
  pub odd_is : (l : ℕ) → l < 8 → get_or o l (pos 0) -ℤ get_or g l (pos 0) ≡ metric_from column f s (8 * k + l) 1 -ℤ top

-- The lanes of a block hold what the step of its eight states needs: the metrics of the even and of
-- the odd states, and gains of the block's pattern, all of which fit into 64 bits, so sums and
-- differences are the definition's metrics, less the top.
pub block_lanes : (column gains a o g : List ℤ) (top f s : ℤ) (k : ℕ) → k < 32 →
    FitsSigned w64 top → CanStep column top f s → length g ≡ 8 →
    ((j : ℕ) → j < 32 → get_or gains j (pos 0) ≡ gain_by f s (get_or lane_codes j 0)) →
    AreEveryOther (λ x. x -ℤ to_z w64 (of_z w64 top)) column (16 * (k % 16)) a →
    AreEveryOther (λ x. x -ℤ to_z w64 (of_z w64 top)) column (16 * (k % 16) + 1) o →
    ((l : ℕ) → l < 8 → get_or g l (pos 0) ≡ get_or gains (8 * get_or patterns k 0 + l) (pos 0)) →
    BlockLanes column top f s k a o g
block_lanes column gains a o g top f s k few fits can long made evens odds lanes =
    let evens_are : AreEveryOther (λ x. x -ℤ top) column (16 * (k % 16)) a = rw (to_z-of_z w64 top fits) at evens in
    let odds_are : AreEveryOther (λ x. x -ℤ top) column (16 * (k % 16) + 1) o = rw (to_z-of_z w64 top fits) at odds in
    let gain = lane_gain gains g f s k few made lanes in
    let even = lanes_fit column a g top f s k (16 * (k % 16)) (omega arith) can evens_are long gain
    in
    let odd = lanes_fit column o g top f s k (16 * (k % 16) + 1) (omega arith) can odds_are long
    gain in
    record {
      even_kept = even.0;
      odd_kept = odd.0;
      gain_kept = even.1.0;
      even_fit = even.1.1.0;
      odd_fit = odd.1.1.1;
      even_is = λ l b. from_even column top f s k l _ _ few b (evens_are.each l b) (gain l b);
      odd_is = λ l b. from_odd column top f s k l _ _ few b (odds_are.each l b) (gain l b);
    }

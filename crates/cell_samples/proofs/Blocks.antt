-- The sums of channels over the 64 chips of a block, which the rows' transform gives.
use Rattle.cell_samples.proofs.Common.{◌≡◌, ℕ, zero, suc, ◌+◌, ◌*◌, ◌%◌, ◌^◌, ◌<◌, ◌≤◌, List, [], ◌∷◌, length, get_or, map, drop, replicate}
use Rattle.cell_samples.proofs.Common.{refl, sym, ap, ◌∙◌, arith, ℤ, pos, ◌+ℤ◌, ◌*ℤ◌, unsigned_abs, Bool, true, false, cond, ints, abs_sum}
use Rattle.cell_samples.proofs.Common.{All-get_or, All-set, All-replicate, get_or-map, sign, common_parity, xor, binary, origin, plus, Pair}
use Rattle.cell_samples.proofs.Common.{plus_assoc, plus-origin, origin-plus, walsh, walsh_sum_from, in_phase, quadrature, IsWithin, read64}
use Rattle.cell_samples.proofs.Common.{transform, get_or-transform, scaled_none, scaled_sum, times_moved, product_most, Carrier, amplitude}
use Rattle.cell_samples.proofs.Common.{amplitudes, level, scaled, FitsSigned, fits_signed_from_abs, to_z, of_z, w64}
use Rattle.std.proofs.Math.ListN.{set}
use Rattle.std.specs.List.{All}
use Rattle.std.proofs.lemmas.List as lists
use Rattle.chip_core.proofs.Ring as ring

-- ---- a row's chip is that of the other row

both_commute : (a b : Bool) → cond a b false ≡ cond b a false
both_commute true true = refl
both_commute true false = refl
both_commute false true = refl
both_commute false false = refl

parity_commute : (xs ys : List Bool) → common_parity xs ys ≡ common_parity ys xs
parity_commute [] [] = refl
parity_commute [] (y ∷ ys) = refl
parity_commute (x ∷ xs) [] = refl
parity_commute (x ∷ xs) (y ∷ ys) =
    ap (λ (b : Bool). xor b (common_parity xs ys)) (both_commute x y)
    ∙ ap (λ (p : Bool). xor (cond y x false) p) (parity_commute xs ys)

pub walsh_commute : (n k : ℕ) → walsh n k ≡ walsh k n
unfolding walsh
walsh_commute n k = parity_commute (binary 6 n) (binary 6 k)

-- ---- a row's sum where one entry grows

moved : (s x d t : ℤ) → (s *ℤ (x +ℤ d)) +ℤ t ≡ ((s *ℤ x) +ℤ t) +ℤ (s *ℤ d)
moved s x d t = rw (ring.distrib s x d) (omega (arith, ints))

further : (s x t u : ℤ) → (s *ℤ x) +ℤ (t +ℤ u) ≡ ((s *ℤ x) +ℤ t) +ℤ u
further s x t u = omega (arith, ints)

pub grown : (n j r : ℕ) (xs : List ℤ) (d : ℤ) → r < length xs → walsh_sum_from n j (set xs r (get_or xs r (pos 0) +ℤ d))
    ≡ walsh_sum_from n j xs +ℤ (sign (walsh n (j + r)) *ℤ d)
grown n j r [] d inside = absurd (omega (arith, inside))
grown n j zero (x ∷ xs) d inside =
    let here : j + 0 ≡ j = omega arith in
    rw here (moved (sign (walsh n j)) x d (walsh_sum_from n (suc j) xs))
grown n j (suc r) (x ∷ xs) d inside =
    let there : j + suc r ≡ suc j + r = omega arith in
    ap (λ (t : ℤ). (sign (walsh n j) *ℤ x) +ℤ t) (grown n (suc j) r xs d (omega (arith, inside)))
    ∙ further (sign (walsh n j)) x (walsh_sum_from n (suc j) xs) _
    ∙ ap (λ (m : ℕ). ((sign (walsh n j) *ℤ x) +ℤ walsh_sum_from n (suc j) xs) +ℤ (sign (walsh n m) *ℤ d)) (sym there)

zeros : (part : Pair → ℤ) (n j count : ℕ) → part origin ≡ pos 0 →
    walsh_sum_from n j (map part (replicate count origin)) ≡ pos 0
zeros part n j zero none = refl
zeros part n j (suc count) none = rw (none, zeros part n (suc j) count none) (omega (arith, ints))

-- ---- both branches

-- the sum of entries, each with the sign of a row's chip
abbrev pub row_total : ℕ → List Pair → Pair
row_total n values = record { i = walsh_sum_from n 0 (in_phase values); q = walsh_sum_from n 0 (quadrature values) }

branch_grown : (part : Pair → ℤ) (n r : ℕ) (values : List Pair) (new : Pair) (d : ℤ) → part origin ≡ pos 0 →
    part new ≡ part (get_or values r origin) +ℤ d → r < length values → walsh_sum_from n 0 (map part (set values r new))
    ≡ walsh_sum_from n 0 (map part values) +ℤ (sign (walsh n r) *ℤ d)
branch_grown part n r values new d none is inside =
    let old : get_or (map part values) r (pos 0) ≡ part (get_or values r origin) =
    ap (get_or (map part values) r) (sym none) ∙ get_or-map part values r origin in
    let start : 0 + r ≡ r = omega arith in
    ap (walsh_sum_from n 0)
    (lists.map-set part values r new
    ∙ ap (set (map part values) r) (is ∙ ap (λ (x : ℤ). x +ℤ d) (sym old)))
    ∙ grown n 0 r (map part values) d (omega (arith, inside, lists.length-map values part))
    ∙ ap (λ (m : ℕ). walsh_sum_from n 0 (map part values) +ℤ (sign (walsh n m) *ℤ d)) start

-- one channel's level more at its row
level_added : (n row : ℕ) (values : List Pair) (new factor : Pair) (l : ℤ) → row < length values →
    new ≡ plus (get_or values row origin) (scaled l factor) → row_total n (set values row new)
    ≡ plus (row_total n values) (scaled (l *ℤ sign (walsh row n)) factor)
level_added n row values new factor l inside is =
    let i = branch_grown (λ (v : Pair). v.i) n row values new (l *ℤ factor.i) refl (ap (λ (v : Pair). v.i) is) inside in
    let q = branch_grown (λ (v : Pair). v.q) n row values new (l *ℤ factor.q) refl (ap (λ (v : Pair). v.q) is) inside in
    let s = sign (walsh n row) in
    rw (i, q, times_moved s l factor.i, times_moved s l factor.q, walsh_commute n row) refl

-- ---- channel by channel

same_parts : (x y : Pair) → x.i ≡ y.i → x.q ≡ y.q → x ≡ y
same_parts x y i q = ap (λ (a : ℤ). record x { i = a }) i ∙ ap (λ (b : ℤ). record y { q = b }) q

-- What the entries hold of the channels, and what those add that are left, are what all of them
-- send.
abbrev pub IsSummed : ℕ → Pair → List Carrier → ℕ → List Pair → Type 0
IsSummed chip factor cs done values = (k : ℕ) → k < 64 →
    plus (row_total k values) (scaled (amplitudes (chip + k) (drop done cs)) factor)
    ≡ scaled (amplitudes (chip + k) cs) factor

pub nothing_summed : (chip : ℕ) (factor : Pair) (cs : List Carrier) → IsSummed chip factor cs 0 (replicate 64 origin)
nothing_summed chip factor cs k below =
    let i : walsh_sum_from k 0 (in_phase (replicate 64 origin)) ≡ pos 0 = zeros (λ (v : Pair). v.i) k 0 64 refl in
    let q : walsh_sum_from k 0 (quadrature (replicate 64 origin)) ≡ pos 0 = zeros (λ (v : Pair). v.q) k 0 64 refl in
    ap (λ (t : Pair). plus t (scaled (amplitudes (chip + k) cs) factor))
    (same_parts (row_total k (replicate 64 origin)) origin i q)
    ∙ origin-plus (scaled (amplitudes (chip + k) cs) factor)

-- One channel more is in the sums: its level, added to the entry at its Walsh row, adds its
-- amplitude to each of the block's 64 chips, so what the entries hold and what is left together
-- stay the amplitude of all channels.
pub one_summed : (chip done row : ℕ) (factor : Pair) (cs : List Carrier) (c : Carrier)
    (values : List Pair) (new : Pair) (l : ℤ) (none : Carrier) →
    chip % 64 ≡ 0 → done < length cs → get_or cs done none ≡ c → row ≡ c.row → row < length values →
    ((k : ℕ) → k < 64 → level (chip + k) c ≡ l) → new ≡ plus (get_or values row origin) (scaled l factor) →
    IsSummed chip factor cs done values → IsSummed chip factor cs (done + 1) (set values row new)
one_summed chip done row factor cs c values new l none whole inside is row_is room level_is new_is
    before k below =
    let place : (chip + k) % 64 ≡ k = omega (arith, whole, below) in
    let own : l *ℤ sign (walsh row k) ≡ amplitude (chip + k) c =
    ap (λ (x : ℤ). x *ℤ sign (walsh row k)) (sym (level_is k below))
    ∙ ap (λ (r : ℕ). level (chip + k) c *ℤ sign (walsh r k)) row_is
    ∙ ap (λ (n : ℕ). level (chip + k) c *ℤ sign (walsh c.row n)) (sym place) in
    let rest = amplitudes (chip + k) (drop (done + 1) cs) in
    ap (λ (t : Pair). plus t (scaled rest factor)) (level_added k row values new factor l room new_is)
    ∙ plus_assoc (row_total k values) (scaled (l *ℤ sign (walsh row k)) factor) (scaled rest factor)
    ∙ ap (plus (row_total k values)) (scaled_sum (l *ℤ sign (walsh row k)) rest factor)
    ∙ ap (λ (a : ℤ). plus (row_total k values) (scaled (a +ℤ rest) factor)) own
    ∙ ap (λ (x : Carrier).
    plus (row_total k values) (scaled (amplitudes (chip + k) (x ∷ drop (done + 1) cs)) factor))
    (sym is)
    ∙ sym (lists.at_drop_more
    (λ (xs : List Carrier). plus (row_total k values) (scaled (amplitudes (chip + k) xs) factor)) cs
    done none inside)
    ∙ before k below

-- Where no channel is left, the transform of the entries is what all channels send at the block's
-- 64 chips: it is made of the entries' Walsh sums, and what is left adds nothing to them.
pub all_summed : (chip done : ℕ) (factor : Pair) (cs : List Carrier) (values sums : List Pair) → length cs ≤ done →
    IsSummed chip factor cs done values → in_phase sums ≡ transform (in_phase values) →
    quadrature sums ≡ transform (quadrature values) →
    (k : ℕ) → k < 64 → get_or sums k origin ≡ scaled (amplitudes (chip + k) cs) factor
all_summed chip done factor cs values sums past before i_is q_is k below =
    let i : (get_or sums k origin).i ≡ walsh_sum_from k 0 (in_phase values) =
    sym (get_or-map (λ (v : Pair). v.i) sums k origin)
    ∙ ap (λ (xs : List ℤ). get_or xs k (pos 0)) i_is ∙ get_or-transform (in_phase values) k below in
    let q : (get_or sums k origin).q ≡ walsh_sum_from k 0 (quadrature values) =
    sym (get_or-map (λ (v : Pair). v.q) sums k origin)
    ∙ ap (λ (xs : List ℤ). get_or xs k (pos 0)) q_is
    ∙ get_or-transform (quadrature values) k below in
    let total = row_total k values in
    let none : scaled (pos 0) factor ≡ origin = scaled_none factor in
    same_parts (get_or sums k origin) total i q
    ∙ sym (plus-origin total)
    ∙ ap (plus total) (sym none)
    ∙ sym (lists.at_drop_all
    (λ (xs : List Carrier). plus total (scaled (amplitudes (chip + k) xs) factor)) cs done past)
    ∙ before k below

-- ---- a level times a part of the link's factor, and its sum with an entry, fit into 64 bits

pub level_part_fits : (l f : ℤ) → unsigned_abs l ≤ 65535 → unsigned_abs f ≤ 32768 →
    FitsSigned w64 (to_z w64 (of_z w64 l) *ℤ to_z w64 (of_z w64 f))
level_part_fits l f small low =
    rw (read64 l (omega (arith, small)), read64 f (omega (arith, low)))
    (fits_signed_from_abs w64 (l *ℤ f) (omega (arith, product_most l f small low)))

pub level_sum_fits : (s l f : ℤ) → unsigned_abs s ≤ 2 ^ 39 → unsigned_abs l ≤ 65535 → unsigned_abs f ≤ 32768 →
    FitsSigned w64 (to_z w64 (of_z w64 s) +ℤ to_z w64 (of_z w64 (to_z w64 (of_z w64 l) *ℤ to_z w64 (of_z w64 f))))
level_sum_fits s l f sum small low =
    let product = product_most l f small low in
    rw (
      read64 s (omega (arith, sum)),
      read64 l (omega (arith, small)),
      read64 f (omega (arith, low)),
      read64 (l *ℤ f) (omega (arith, product)),
    )
    (fits_signed_from_abs w64 (s +ℤ (l *ℤ f)) (omega (arith, sum, product, abs_sum s (l *ℤ f))))

-- ---- the size of the entries

widened : (a b : ℕ) (xs : List Pair) → a ≤ b → All (IsWithin a) xs → All (IsWithin b) xs
widened a b xs h all = λ k d inside.
    let here = all k d inside in
    (omega (arith, h, here.0), omega (arith, h, here.1))

-- One channel more makes an entry greater by at most 2^31 in each branch, since its level is at
-- most 2^16 - 1 and each part of the link's factor at most 2^15 in size; all other entries stay.
pub grows : (done row : ℕ) (values : List Pair) (new factor : Pair) (l : ℤ) → row < length values →
    unsigned_abs l ≤ 65535 → IsWithin 32768 factor → new ≡ plus (get_or values row origin) (scaled l factor) →
    All (IsWithin (2 ^ 31 * done)) values → All (IsWithin (2 ^ 31 * (done + 1))) (set values row new)
grows done row values new factor l inside small low is before =
    let old = All-get_or (IsWithin (2 ^ 31 * done)) values row origin inside before in
    let i : new.i ≡ (get_or values row origin).i +ℤ (l *ℤ factor.i) = ap (λ (v : Pair). v.i) is in
    let q : new.q ≡ (get_or values row origin).q +ℤ (l *ℤ factor.q) = ap (λ (v : Pair). v.q) is in
    let more : 2 ^ 31 * done + 2 ^ 31 ≡ 2 ^ 31 * (done + 1) = omega arith in
    let i_most : unsigned_abs new.i ≤ 2 ^ 31 * (done + 1) =
    rw (i, sym more)
    (omega (arith, abs_sum (get_or values row origin).i (l *ℤ factor.i), old.0, product_most l factor.i small low.0)) in
    let q_most : unsigned_abs new.q ≤ 2 ^ 31 * (done + 1) =
    rw (q, sym more)
    (omega (arith, abs_sum (get_or values row origin).q (l *ℤ factor.q), old.1, product_most l factor.q small low.1)) in
    All-set (IsWithin (2 ^ 31 * (done + 1))) values row new (i_most, q_most)
    (widened (2 ^ 31 * done) (2 ^ 31 * (done + 1)) values (omega arith) before)

pub none_within : All (IsWithin (2 ^ 31 * 0)) (replicate 64 origin)
none_within = All-replicate (IsWithin (2 ^ 31 * 0)) 64 origin (omega arith, omega arith)

pub all_within : (done : ℕ) (values : List Pair) → done ≤ 128 →
    All (IsWithin (2 ^ 31 * done)) values → All (IsWithin (2 ^ 40)) values
all_within done values few = widened (2 ^ 31 * done) (2 ^ 40) values (omega (arith, few))

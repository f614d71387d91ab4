-- What a Walsh row finds of channels that are sent together.
use Rattle.clean_signal.proofs.Common.{div-div-eq-div-mul, mod-eq-sub-mul-div, if◌then◌else◌, mul_assoc_ℤ, div-mul-add, mod-mul-add, ⊎_elim}
use Rattle.clean_signal.proofs.Common.{HaveOwnRows, sum_append, diff-times, orthogonal, amplitudes, All-get_or, sum_below, diff-same, false}
use Rattle.clean_signal.proofs.Common.{amplitude, symbol_at, IsAligned, row_level, cases_lt, All-head, All-tail, sum_same, sum_none, lt-ltb}
use Rattle.clean_signal.proofs.Common.{level_of, level_at, Contains, distrib, row_sum, Carrier, le-ltb, length, get_or, +ℤ_idl, +ℤ_idr, ◌≡◌}
use Rattle.clean_signal.proofs.Common.{ne_eqb, eq-eqb, arith, split, walsh, level, subst, zero, Bool, true, List, refl, ◌+ℤ◌, ◌*ℤ◌, ◌==◌, ℕ}
use Rattle.clean_signal.proofs.Common.{ints, sign, Some, suc, ◌+◌, ◌-◌, ◌*◌, ◌/◌, ◌%◌, ◌<◌, ◌≤◌, ◌∷◌, All, sym, ◌∙◌, pos, ◌≢◌, [], ap, ℤ}

-- ---- sums by index

pub sum_plus : (n : ℕ) (f g : ℕ → ℤ) → sum_below n (λ k. f k +ℤ g k) ≡ sum_below n f +ℤ sum_below n g
unfolding sum_below
sum_plus zero f g = refl
sum_plus (suc n) f g =
    let e = sum_plus n f g in
    rw e (omega (arith, ints))

sum_scaled : (n : ℕ) (a : ℤ) (f : ℕ → ℤ) → sum_below n (λ k. a *ℤ f k) ≡ a *ℤ sum_below n f
unfolding sum_below
sum_scaled zero a f = omega (arith, ints)
sum_scaled (suc n) a f =
    let e = sum_scaled n a f in
    rw e (sym (distrib a (sum_below n f) (f n)))

sum_constant : (n : ℕ) (c : ℤ) → sum_below n (λ k. c) ≡ pos n *ℤ c
unfolding sum_below
sum_constant zero c = omega (arith, ints)
sum_constant (suc n) c =
    let e = sum_constant n c in
    rw e (omega (arith, ints))

sum_blocks : (size m : ℕ) (f : ℕ → ℤ) →
    sum_below (size * m) f ≡ sum_below m (λ b. sum_below size (λ k. f (size * b + k)))
unfolding sum_below
sum_blocks size zero f = let e : size * 0 ≡ 0 = omega arith in rw e
sum_blocks size (suc m) f =
    let place : size * suc m ≡ size * m + size = omega arith in
    rw place (sum_append (size * m) size f ∙
    ap (λ (z : ℤ). z +ℤ sum_below size (λ k. f (size * m + k))) (sum_blocks size m f))

-- ---- a channel has one level over a block of 64 chips

-- numbers of one block lie in one frame, and in one symbol of it
frame_same : (n m f : ℕ) → n / 64 ≡ m / 64 → n / (64 * f) ≡ m / (64 * f)
frame_same n m f e = sym (div-div-eq-div-mul n 64 f) ∙ ap (λ (k : ℕ). k / f) e ∙ div-div-eq-div-mul m 64 f

block_within : (n f : ℕ) → n % (64 * f) / 64 ≡ n / 64 - f * (n / (64 * f))
block_within n f =
    let e : n % (64 * f) ≡ n - 64 * f * (n / (64 * f)) = mod-eq-sub-mul-div n (64 * f) in
    rw e (omega arith)

symbol_same : (n m f s : ℕ) → n / 64 ≡ m / 64 → n % (64 * f) / (64 * s) ≡ m % (64 * f) / (64 * s)
symbol_same n m f s e =
    sym (div-div-eq-div-mul (n % (64 * f)) 64 s)
    ∙ ap (λ (k : ℕ). k / s) (block_within n f ∙ rw (e, frame_same n m f e) (sym (block_within m f)))
    ∙ div-div-eq-div-mul (m % (64 * f)) 64 s

-- A channel sends one symbol over each block of 64 chips, where its first chip, its frames and its
-- symbols are made of whole blocks: either the block lies before the channel's first chip, or all
-- of its chips lie in one frame and in one symbol of it.
symbol_stays : (a f s b k : ℕ) (symbols : ℕ → List Bool) → k < 64 →
    symbol_at (64 * a) (64 * f) (64 * s) symbols (64 * b + k) ≡ symbol_at (64 * a) (64 * f) (64 * s) symbols (64 * b)
symbol_stays a f s b k symbols below = ⊎_elim
    (λ (before : 64 * b + k < 64 * a).
    let e = lt-ltb (64 * b + k) (64 * a) before in
    let g = lt-ltb (64 * b) (64 * a) (omega (arith, before)) in
    rw (e, g) refl)
    (λ (following : 64 * a ≤ 64 * b + k).
    let e = le-ltb (64 * b + k) (64 * a) following in
    let g = le-ltb (64 * b) (64 * a) (omega (arith, following, below)) in
    let same : (64 * b + k - 64 * a) / 64 ≡ (64 * b - 64 * a) / 64 = omega (arith, following, below) in
    let x = frame_same (64 * b + k - 64 * a) (64 * b - 64 * a) f same in
    let y = symbol_same (64 * b + k - 64 * a) (64 * b - 64 * a) f s same in
    rw (e, g, x, y) refl)
    (cases_lt (64 * b + k) (64 * a))

symbol_stays_from : (first frame_chips symbol_chips a f s b k : ℕ) (symbols : ℕ → List Bool) →
    first ≡ 64 * a → frame_chips ≡ 64 * f → symbol_chips ≡ 64 * s → k < 64 →
    symbol_at first frame_chips symbol_chips symbols (64 * b + k) ≡
    symbol_at first frame_chips symbol_chips symbols (64 * b)
symbol_stays_from first frame_chips symbol_chips a f s b k symbols p q r below =
    rw (p, q, r) (symbol_stays a f s b k symbols below)

level_stays : (c : Carrier) (b k : ℕ) → IsAligned c → k < 64 → level (64 * b + k) c ≡ level (64 * b) c
level_stays c b k is below =
    ap (level_of c.gain)
    (symbol_stays_from c.first c.form.frame_chips c.form.symbol_chips (c.first / 64)
    (c.form.frame_chips / 64) (c.form.symbol_chips / 64) b k c.symbols (omega (arith, is.first))
    (omega (arith, is.frame)) (omega (arith, is.symbol)) below)

-- ---- a block of 64 chips

abbrev product : ℕ → ℕ → ℕ → ℤ
product m n k = sign (walsh m k) *ℤ sign (walsh n k)

row_sum-is : (m n : ℕ) → sum_below 64 (product m n) ≡ row_sum m n
unfolding row_sum
row_sum-is m n = refl

times_swap : (s l w : ℤ) → s *ℤ (l *ℤ w) ≡ l *ℤ (s *ℤ w)
times_swap s l w = rw (split s, split l, split w) (simp diff-times (diff-same _ _ _ _ (omega arith)))

in_row : (b k : ℕ) → k < 64 → (64 * b + k) % 64 ≡ k
in_row b k h = omega arith

term_is : (row b k : ℕ) (c : Carrier) → IsAligned c → k < 64 →
    sign (walsh row k) *ℤ amplitude (64 * b + k) c ≡ level (64 * b) c *ℤ product row c.row k
term_is row b k c is below =
    ap (λ (z : ℤ). sign (walsh row k) *ℤ (z *ℤ sign (walsh c.row ((64 * b + k) % 64)))) (level_stays c b k is below)
    ∙ ap (λ (n : ℕ). sign (walsh row k) *ℤ (level (64 * b) c *ℤ sign (walsh c.row n))) (in_row b k below)
    ∙ times_swap (sign (walsh row k)) (level (64 * b) c) (sign (walsh c.row k))

picked : (t : Bool) (l : ℤ) → l *ℤ (if t then pos 64 else pos 0) ≡ pos 64 *ℤ (if t then l else pos 0)
picked true l = omega (arith, ints)
picked false l = omega (arith, ints)

channel_block : (row b : ℕ) (c : Carrier) → row < 64 → IsAligned c →
    sum_below 64 (λ k. sign (walsh row k) *ℤ amplitude (64 * b + k) c) ≡ pos 64 *ℤ row_level row (64 * b) c
channel_block row b c low is =
    sum_same 64 _ _ (λ k below. term_is row b k c is below)
    ∙ sum_scaled 64 (level (64 * b) c) (product row c.row)
    ∙ ap (λ (z : ℤ). level (64 * b) c *ℤ z) (row_sum-is row c.row ∙ orthogonal row c.row low is.row)
    ∙ picked (row == c.row) (level (64 * b) c)

-- a row finds the channels that have it
pub block : (row b : ℕ) (cs : List Carrier) → row < 64 → All IsAligned cs →
    sum_below 64 (λ k. sign (walsh row k) *ℤ amplitudes (64 * b + k) cs) ≡ pos 64 *ℤ level_at row cs (64 * b)
block row b [] low are = sum_none 64 (λ k. sign (walsh row k) *ℤ pos 0) (λ k lt. omega (arith, ints))
block row b (c ∷ cs) low are =
    sum_same 64 _ _ (λ k lt. distrib (sign (walsh row k)) (amplitude (64 * b + k) c) (amplitudes (64 * b + k) cs))
    ∙ sum_plus 64 (λ k. sign (walsh row k) *ℤ amplitude (64 * b + k) c)
    (λ k. sign (walsh row k) *ℤ amplitudes (64 * b + k) cs)
    ∙ ap (λ (z : ℤ). z +ℤ sum_below 64 (λ k. sign (walsh row k) *ℤ amplitudes (64 * b + k) cs))
    (channel_block row b c low (All-head IsAligned c cs are))
    ∙ ap (λ (z : ℤ). (pos 64 *ℤ row_level row (64 * b) c) +ℤ z) (block row b cs low (All-tail IsAligned c cs are))
    ∙ sym (distrib (pos 64) (row_level row (64 * b) c) (level_at row cs (64 * b)))

-- ---- blocks one after the other, in each of which a row finds the same

blocks_sum : (row m : ℕ) (f : ℕ → ℤ) (c : ℤ) →
    ((j : ℕ) → j < m → sum_below 64 (λ k. sign (walsh row k) *ℤ f (64 * j + k)) ≡ pos 64 *ℤ c) →
    sum_below (64 * m) (λ k. sign (walsh row (k % 64)) *ℤ f k) ≡ pos (64 * m) *ℤ c
blocks_sum row m f c each =
    sum_blocks 64 m (λ k. sign (walsh row (k % 64)) *ℤ f k)
    ∙ sum_same m _ (λ j. pos 64 *ℤ c) (λ j lt. sum_same 64 _ _ (λ k below. rw (in_row j k below) refl) ∙ each j lt)
    ∙ sum_constant m (pos 64 *ℤ c)
    ∙ sym (mul_assoc_ℤ (pos m) (pos 64) c)
    ∙ ap (λ (n : ℕ). pos n *ℤ c) (omega arith)

in_blocks : (b j k : ℕ) → 64 * b + (64 * j + k) ≡ 64 * (b + j) + k
in_blocks b j k = omega arith

-- m blocks from block b on
pub chips_sum : (row b m : ℕ) (cs : List Carrier) (l : ℤ) → row < 64 → All IsAligned cs →
    ((j : ℕ) → j < m → level_at row cs (64 * (b + j)) ≡ l) →
    sum_below (64 * m) (λ k. sign (walsh row (k % 64)) *ℤ amplitudes (64 * b + k) cs) ≡ pos (64 * m) *ℤ l
chips_sum row b m cs l low are each =
    blocks_sum row m (λ k. amplitudes (64 * b + k) cs) l
    (λ j lt.
    sum_same 64 _ _ (λ k below. ap (λ (n : ℕ). sign (walsh row k) *ℤ amplitudes n cs) (in_blocks b j k))
    ∙ block row (b + j) cs low are
    ∙ ap (λ (z : ℤ). pos 64 *ℤ z) (each j lt))

-- ---- a channel

-- The symbol at a chip is found by two divisions: counted from the channel's first chip, the chips
-- of a frame divide the chip's number into its frame and a remainder, and the chips of a symbol
-- divide that remainder into its symbol and the chip in it.
symbol_at-is : (first frame_chips symbol_chips frame j r chip : ℕ) (symbols : ℕ → List Bool) →
    chip ≡ first + (frame * frame_chips + (j * symbol_chips + r)) → r < symbol_chips →
    j * symbol_chips + r < frame_chips →
    symbol_at first frame_chips symbol_chips symbols chip ≡ Some (get_or (symbols frame) j false)
symbol_at-is first frame_chips symbol_chips frame j r chip symbols is low within =
    let past = le-ltb chip first (omega (arith, is)) in
    let rest : chip - first ≡ frame * frame_chips + (j * symbol_chips + r) = omega (arith, is) in
    let x = div-mul-add frame frame_chips (j * symbol_chips + r) within in
    let y = mod-mul-add frame frame_chips (j * symbol_chips + r) within in
    let z = div-mul-add j symbol_chips r low in
    rw (past, rest, x, y, z)

-- at chip r of symbol j of a frame it is the gain with the symbol's sign
pub level_in : (c : Carrier) (frame j r chip : ℕ) →
    chip ≡ c.first + (frame * c.form.frame_chips + (j * c.form.symbol_chips + r)) →
    r < c.form.symbol_chips → j * c.form.symbol_chips + r < c.form.frame_chips →
    level chip c ≡ pos c.gain *ℤ sign (get_or (c.symbols frame) j false)
level_in c frame j r chip is low within =
    ap (level_of c.gain)
    (symbol_at-is c.first c.form.frame_chips c.form.symbol_chips frame j r chip c.symbols is low
    within)

-- ---- a row

pub level_at-none : (row chip : ℕ) (cs : List Carrier) → All (λ (c : Carrier). c.row ≢ row) cs →
    level_at row cs chip ≡ pos 0
level_at-none row chip [] none = refl
level_at-none row chip (c ∷ cs) none =
    let other = ne_eqb row c.row (λ e. All-head (λ (d : Carrier). d.row ≢ row) c cs none (sym e)) in
    let rest = level_at-none row chip cs (All-tail (λ (d : Carrier). d.row ≢ row) c cs none) in
    rw (other, rest) refl

level_at-index : (chip : ℕ) (cs : List Carrier) (i : ℕ) (d : Carrier) → i < length cs →
    HaveOwnRows cs → level_at (get_or cs i d).row cs chip ≡ level chip (get_or cs i d)
level_at-index chip [] i d lt apart = absurd (omega (arith, lt))
level_at-index chip (c ∷ cs) zero d lt apart =
    let here = eq-eqb c.row c.row refl in
    ap (λ (z : ℤ). row_level c.row chip c +ℤ z) (level_at-none c.row chip cs apart.0)
    ∙ +ℤ_idr (row_level c.row chip c) ∙ rw here refl
level_at-index chip (c ∷ cs) (suc i) d lt apart =
    let within : i < length cs = omega (arith, lt) in
    let e = get_or cs i d in
    let other = ne_eqb e.row c.row (All-get_or (λ (x : Carrier). x.row ≢ c.row) cs i d within apart.0) in
    let gone : row_level e.row chip c ≡ pos 0 = rw other refl in
    ap (λ (z : ℤ). z +ℤ level_at e.row cs chip) gone
    ∙ +ℤ_idl (level_at e.row cs chip)
    ∙ level_at-index chip cs i d within apart.1

-- the row of a channel has just that channel's level
pub level_at-alone : (chip : ℕ) (cs : List Carrier) (c : Carrier) → HaveOwnRows cs → Contains cs c →
    level_at c.row cs chip ≡ level chip c
level_at-alone chip cs c apart has =
    subst (λ (d : Carrier). level_at d.row cs chip ≡ level chip d) has.2 (level_at-index chip cs has.0 c has.1 apart)

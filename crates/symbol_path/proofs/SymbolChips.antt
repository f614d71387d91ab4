-- The long code's chips at the first chips of symbols, and the places of the power control bits.
use Rattle.symbol_path.proofs.Common.{◌≡◌, ℕ, zero, suc, ◌+◌, ◌-◌, ◌*◌, ◌%◌, ◌^◌, ◌<◌, ◌≤◌, Bool, false, List, length, get_or, refl, sym}
use Rattle.symbol_path.proofs.Common.{ap, ◌∙◌, arith, zero-add, binary, common_parity, map-places-all, after, before, long_chip, period}
use Rattle.symbol_path.proofs.Common.{after-after, after_none, after-before, before_lt, before_is_later, binary-low, scrambling_chips}
use Rattle.symbol_path.proofs.Common.{group_scrambling, power_start, power_place}

-- a chip of a state that is the same from then on
pub long_chip-same : (s t mask m n : ℕ) → after s m ≡ after t n → long_chip s mask m ≡ long_chip t mask n
unfolding long_chip
long_chip-same s t mask m n e = ap (λ (v : ℕ). common_parity (binary 42 mask) (binary 42 v)) e

-- one symbol more
pub later_by_symbol : (s t k n : ℕ) → after t (64 + n) ≡ after s (64 * k + (64 + n)) →
    after (after t 64) n ≡ after s (64 * (k + 1) + n)
later_by_symbol s t k n e =
    let place : 64 * k + (64 + n) ≡ 64 * (k + 1) + n = omega arith in
    after-after t 64 n ∙ e ∙ ap (after s) place

pub symbol_chips_all : (state mask n : ℕ) (out : List Bool) → length out ≡ n →
    ((k : ℕ) → k < n → get_or out k false ≡ long_chip state mask (64 * k)) → out ≡ scrambling_chips state mask n
unfolding scrambling_chips
symbol_chips_all state mask n out long each = map-places-all (λ i. long_chip state mask (64 * i)) out n false long each

-- GROUPS: the state before a frame, where only the state's lowest 42 bits count

after-low : (s n : ℕ) → after (s % 2 ^ 42) n ≡ after s n
unfolding after
after-low s n = rw (binary-low 42 0 s) refl

before-low : (s n : ℕ) → before (s % 2 ^ 42) n ≡ before s n
unfolding before
before-low s n = rw (binary-low 42 0 s) refl

pub before_later : (s n : ℕ) → n ≤ period → before s n ≡ after s (period - n)
before_later s n h = sym (before-low s n) ∙ before_is_later (s % 2 ^ 42) n (omega arith) h ∙ after-low s (period - n)

-- back, and as far forth, and on
pub on_again : (s n m : ℕ) → after (before s n) (n + m) ≡ after s m
on_again s n m =
    sym (after-after (before s n) n m)
    ∙ ap (λ (v : ℕ). after (after v n) m) (sym (before-low s n))
    ∙ ap (λ (v : ℕ). after v m) (after-before (s % 2 ^ 42) n (omega arith))
    ∙ after-low s m

pub group_first : (s : ℕ) → before s 1536 ≡ after (before s 1536) 0
group_first s =
    let small : before s 1536 < 2 ^ 42 = rw (sym (before-low s 1536)) (before_lt (s % 2 ^ 42) 1536) in
    sym (after_none (before s 1536) small)

pub group_next : (s g : ℕ) → after (after (before s 1536) (1536 * g)) 1536 ≡ after (before s 1536) (1536 * (g + 1))
group_next s g =
    let place : 1536 * g + 1536 ≡ 1536 * (g + 1) = omega arith in
    after-after (before s 1536) (1536 * g) 1536 ∙ ap (after (before s 1536)) place

-- the place of a group's bit, by the state of the group before
pub power_place_is : (state mask g : ℕ) → power_place state mask g ≡
    24 * g + power_start (group_scrambling (after (before state 1536) (1536 * g)) mask)
power_place_is state mask zero =
    ap (λ (s : ℕ). power_start (group_scrambling s mask)) (group_first state) ∙ sym (zero-add _)
power_place_is state mask (suc g) =
    let place : 1536 + 1536 * g ≡ 1536 * suc g = omega arith in
    ap (λ (s : ℕ). 24 * suc g + power_start (group_scrambling s mask))
    (sym (on_again state 1536 (1536 * g)) ∙ ap (after (before state 1536)) place)

-- The monitored times of a key in a cycle.
use Rattle.std.proofs.Common.{◌≡◌, ◌<◌, ◌≤◌, ℕ, ◌+◌, ◌-◌, ◌*◌, ◌/◌, ◌%◌, ◌^◌, nat_eq, sym, ap, ◌∙◌, arith, inl, inr}
use Rattle.std.proofs.lemmas.Bool.{cases_lt, eqb-true, eq-eqb}
use Rattle.std.proofs.lemmas.Nat.{mod_below, pow_pos, pow-add}
use Rattle.std.proofs.Math.Nat.{div-add-mod, add-mod-mod, add-mul-mod_self_right, mod-eq_of_lt, mod-mod_of_dvd, dvd-mul_right, mul_assoc}
use Rattle.frame_decoder.proofs.Parts.{within}
use Rattle.slot_mode.specs.Slots.{slot_of, slot_period, next_monitored}
use Rattle.slot_mode.specs.Laws.{ComesAgain, ComesInTime, ComesOnce, IsAmongShorter}

-- a cycle has slots
has_slots : (cycle : ℕ) → 0 < slot_period cycle
has_slots cycle = let some = pow_pos cycle in omega (arith, some)

-- whole cycles later
pub comes_again : ComesAgain
comes_again time key cycle count =
    ap (λ (r : ℕ). nat_eq r (slot_of key % slot_period cycle)) (add-mul-mod_self_right time count (slot_period cycle))

-- from a time, whose remainder is a, up to the remainder r in the cycle after its own
to_remainder : (from p r a q : ℕ) → p * q + a ≡ from → a < p → from + (r + p - a) ≡ r + (q + 1) * p
to_remainder from p r a q parts low =
    let out : (q + 1) * p ≡ p * q + p = omega arith in
    omega (arith, parts, low, out)

-- the next time of a remainder has it
has_remainder : (from p r : ℕ) → 0 < p → r < p → (from + (r + p - from % p) % p) % p ≡ r
has_remainder from p r some below =
    add-mod-mod from (r + p - from % p) p
    ∙ ap (λ (n : ℕ). n % p) (to_remainder from p r (from % p) (from / p) (div-add-mod from p) (mod_below from p some))
    ∙ add-mul-mod_self_right r (from / p + 1) p
    ∙ mod-eq_of_lt below

-- and comes before as many times are over as the cycle has slots
comes_before : (from p d : ℕ) → d < p → from + d < from + p
comes_before from p d below = omega (arith, below)

-- The next monitored slot comes within one cycle, and is one: what is added to the time is what its
-- remainder lacks to the key's slot, which is less than the cycle's period.
pub comes_in_time : ComesInTime
comes_in_time from key cycle =
    let p = slot_period cycle in
    let r = slot_of key % p in
    let some = has_slots cycle in
    let low = mod_below (slot_of key) p some in
    let d = (r + p - from % p) % p in
    let following : from ≤ from + d = omega arith in (
      following,
      comes_before from p d (mod_below (r + p - from % p) p some),
      eq-eqb ((from + d) % p) r (has_remainder from p r some low),
    )

-- of two numbers of one remainder that are less than p apart the first has no greater quotient
no_greater : (p a b r : ℕ) → p * a + r < p * b + r + p → a ≤ b
no_greater p a b r near =
    elim (cases_lt b a) [
      | inl more ↦ let room = within p a b more in absurd (omega (arith, room, near))
      | inr few ↦ few
    ]

-- and two that are less than p apart either way are one
same_quotients : (p a b r s : ℕ) → r ≡ s → p * a + r < p * b + s + p → p * b + s < p * a + r + p → a ≡ b
same_quotients p a b r s same near close =
    let few = no_greater p a b r (omega (arith, near, same)) in
    let more = no_greater p b a r (omega (arith, close, same)) in
    omega (arith, few, more)

-- of p times in a row two of one remainder are one
same_in_row : (from p x y : ℕ) → from ≤ x → x < from + p → from ≤ y → y < from + p → x % p ≡ y % p → x ≡ y
same_in_row from p x y first last first' last' same =
    let whole = div-add-mod x p in
    let whole' = div-add-mod y p in
    let quotients : x / p ≡ y / p =
    same_quotients p (x / p) (y / p) (x % p) (y % p) same (omega (arith, whole, whole', last, first'))
    (omega (arith, whole, whole', last', first)) in
    sym whole ∙ ap (λ (q : ℕ). p * q + x % p) quotients
    ∙ ap (λ (r : ℕ). p * (y / p) + r) same ∙ whole'

pub comes_once : ComesOnce
comes_once from key cycle time first last is =
    let p = slot_period cycle in
    let next = comes_in_time from key cycle in
    same_in_row from p time (next_monitored from key cycle) first last next.0 next.1
    (eqb-true (time % p) (slot_of key % p) is
    ∙ sym (eqb-true (next_monitored from key cycle % p) (slot_of key % p) next.2))

-- a longer cycle is whole shorter ones
longer : (cycle more : ℕ) → slot_period (cycle + more) ≡ slot_period cycle * 2 ^ more
longer cycle more = ap (λ (n : ℕ). 16 * n) (pow-add 2 cycle more) ∙ sym (mul_assoc 16 (2 ^ cycle) (2 ^ more))

-- what is equal modulo whole cycles is modulo one
shorter : (p k m x y : ℕ) → m ≡ p * k → x % m ≡ y % m → x % p ≡ y % p
shorter p k m x y whole same =
    let equal : x % (p * k) ≡ y % (p * k) = rw (sym whole) same in
    sym (mod-mod_of_dvd p x (dvd-mul_right p k))
    ∙ ap (λ (n : ℕ). n % p) equal
    ∙ mod-mod_of_dvd p y (dvd-mul_right p k)

pub among_shorter : IsAmongShorter
among_shorter time key cycle more is =
    let p = slot_period (cycle + more) in
    eq-eqb (time % slot_period cycle) (slot_of key % slot_period cycle)
    (shorter (slot_period cycle) (2 ^ more) p time (slot_of key) (longer cycle more)
    (eqb-true (time % p) (slot_of key % p) is))

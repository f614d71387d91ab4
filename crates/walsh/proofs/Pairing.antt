-- The places of the two entries of a butterfly, by a table of all places and stages.
use Rattle.walsh.proofs.Common.{agree_below_at, if◌then◌else◌, agree_below, not-true, bit_and, one_shl, nat_eq, nat_lt, nat_le, ne_eqb, ◌≡◌}
use Rattle.walsh.proofs.Common.{bit_of, false, arith, Bool, true, ◌&&◌, refl, suc, ◌+◌, ◌-◌, ◌*◌, ◌%◌, ◌^◌, ◌<◌, ◌≤◌, not, sym, ◌∙◌, ap, ℕ}

-- a place whose bit is clear: the place of its partner, and where both stand in their blocks
pub record IsLow (bit n : ℕ) : Type 0 where
  pub room : n + 2 ^ bit < 64
  pub partner : bit_of (n + 2 ^ bit) bit ≡ true
  pub in_block : n % 2 ^ (suc bit) ≡ n % 2 ^ bit
  pub partner_in_block : (n + 2 ^ bit) % 2 ^ bit ≡ n % 2 ^ bit

-- a place whose bit is set
pub record IsHigh (bit n : ℕ) : Type 0 where
  pub room : 2 ^ bit ≤ n
  pub partner : bit_of (n - 2 ^ bit) bit ≡ false
  pub in_block : n % 2 ^ (suc bit) ≡ 2 ^ bit + n % 2 ^ bit
  pub partner_in_block : (n - 2 ^ bit) % 2 ^ bit ≡ n % 2 ^ bit

abbrev is_low : ℕ → ℕ → Bool
is_low bit n =
    nat_lt (n + 2 ^ bit) 64 &&
    (bit_of (n + 2 ^ bit) bit &&
    (nat_eq (n % 2 ^ (suc bit)) (n % 2 ^ bit) && nat_eq ((n + 2 ^ bit) % 2 ^ bit) (n % 2 ^ bit)))

abbrev is_high : ℕ → ℕ → Bool
is_high bit n =
    nat_le (2 ^ bit) n &&
    (not (bit_of (n - 2 ^ bit) bit) &&
    (nat_eq (n % 2 ^ (suc bit)) (2 ^ bit + n % 2 ^ bit) &&
    nat_eq ((n - 2 ^ bit) % 2 ^ bit) (n % 2 ^ bit)))

abbrev is_paired : ℕ → ℕ → Bool
is_paired bit n = if bit_of n bit then is_high bit n else is_low bit n

all_paired : agree_below (λ bit. agree_below (is_paired bit) (λ n. true) 64) (λ bit. true) 6 ≡ true
all_paired = refl

paired : (bit n : ℕ) → bit < 6 → n < 64 → is_paired bit n ≡ true
paired bit n p q =
    agree_below_at (is_paired bit) (λ n. true) 64 n
    (agree_below_at (λ bit. agree_below (is_paired bit) (λ n. true) 64) (λ bit. true) 6 bit
    all_paired p) q

first_of_both : (a b : Bool) → (a && b) ≡ true → a ≡ true
first_of_both true b h = refl
first_of_both false b h = h

second_of_both : (a b : Bool) → (a && b) ≡ true → b ≡ true
second_of_both true b h = h
second_of_both false b h = cc

-- A place that passes the test is the lower of a butterfly: its partner is one of the 64 places and
-- has the bit set, and both stand at the same place of their blocks. The test joins these facts by
-- `and`, and they are taken off it one after another.
low_facts : (bit n : ℕ) → is_low bit n ≡ true → IsLow bit n
low_facts bit n h =
    let room : nat_lt (n + 2 ^ bit) 64 ≡ true = first_of_both _ _ h in
    let rest = second_of_both (nat_lt (n + 2 ^ bit) 64) _ h in
    let last = second_of_both (bit_of (n + 2 ^ bit) bit) _ rest in
    let third : nat_eq (n % 2 ^ (suc bit)) (n % 2 ^ bit) ≡ true = first_of_both _ _ last in
    let fourth : nat_eq ((n + 2 ^ bit) % 2 ^ bit) (n % 2 ^ bit) ≡ true =
    second_of_both (nat_eq (n % 2 ^ (suc bit)) (n % 2 ^ bit)) _ last in
    record {
      room = grind (arith, room);
      partner = first_of_both _ _ rest;
      in_block = grind (arith, third);
      partner_in_block = grind (arith, fourth);
    }

-- A place that passes the test is the upper of a butterfly: its partner lies below it and has the
-- bit clear, and the block of the next stage has it half a block after the partner. The test joins
-- these facts by `and`, and they are taken off it one after another.
high_facts : (bit n : ℕ) → is_high bit n ≡ true → IsHigh bit n
high_facts bit n h =
    let room : nat_le (2 ^ bit) n ≡ true = first_of_both _ _ h in
    let rest = second_of_both (nat_le (2 ^ bit) n) _ h in
    let last = second_of_both (not (bit_of (n - 2 ^ bit) bit)) _ rest in
    let third : nat_eq (n % 2 ^ (suc bit)) (2 ^ bit + n % 2 ^ bit) ≡ true = first_of_both _ _ last in
    let fourth : nat_eq ((n - 2 ^ bit) % 2 ^ bit) (n % 2 ^ bit) ≡ true =
    second_of_both (nat_eq (n % 2 ^ (suc bit)) (2 ^ bit + n % 2 ^ bit)) _ last in
    record {
      room = grind (arith, room);
      partner = not-true (bit_of (n - 2 ^ bit) bit) (first_of_both _ _ rest);
      in_block = grind (arith, third);
      partner_in_block = grind (arith, fourth);
    }

pub low : (bit n : ℕ) → bit < 6 → n < 64 → bit_of n bit ≡ false → IsLow bit n
low bit n p q e =
    low_facts bit n (ap (λ (b : Bool). if b then is_high bit n else is_low bit n) (sym e) ∙
    paired bit n p q)

pub high : (bit n : ℕ) → bit < 6 → n < 64 → bit_of n bit ≡ true → IsHigh bit n
high bit n p q e =
    high_facts bit n (ap (λ (b : Bool). if b then is_high bit n else is_low bit n) (sym e) ∙
    paired bit n p q)

-- the code's `n & (1 << bit) == 0`
all_tested :
    agree_below (λ bit. agree_below (λ n. nat_eq (bit_and n (2 ^ bit)) 0) (λ n. not (bit_of n bit)) 64)
    (λ bit. true) 6 ≡ true
all_tested = refl

tested : (bit n : ℕ) → bit < 6 → n < 64 → nat_eq (bit_and n (2 ^ bit)) 0 ≡ not (bit_of n bit)
tested bit n p q =
    agree_below_at (λ n. nat_eq (bit_and n (2 ^ bit)) 0) (λ n. not (bit_of n bit)) 64 n
    (agree_below_at (λ bit. agree_below (λ n. nat_eq (bit_and n (2 ^ bit)) 0) (λ n. not (bit_of n bit)) 64)
    (λ bit. true) 6 bit all_tested p) q

pub shifted : (bit : ℕ) → bit < 6 → 1 * 2 ^ bit % 18446744073709551616 ≡ 2 ^ bit
shifted bit h = one_shl bit 64 (omega (arith, h))

set_if_not_clear : (b : Bool) → not b ≡ false → b ≡ true
set_if_not_clear true h = refl
set_if_not_clear false h = cc

pub is_clear : (bit n : ℕ) → bit < 6 → n < 64 → bit_and n (1 * 2 ^ bit % 18446744073709551616) ≡ 0 →
    bit_of n bit ≡ false
is_clear bit n p q h =
    let zero_is : bit_and n (2 ^ bit) ≡ 0 = ap (bit_and n) (sym (shifted bit p)) ∙ h in
    not-true (bit_of n bit) (sym (tested bit n p q) ∙ ap (λ (m : ℕ). nat_eq m 0) zero_is)

pub is_set : (bit n : ℕ) → bit < 6 → n < 64 →
    ¬ (bit_and n (1 * 2 ^ bit % 18446744073709551616) ≡ 0) → bit_of n bit ≡ true
is_set bit n p q h =
    let some : nat_eq (bit_and n (2 ^ bit)) 0 ≡ false =
    ne_eqb (bit_and n (2 ^ bit)) 0 (λ e. h (ap (bit_and n) (shifted bit p) ∙ e)) in
    set_if_not_clear (bit_of n bit) (sym (tested bit n p q) ∙ some)

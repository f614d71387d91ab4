-- What a shift register of 15 chips holds, and what it gives.
use Rattle.std.proofs.Common.{◌≡◌, ℕ, zero, suc, ◌+◌, ◌*◌, ◌%◌, ◌^◌, ◌<◌, Bool, true, false, List, [], ◌∷◌, length, get_or, map, refl, sym}
use Rattle.std.proofs.Common.{ap, ◌∙◌, arith, nat_eq, add-one}
use Rattle.std.proofs.lemmas.Bool.{ne_eqb}
use Rattle.std.proofs.lemmas.Nat.Bits.{bit_at-zero}
use Rattle.chip_core.specs.Bits.{parity, digit, bit_of}
use Rattle.chip_core.proofs.RegisterBits.{low_bit, bit_of-first, bit_of-next}
use Rattle.short_code.specs.ShortCode.{chips_to, chip_back, code_chip}

-- the register holds the last 15 of the chips before, the newest first
pub record Holds (register : ℕ) (before : List Bool) : Type 0 where
  pub small : register < 2 ^ 15
  pub chips : (k : ℕ) → k < 15 → bit_of register k ≡ get_or before k false

shifted_chips : (r : ℕ) (before : List Bool) (b : Bool) → Holds r before → (k : ℕ) → k < 15 →
    bit_of ((2 * r + digit b) % 2 ^ 15) k ≡ get_or (b ∷ before) k false
shifted_chips r before b h zero lt = low_bit (2 * r + digit b) 15 0 lt ∙ bit_of-first r b
shifted_chips r before b h (suc j) lt =
    low_bit (2 * r + digit b) 15 (suc j) lt ∙ bit_of-next r b j ∙ h.chips j (omega (arith, lt))

-- after one more chip
pub Holds-more : (r : ℕ) (before : List Bool) (b : Bool) → Holds r before →
    Holds ((2 * r + digit b) % 2 ^ 15) (b ∷ before)
Holds-more r before b h = record { small = omega arith; chips = shifted_chips r before b h }

-- chip 0, with zeros before it
pub Holds-start : Holds 1 (true ∷ [])
Holds-start =
    let none : Holds 0 [] = record { small = omega arith; chips = λ k lt. ap (λ n. nat_eq n 1) (bit_at-zero k) } in
    Holds-more 0 [] true none

-- the register's chips at places within it
pub map_places : (r : ℕ) (before : List Bool) (at : List ℕ) → Holds r before →
    ((k d : ℕ) → k < length at → get_or at k d < 15) → map (bit_of r) at ≡ map (λ k. get_or before k false) at
map_places r before [] h all = refl
map_places r before (k ∷ ks) h all =
    let here : bit_of r k ≡ get_or before k false = h.chips k (all 0 0 (omega arith)) in
    let rest : map (bit_of r) ks ≡ map (λ k. get_or before k false) ks =
    map_places r before ks h (λ j d lt. all (suc j) d (omega (arith, lt))) in
    cc

-- the chip after chip n
pub next_chip : (lags : List ℕ) (n : ℕ) → n < 32766 →
    code_chip lags (n + 1) ≡ parity (map (chip_back (chips_to lags n)) lags)
unfolding chips_to
next_chip lags n h = rw (add-one n, ne_eqb (suc n) 32767 (omega arith))

pub chips_more : (lags : List ℕ) (n : ℕ) →
    chips_to lags (n + 1) ≡ parity (map (chip_back (chips_to lags n)) lags) ∷ chips_to lags n
unfolding chips_to
chips_more lags n = rw (add-one n)

-- one turn for one code: the chip, and the register after it
pub turn : (lags at : List ℕ) (n r r' : ℕ) (b : Bool) → Holds r (chips_to lags n) → n < 32766 →
    ((k d : ℕ) → k < length at → get_or at k d < 15) →
    map (λ k. get_or (chips_to lags n) k false) at ≡ map (chip_back (chips_to lags n)) lags →
    b ≡ parity (map (bit_of r) at) → r' ≡ (2 * r + digit b) % 2 ^ 15 →
    (b ≡ code_chip lags (n + 1)) × Holds r' (chips_to lags (n + 1))
turn lags at n r r' b holds low all same chip next =
    let is : b ≡ parity (map (chip_back (chips_to lags n)) lags) = chip ∙
    ap parity (map_places r (chips_to lags n) at holds all ∙ same) in
    let grown : b ∷ chips_to lags n ≡ chips_to lags (n + 1) = ap (λ x. x ∷ chips_to lags n) is ∙
    sym (chips_more lags n) in (
      is ∙ sym (next_chip lags n low),
      rw (next, ← grown) (Holds-more r (chips_to lags n) b holds),
    )

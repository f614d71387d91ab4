-- Lemmas on texts that state values: what each step of a loop over a text reads.
use Rattle.line_text.proofs.Common.{◌≡◌, ◌≢◌, ℕ, suc, ◌+◌, ◌*◌, ◌^◌, ◌<◌, ◌≤◌, ◌==◌, Bool, true, false, List, [], ◌∷◌, ◌++◌, length, get_or}
use Rattle.line_text.proofs.Common.{drop, take, refl, sym, ap, ◌∙◌, arith, append_assoc, length-append, None, Some, flat_map, at_drop_more}
use Rattle.line_text.proofs.Common.{option_and_then, drop_all, take_all, take_more_set, binary}
use Rattle.std.proofs.Math.ListN.{set}
use Rattle.std.proofs.lemmas.Bool.{cond-true, cond-false, eq-eqb, eqb-false, eqb-true, ne_eqb}
use Rattle.std.proofs.Math.Nat.{pow-le-pow_right, pow-suc}
use Rattle.chip_core.proofs.FieldLists.{length-binary}
use Rattle.line_text.specs.StatedValues.{all_clear, binary_digit, power_bits_in, digits_after, hex_digit, hex_from, length_before}

-- ---- before a mark

pub before-mark : (mark byte : ℕ) (bytes : List ℕ) → byte ≡ mark → length_before mark (byte ∷ bytes) ≡ 0
unfolding length_before
before-mark mark byte bytes is = cond-true _ _ _ (eq-eqb byte mark is)

pub before-other : (mark byte : ℕ) (bytes : List ℕ) → byte ≢ mark →
    length_before mark (byte ∷ bytes) ≡ suc (length_before mark bytes)
unfolding length_before
before-other mark byte bytes other = cond-false _ _ _ (ne_eqb byte mark other)

pub before-none : (mark : ℕ) → length_before mark [] ≡ 0
unfolding length_before
before-none mark = refl

pub before_most : (mark : ℕ) (text : List ℕ) → length_before mark text ≤ length text
before_most mark [] = omega (arith, before-none mark)
before_most mark (byte ∷ bytes) = before_step mark byte bytes (byte == mark) refl (before_most mark bytes)
  where
    before_step : (mark byte : ℕ) (bytes : List ℕ) (is : Bool) → (byte == mark) ≡ is →
        length_before mark bytes ≤ length bytes → length_before mark (byte ∷ bytes) ≤ length (byte ∷ bytes)
    before_step mark byte bytes true is rest = omega (arith, before-mark mark byte bytes (eqb-true byte mark is))
    before_step mark byte bytes false is rest =
        omega (arith, rest, before-other mark byte bytes (eqb-false byte mark is))

-- the mark is found
pub mark_found : (mark : ℕ) (text : List ℕ) (k : ℕ) → k < length text → get_or text k 0 ≡ mark →
    length_before mark text ≡ k + length_before mark (drop k text) → k ≡ length_before mark text
mark_found mark text k inside is before =
    omega (
      arith,
      before,
      at_drop_more (length_before mark) text k 0 inside,
      before-mark mark (get_or text k 0) (drop (k + 1) text) is,
    )

-- another byte is passed
pub mark_later : (mark : ℕ) (text : List ℕ) (k : ℕ) → k < length text → get_or text k 0 ≢ mark →
    length_before mark text ≡ k + length_before mark (drop k text) →
    length_before mark text ≡ k + 1 + length_before mark (drop (k + 1) text)
mark_later mark text k inside other before =
    omega (
      arith,
      before,
      at_drop_more (length_before mark) text k 0 inside,
      before-other mark (get_or text k 0) (drop (k + 1) text) other,
    )

-- there is none
pub mark_missing : (mark : ℕ) (text : List ℕ) (k : ℕ) → length text ≤ k →
    length_before mark text ≡ k + length_before mark (drop k text) → k ≡ length_before mark text
mark_missing mark text k past before =
    omega (arith, before, ap (length_before mark) (drop_all k text past), before-none mark)

-- ---- hex numbers

pub hex_from-digit : (number digit value : ℕ) (digits : List ℕ) → hex_digit digit ≡ Some value →
    hex_from number (digit ∷ digits) ≡ hex_from (16 * number + value) digits
unfolding hex_from
hex_from-digit number digit value digits is = ap (option_and_then (λ (v : ℕ). hex_from (16 * number + v) digits)) is

hex_from-other : (number digit : ℕ) (digits : List ℕ) → hex_digit digit ≡ None → hex_from number (digit ∷ digits) ≡ None
unfolding hex_from
hex_from-other number digit digits is = ap (option_and_then (λ (v : ℕ). hex_from (16 * number + v) digits)) is

pub hex_from-none : (number : ℕ) → hex_from number [] ≡ Some number
unfolding hex_from
hex_from-none number = refl

pub hex_read : (text : List ℕ) (number k value next : ℕ) → k < length text → hex_digit (get_or text k 0) ≡ Some value →
    hex_from 0 text ≡ hex_from number (drop k text) → next ≡ 16 * number + value →
    hex_from 0 text ≡ hex_from next (drop (k + 1) text)
hex_read text number k value next inside is before next_is =
    before
    ∙ at_drop_more (hex_from number) text k 0 inside
    ∙ hex_from-digit number (get_or text k 0) value (drop (k + 1) text) is
    ∙ ap (λ (n : ℕ). hex_from n (drop (k + 1) text)) (sym next_is)

pub hex_missing : (text : List ℕ) (number k : ℕ) → k < length text → hex_digit (get_or text k 0) ≡ None →
    hex_from 0 text ≡ hex_from number (drop k text) → None ≡ hex_from 0 text
hex_missing text number k inside is before =
    sym (before ∙ at_drop_more (hex_from number) text k 0 inside
    ∙ hex_from-other number (get_or text k 0) (drop (k + 1) text) is)

pub hex_read_all : (text : List ℕ) (number k : ℕ) → length text ≤ k →
    hex_from 0 text ≡ hex_from number (drop k text) → Some number ≡ hex_from 0 text
hex_read_all text number k past before =
    sym (before ∙ ap (hex_from number) (drop_all k text past) ∙ hex_from-none number)

pub few_hex_digits : (number k : ℕ) → number < 16 ^ k → k ≤ 11 → number < 16 ^ 11
few_hex_digits number k below few = let most : 16 ^ k ≤ 16 ^ 11 =
    pow-le-pow_right (omega arith) few in omega (arith, below, most)

pub hex_digit_more : (number next k : ℕ) → number < 16 ^ k → next ≤ 16 * number + 15 → next < 16 ^ (k + 1)
hex_digit_more number next k below small =
    let more : 16 ^ (k + 1) ≡ 16 ^ k * 16 = ap (λ (n : ℕ). 16 ^ n) (omega arith) ∙ pow-suc 16 k in
    omega (arith, below, small, more)

-- ---- the bits of octets

pub octet_added : (octets : List ℕ) (bits next : List Bool) (k : ℕ) → k < length octets →
    next ≡ bits ++ binary 8 (get_or octets k 0) →
    flat_map (binary 8) octets ≡ bits ++ flat_map (binary 8) (drop k octets) →
    flat_map (binary 8) octets ≡ next ++ flat_map (binary 8) (drop (k + 1) octets)
octet_added octets bits next k inside next_is before =
    before
    ∙ ap (λ (r : List Bool). bits ++ r) (at_drop_more (flat_map (binary 8)) octets k 0 inside)
    ∙ sym (append_assoc bits (binary 8 (get_or octets k 0)) (flat_map (binary 8) (drop (k + 1) octets)))
    ∙ ap (λ (r : List Bool). r ++ flat_map (binary 8) (drop (k + 1) octets)) (sym next_is)

pub octet_longer : (bits next : List Bool) (octet k : ℕ) → next ≡ bits ++ binary 8 octet →
    length bits ≡ 8 * k → length next ≡ 8 * (k + 1)
octet_longer bits next octet k next_is long =
    omega (arith, ap length next_is, length-append bits (binary 8 octet), length-binary 8 octet, long)

-- ---- padding

pub clear_bit : (bits : List Bool) (from k : ℕ) → k < length bits → get_or bits k false ≡ false →
    all_clear (drop from bits) ≡ all_clear (drop k bits) → all_clear (drop from bits) ≡ all_clear (drop (k + 1) bits)
clear_bit bits from k inside clear before = before ∙ at_drop_more all_clear bits k false inside ∙ cond-false _ _ _ clear

pub set_bit : (bits : List Bool) (from k : ℕ) → k < length bits → get_or bits k false ≡ true →
    all_clear (drop from bits) ≡ all_clear (drop k bits) → false ≡ all_clear (drop from bits)
set_bit bits from k inside set before = sym (before ∙ at_drop_more all_clear bits k false inside ∙ cond-true _ _ _ set)

-- ---- power control bits

digits-bit : (bits : List Bool) (digit : ℕ) (bit : Bool) (digits : List ℕ) → binary_digit digit ≡ Some bit →
    digits_after bits (digit ∷ digits) ≡ digits_after (bits ++ bit ∷ []) digits
unfolding digits_after
digits-bit bits digit bit digits is = ap (option_and_then (λ (b : Bool). digits_after (bits ++ b ∷ []) digits)) is

digits-other : (bits : List Bool) (digit : ℕ) (digits : List ℕ) → binary_digit digit ≡ None →
    digits_after bits (digit ∷ digits) ≡ None
unfolding digits_after
digits-other bits digit digits is = ap (option_and_then (λ (b : Bool). digits_after (bits ++ b ∷ []) digits)) is

digits-none : (bits : List Bool) → digits_after bits [] ≡ Some bits
unfolding digits_after
digits-none bits = refl

-- the bits of the digits before the next one
abbrev pub AreBits : List ℕ → List Bool → ℕ → Type 0
AreBits text bits k = digits_after [] text ≡ digits_after (take k bits) (drop k text)

pub digit_read : (text : List ℕ) (bits : List Bool) (k : ℕ) (bit : Bool) → k < length text →
    k < length bits → binary_digit (get_or text k 0) ≡ Some bit → AreBits text bits k →
    AreBits text (set bits k bit) (k + 1)
digit_read text bits k bit inside room is before =
    before
    ∙ at_drop_more (digits_after (take k bits)) text k 0 inside
    ∙ digits-bit (take k bits) (get_or text k 0) bit (drop (k + 1) text) is
    ∙ ap (λ (bs : List Bool). digits_after bs (drop (k + 1) text)) (sym (take_more_set bits k bit room))

pub digit_missing : (text : List ℕ) (bits : List Bool) (k : ℕ) → k < length text →
    binary_digit (get_or text k 0) ≡ None → AreBits text bits k → digits_after [] text ≡ None
digit_missing text bits k inside is before =
    before
    ∙ at_drop_more (digits_after (take k bits)) text k 0 inside
    ∙ digits-other (take k bits) (get_or text k 0) (drop (k + 1) text) is

pub digits_read : (text : List ℕ) (bits : List Bool) (k : ℕ) → length text ≤ k →
    length bits ≤ k → AreBits text bits k → digits_after [] text ≡ Some bits
digits_read text bits k past all before =
    before
    ∙ ap (digits_after (take k bits)) (drop_all k text past)
    ∙ digits-none (take k bits)
    ∙ ap Some (take_all k bits all)

-- a text of sixteen digits, and another one
pub sixteen : (text : List ℕ) → length text ≡ 16 → power_bits_in text ≡ digits_after [] text
unfolding power_bits_in
sixteen text long = cond-true _ _ _ (eq-eqb (length text) 16 long)

pub not_sixteen : (text : List ℕ) → length text ≢ 16 → power_bits_in text ≡ None
unfolding power_bits_in
not_sixteen text other = cond-false _ _ _ (ne_eqb (length text) 16 other)

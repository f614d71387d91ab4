-- The basis of the model of a list of bits: the words can be rebuilt from their bits.
use Rattle.std.proofs.Common.{◌≡◌, ℕ, zero, suc, ◌+◌, ◌*◌, ◌/◌, ◌%◌, ◌^◌, ◌<◌, ◌≤◌, Bool, true, []}
use Rattle.std.proofs.Common.{false, List, ◌∷◌, length, get_or, take, drop, refl, sym, ap, ◌∙◌}
use Rattle.std.proofs.Common.{arith, nat_eq, ⊎_elim}
use Rattle.std.proofs.lemmas.List.{get_or-drop, get_or-take, get_or_past, length-take}
use Rattle.std.proofs.lemmas.List.FromFn.{length-map-range_with_len, get_or-map-range_with_len}
use Rattle.std.proofs.lemmas.List.FromFn.{fill_by_all}
use Rattle.std.proofs.lemmas.Nat.Bits.{bit_at-zero, bit_at-suc, bit_at-lt, same_from_bits_below}
use Rattle.std.proofs.lemmas.Bool.{cases_lt}
use Rattle.std.proofs.Math.Pow.{pow_mono}
use Rattle.chip_core.specs.Bits.{digit, bit_of}
use Rattle.chip_core.specs.Packed.{word_bit, unpacked, low_first, packed, IsPacked}
use Rattle.chip_core.specs.declared.bit_list.Bits.TheInside.{Inside}

pub length-unpacked : (words : List ℕ) (count : ℕ) → length (unpacked words count) ≡ count
unfolding unpacked
length-unpacked words count = length-map-range_with_len (word_bit words) 0 count

pub get_or-unpacked : (words : List ℕ) (count i : ℕ) (d : Bool) → i < count →
    get_or (unpacked words count) i d ≡ word_bit words i
unfolding unpacked
get_or-unpacked words count i d h =
    get_or-map-range_with_len (word_bit words) 0 count i i d h (omega arith)

pub digit_again : (m : ℕ) → m < 2 → digit (nat_eq m 1) ≡ m
digit_again zero h = refl
digit_again (suc zero) h = refl
digit_again (suc (suc m)) h = absurd (omega (arith, h))

pub halved : (b : Bool) (n : ℕ) → (digit b + 2 * n) / 2 ≡ n
halved true n = omega arith
halved false n = omega arith

lowest : (b : Bool) (n : ℕ) → (digit b + 2 * n) / 2 ^ 0 % 2 ≡ digit b
lowest true n = omega arith
lowest false n = omega arith

bit_at-low_first : (bits : List Bool) (i : ℕ) →
    low_first bits / 2 ^ i % 2 ≡ digit (get_or bits i false)
bit_at-low_first [] i = bit_at-zero i
bit_at-low_first (b ∷ bits) zero = lowest b (low_first bits)
bit_at-low_first (b ∷ bits) (suc i) =
    bit_at-suc (digit b + 2 * low_first bits) i ∙
    ap (λ (n : ℕ). n / 2 ^ i % 2) (halved b (low_first bits)) ∙ bit_at-low_first bits i

pub digit_le : (b : Bool) → digit b ≤ 1
digit_le true = omega arith
digit_le false = omega arith

pub low_first_below : (bits : List Bool) → low_first bits < 2 ^ length bits
low_first_below [] = omega arith
low_first_below (b ∷ bits) =
    let below : digit b + 2 * low_first bits < 2 ^ (suc (length bits)) =
    omega (arith, digit_le b, low_first_below bits) in below

-- bit i of word k, with zeros after the bits
word_again : (words : List ℕ) (count k i : ℕ) → IsPacked words count → i < 64 →
    get_or (take 64 (drop (64 * k) (unpacked words count))) i false ≡ bit_of (get_or words k 0) i
word_again words count k i h lt =
    let word : (64 * k + i) / 64 ≡ k = omega arith in
    let place : (64 * k + i) % 64 ≡ i = omega arith in
    let here : word_bit words (64 * k + i) ≡ bit_of (get_or words k 0) i = rw (word, place) refl in
    get_or-take 64 (drop (64 * k) (unpacked words count)) i false lt
    ∙ get_or-drop (64 * k) (unpacked words count) i false
    ∙ ⊎_elim
    (λ within. get_or-unpacked words count (64 * k + i) false within)
    (λ past. get_or_past (unpacked words count) (64 * k + i) false
    (rw (length-unpacked words count) past) ∙ sym (h.clear (64 * k + i) past))
    (cases_lt (64 * k + i) count)
    ∙ here

pub words_again : (words : List ℕ) (count : ℕ) → IsPacked words count →
    words ≡ packed (unpacked words count)
unfolding packed
words_again words count h =
    let bits : ℕ → List Bool = λ k. take 64 (drop (64 * k) (unpacked words count)) in
    fill_by_all (λ k. low_first (bits k)) words 19 0 h.long
    (λ k lt. same_from_bits_below 64 (get_or words k 0) (low_first (bits k)) (h.small k)
    (let short : length (bits k) ≤
    64 = omega (arith, length-take 64 (drop (64 * k) (unpacked words count))) in
    let most : 2 ^ length (bits k) ≤ 2 ^ 64 = pow_mono short in
    omega (arith, most, low_first_below (bits k)))
    (λ i within.
    sym (bit_at-low_first (bits k) i ∙ ap digit (word_again words count k i h within) ∙
    digit_again (get_or words k 0 / 2 ^ i % 2) (bit_at-lt (get_or words k 0) i))))

pub packed-unpacked : (a : Inside) → IsPacked a.words a.count →
    record {
      words = packed (unpacked a.words a.count);
      count = length (unpacked a.words a.count);
    } ≡ a
packed-unpacked a h =
    let words : packed (unpacked a.words a.count) ≡ a.words = sym (words_again a.words a.count h) in
    rw (words, length-unpacked a.words a.count)

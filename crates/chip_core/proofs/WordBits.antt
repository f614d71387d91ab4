-- One more bit in a list of packed bits.
use Rattle.chip_core.proofs.Common.{◌≡◌, ◌≢◌, ℕ, ◌+◌, ◌*◌, ◌/◌, ◌%◌, ◌^◌, ◌<◌, max, Bool, true, false, List, [], ◌∷◌, ◌++◌, length, get_or}
use Rattle.chip_core.proofs.Common.{set, map, refl, sym, ap, ◌∙◌, arith, nat_eq, ⊎_elim, bit_or, bit_and, Some, range_with_len, slice_get}
use Rattle.chip_core.proofs.Common.{get_or-set_same, get_or-set_other, length-set, slice_get-get_or, bit_at-zero, shr_and_one, bit_at_or}
use Rattle.chip_core.proofs.Common.{bit_at_set_same, bit_at_set_other, cases_eq, bit_of, length-unpacked, get_or-unpacked, words_again}
use Rattle.std.proofs.lemmas.List.FromFn.{get_or-map-range_with_len, map-range_with_len_more, fill_by_all, length-map-range_with_len}
use mir.Val.{bool_byte}
use mir.Syntax.{w64}
use lib.Pointwise.{pointwise}
use mathlib.Core.Bool.{◌&&◌}
use Rattle.chip_core.specs.Packed.{word_bit, unpacked, packed, IsPacked}

-- a zero bit that is set in a word leaves it as it is
or_nothing : (word place i : ℕ) → bit_of (bit_or word (0 * 2 ^ place % 2 ^ 64)) i ≡ bit_of word i
or_nothing word place i =
    let none : 0 * 2 ^ place % 2 ^ 64 ≡ 0 = omega arith in
    let most : max (word / 2 ^ i % 2) (0 / 2 ^ i % 2) ≡ word / 2 ^ i % 2 =
    ap (λ (m : ℕ). max (word / 2 ^ i % 2) m) (bit_at-zero i) ∙ omega arith in
    rw none (ap (λ (m : ℕ). nat_eq m 1) (bit_at_or word 0 i ∙ most))

pub set_here : (word place v : ℕ) (bit : Bool) → place < 64 → v ≡ bool_byte bit →
    bit_of word place ≡ false → bit_of (bit_or word (v * 2 ^ place % 2 ^ 64)) place ≡ bit
set_here word place v true within is clear = rw is (ap (λ (m : ℕ). nat_eq m 1) (bit_at_set_same w64 word place within))
set_here word place v false within is clear = rw is (or_nothing word place place ∙ clear)

pub set_others : (word place v : ℕ) (bit : Bool) → place < 64 → v ≡ bool_byte bit → (i : ℕ) →
    i ≢ place → bit_of (bit_or word (v * 2 ^ place % 2 ^ 64)) i ≡ bit_of word i
set_others word place v true within is i other =
    rw is (ap (λ (m : ℕ). nat_eq m 1) (bit_at_set_other w64 word place within i other))
set_others word place v false within is i other = rw is (or_nothing word place i)

-- a word was changed only at the place of one bit
pub record SetsBit (words : List ℕ) (count v : ℕ) (bit : Bool) : Type 0 where
  pub within : count / 64 < length words
  pub here : bit_of v (count % 64) ≡ bit
  pub others : (i : ℕ) → i < 64 → i ≢ count % 64 → bit_of v i ≡ bit_of (get_or words (count / 64) 0) i

pub sets : (words : List ℕ) (count v : ℕ) (bit : Bool) → IsPacked words count → count < 1184 →
    (bit_of (get_or words (count / 64) 0) (count % 64) ≡ false → bit_of v (count % 64) ≡ bit) →
    ((i : ℕ) → i < 64 → i ≢ count % 64 → bit_of v i ≡ bit_of (get_or words (count / 64) 0) i) →
    SetsBit words count v bit
sets words count v bit p room here others = record {
  within = omega (arith, room, p.long);
  here = here (p.clear count (omega arith));
  others = others;
}

pub word_bit-same : (words : List ℕ) (count v : ℕ) (bit : Bool) → SetsBit words count v bit →
    word_bit (set words (count / 64) v) count ≡ bit
word_bit-same words count v bit s =
    let within = s.within in
    ap (λ (n : ℕ). bit_of n (count % 64)) (get_or-set_same words (count / 64) v 0 within) ∙ s.here

-- Setting one bit of a packed list changes no other: a bit of another word stays with its word, and
-- one of the same word lies at another of its 64 places, which the new word has as before.
pub word_bit-other : (words : List ℕ) (count v : ℕ) (bit : Bool) → SetsBit words count v bit → (i : ℕ) → i ≢ count →
    word_bit (set words (count / 64) v) i ≡ word_bit words i
word_bit-other words count v bit s i other =
    ⊎_elim
    (λ (same : i / 64 ≡ count / 64).
    let within = s.within in
    let apart : i % 64 ≢ count % 64 = λ (e : i % 64 ≡ count % 64). other (omega arith) in
    let below : i % 64 < 64 = omega arith in
    let read : get_or (set words (count / 64) v) (i / 64) 0 ≡ v =
    ap (λ (j : ℕ). get_or (set words (count / 64) v) j 0) same ∙
    get_or-set_same words (count / 64) v 0 within in
    ap (λ (n : ℕ). bit_of n (i % 64)) read ∙ s.others (i % 64) below apart ∙
    ap (λ (j : ℕ). bit_of (get_or words j 0) (i % 64)) (sym same))
    (λ (apart : ¬ (i / 64 ≡ count / 64)). ap (λ (n : ℕ). bit_of n (i % 64))
    (get_or-set_other words (count / 64) (i / 64) v 0 apart))
    (cases_eq (i / 64) (count / 64))

-- the list with one bit more
pub unpacked-more : (words : List ℕ) (count v : ℕ) (bit : Bool) → SetsBit words count v bit →
    unpacked (set words (count / 64) v) (count + 1) ≡ unpacked words count ++ bit ∷ []
unfolding unpacked
unpacked-more words count v bit s =
    let new = word_bit (set words (count / 64) v) in
    let front : map new (range_with_len 0 count) ≡ map (word_bit words) (range_with_len 0 count) =
    fill_by_all (word_bit words) (map new (range_with_len 0 count)) count false (length-map-range_with_len new 0 count)
    (λ k lt. get_or-map-range_with_len new 0 count k k false lt (omega arith) ∙
    word_bit-other words count v bit s k (λ (e : k ≡ count). omega (arith, lt, e))) in
    map-range_with_len_more new 0 count count (omega arith)
    ∙ ap (λ (b : Bool). map new (range_with_len 0 count) ++ b ∷ []) (word_bit-same words count v bit s)
    ∙ ap (λ (bs : List Bool). bs ++ bit ∷ []) front

pub IsPacked-more : (words : List ℕ) (count v : ℕ) (bit : Bool) → IsPacked words count →
    count < 1184 → v < 2 ^ 64 → SetsBit words count v bit → IsPacked (set words (count / 64) v) (count + 1)
IsPacked-more words count v bit p room fits s = record {
  room = omega (arith, room);
  long = length-set words (count / 64) v ∙ p.long;
  small = λ w.
      ⊎_elim
      (λ (e : w ≡ count / 64).
      let within = s.within in
      let read : get_or (set words (count / 64) v) w 0 ≡ v =
      ap (λ (j : ℕ). get_or (set words (count / 64) v) j 0) e ∙
      get_or-set_same words (count / 64) v 0 within in
      rw read fits)
      (λ (e : ¬ (w ≡ count / 64)). rw (get_or-set_other words (count / 64) w v 0 e) (p.small w))
      (cases_eq w (count / 64));
  clear = λ i past. word_bit-other words count v bit s i
      (λ (e : i ≡ count). omega (arith, past, e)) ∙ p.clear i (omega (arith, past));
}

-- how many bits there are, and the read of one
pub length_is : (words : List ℕ) (count : ℕ) (bits : List Bool) → unpacked words count ≡ bits → count ≡ length bits
length_is words count bits is = sym (ap length (sym is) ∙ length-unpacked words count)

pub bit_read : (words : List ℕ) (count i : ℕ) (bits : List Bool) → unpacked words count ≡ bits → i < length bits →
    slice_get bits i ≡ Some (nat_eq (bit_and (get_or words (i / 64) 0 / 2 ^ (i % 64)) 1) 1)
bit_read words count i bits is within =
    let below : i < count = omega (arith, within, length_is words count bits is) in
    let read : get_or bits i false ≡ word_bit words i =
    ap (λ (bs : List Bool). get_or bs i false) (sym is) ∙
    get_or-unpacked words count i false below in
    let test : nat_eq (bit_and (get_or words (i / 64) 0 / 2 ^ (i % 64)) 1) 1 ≡ word_bit words i =
    ap (λ (m : ℕ). nat_eq m 1) (shr_and_one (get_or words (i / 64) 0) (i % 64)) in
    slice_get-get_or bits i false within ∙ ap (λ (b : Bool). Some b) (read ∙ sym test)

pub unpacked-none : (words : List ℕ) → unpacked words 0 ≡ []
unfolding unpacked
unpacked-none words = refl

and_swap : (a b : Bool) → (a && b) ≡ (b && a)
and_swap true true = refl
and_swap true false = refl
and_swap false true = refl
and_swap false false = refl

-- Two lists are compared by their counts and words: packing the bits that words hold gives these
-- words again (`words_again`), and the counts are the lists' lengths.
pub same_words : (r s : Bool) (words words' : List ℕ) (count count' : ℕ) (bits bits' : List Bool) →
    unpacked words count ≡ bits → unpacked words' count' ≡ bits' → IsPacked words count → IsPacked words' count' →
    r ≡ (s && pointwise nat_eq words words') → s ≡ nat_eq count count' →
    r ≡ (pointwise nat_eq (packed bits) (packed bits') && nat_eq (length bits) (length bits'))
same_words r s words words' count count' bits bits' is is' p p' both counts =
    let again : packed bits ≡ words = ap packed (sym is) ∙ sym (words_again words count p) in
    let again' : packed bits' ≡ words' = ap packed (sym is') ∙ sym (words_again words' count' p') in
    let long : length bits ≡ count = sym (length_is words count bits is) in
    let long' : length bits' ≡ count' = sym (length_is words' count' bits' is') in
    rw (again, again', long, long', both, counts) (and_swap (nat_eq count count') (pointwise nat_eq words words'))

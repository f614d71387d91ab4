-- Values read back from the texts that they are spelled with.
use Rattle.cell_script.proofs.Common.{◌≡◌, ℕ, zero, suc, ◌+◌, ◌-◌, ◌*◌, ◌/◌, ◌%◌, ◌^◌, ◌<◌, ◌≤◌, ◌==◌, Bool, true, false, List, [], ◌∷◌, ap}
use Rattle.cell_script.proofs.Common.{◌++◌, length, refl, sym, ◌∙◌, arith, decimal, slice_index, take, drop, replicate, codes, Some, None}
use Rattle.cell_script.proofs.Common.{Option, unwrap_or, append_assoc, append-nil, length-append, length-take-le, take-append-drop, byte_at}
use Rattle.cell_script.proofs.Common.{flat_map, option_and_then, bytes_high_first, to_be_bytes, w32, drop-append_seam, take-append_seam, ℤ}
use Rattle.cell_script.proofs.Common.{cond-false, cond-true, eq-eqb, eqb-true, le-ltb, lt-leb, lt-ltb, ne_eqb, length-replicate, IsBytes}
use Rattle.cell_script.proofs.Common.{from_be_bytes-to_be_bytes_4, from_be_bytes-to_be_bytes_8, decode_of-encode_lower, encode_lower, w16}
use Rattle.cell_script.proofs.Common.{encode_with, lower_digits, binary, number, IsState, binary-number, bit_text, digits_of, octet_count}
use Rattle.cell_script.proofs.Common.{packed_octets, padded, serial_digits, state_digits, all_clear, as_state, text_after, bits_in_text}
use Rattle.cell_script.proofs.Common.{power_bits_in, digits_after, hex_bits, hex_digit, hex_from, length_before, number_up_to, octets_in}
use Rattle.cell_script.proofs.Common.{serial_number_in, state_in, unpadded, FitsSigned, signed_in, signed_decimal, one_numeral, length-drop}
use Rattle.cell_script.proofs.Common.{one_signed_numeral, before-mark, hex_from-digit, hex_from-none}
use Rattle.cell_script.proofs.SpelledBytes.{are_within, at_below, before_high_mark, bytes_are, decimal_within, digits_of_long, octet_digits}
use Rattle.cell_script.proofs.SpelledBytes.{octet_digits_long, octets_are, serial_long, state_long}

-- ---- numbers

-- a number within its bound
pub number_back : (most n : ℕ) → most < 2 ^ 64 → n ≤ most → number_up_to most (decimal n) ≡ Some n
number_back most n small within = (one_numeral most n (decimal n) small).1 (refl, within)

-- a number with a sign, of 16 bits
pub signed_back : (z : ℤ) → FitsSigned w16 z → signed_in (signed_decimal z) ≡ Some z
signed_back z fits = (one_signed_numeral z (signed_decimal z)).1 (refl, fits)

-- ---- hex numbers

abbrev reads_back : ℕ → Bool
reads_back d = unwrap_or (hex_digit (slice_index lower_digits d)) 99 == d

some_from : (o : Option ℕ) (d : ℕ) → d < 16 → unwrap_or o 99 ≡ d → o ≡ Some d
some_from (Some v) d below same = ap Some same
some_from None d below same = absurd (omega (arith, below, same))

digit_back : (d : ℕ) → d < 16 → hex_digit (slice_index lower_digits d) ≡ Some d
digit_back d below =
    some_from (hex_digit (slice_index lower_digits d)) d below
    (eqb-true (unwrap_or (hex_digit (slice_index lower_digits d)) 99) d (at_below reads_back 16 d refl below))

from_digit : (n d : ℕ) (digits : List ℕ) → d < 16 →
    hex_from n (slice_index lower_digits d ∷ digits) ≡ hex_from (16 * n + d) digits
from_digit n d digits below = hex_from-digit n (slice_index lower_digits d) d digits (digit_back d below)

-- bytes after a number, the highest first
abbrev bytes_after : ℕ → List ℕ → ℕ
bytes_after n [] = n
bytes_after n (byte ∷ bytes) = bytes_after (256 * n + byte) bytes

from_bytes : (n : ℕ) (bytes : List ℕ) → IsBytes bytes → hex_from n (encode_lower bytes) ≡ Some (bytes_after n bytes)
unfolding encode_with
from_bytes n [] are = hex_from-none n
from_bytes n (byte ∷ bytes) are =
    let small : byte < 256 = are 0 in
    let low = slice_index lower_digits (byte % 16) in
    let whole : 16 * (16 * n + byte / 16) + byte % 16 ≡ 256 * n + byte = omega arith in
    from_digit n (byte / 16) (low ∷ encode_lower bytes) (omega (arith, small))
    ∙ from_digit (16 * n + byte / 16) (byte % 16) (encode_lower bytes) (omega arith)
    ∙ ap (λ (m : ℕ). hex_from m (encode_lower bytes)) whole
    ∙ from_bytes (256 * n + byte) bytes (λ i. are (suc i))

serial_value : (a b c d n : ℕ) → a * 16777216 + b * 65536 + c * 256 + d ≡ n →
    256 * (256 * (256 * (256 * 0 + a) + b) + c) + d ≡ n
serial_value a b c d n is = omega (arith, is)

-- a serial number
pub serial_back : (n : ℕ) → n < 2 ^ 32 → serial_number_in (serial_digits n) ≡ Some n
unfolding serial_number_in serial_digits
serial_back n small =
    let value : bytes_after 0 (to_be_bytes w32 n) ≡ n =
    serial_value (byte_at 3 n) (byte_at 2 n) (byte_at 1 n) (byte_at 0 n) n (from_be_bytes-to_be_bytes_4 n small) in
    cond-true _ _ _ (eq-eqb (length (serial_digits n)) 8 (serial_long n))
    ∙ from_bytes 0 (to_be_bytes w32 n) (bytes_are 4 n)
    ∙ ap Some value

state_value : (a b c d e f g h n : ℕ) → a * 72057594037927936 + b * 281474976710656
    + c * 1099511627776 + d * 4294967296 + e * 16777216 + f * 65536 + g * 256 + h ≡ n → n < 2 ^ 42 →
    256 * (256 * (256 * (256 * (256 * (16 * 0 + c % 16) + d) + e) + f) + g) + h ≡ n
state_value a b c d e f g h n is small =
    let low : c % 16 ≡ c = omega (arith, is, small) in
    omega (arith, is, small, low)

-- the last eleven digits of sixteen
state_digits-last : (n : ℕ) → state_digits n ≡
    slice_index lower_digits (byte_at 5 n % 16) ∷ encode_lower (bytes_high_first 5 n)
unfolding state_digits encode_with
state_digits-last n = refl

lawful_state : (n : ℕ) → IsState n → as_state n ≡ Some n
lawful_state n is =
    cond-false _ _ _ (ne_eqb n 0 (λ none. omega (arith, is.0, none)))
    ∙ cond-true _ _ _ (lt-ltb n (2 ^ 42) is.1)

-- A state that was spelled is read again: its eleven digits are half an octet and five octets,
-- which have its value since it is below 2^42, and a lawful state is admitted (`lawful_state`).
pub state_back : (n : ℕ) → IsState n → state_in (state_digits n) ≡ Some n
unfolding state_in
state_back n is =
    let last = byte_at 5 n % 16 in
    let value : bytes_after (16 * 0 + last) (bytes_high_first 5 n) ≡ n =
    state_value (byte_at 7 n) (byte_at 6 n) (byte_at 5 n) (byte_at 4 n) (byte_at 3 n)
    (byte_at 2 n) (byte_at 1 n) (byte_at 0 n) n (from_be_bytes-to_be_bytes_8 n (omega (arith, is.1))) is.1 in
    let read : hex_from 0 (state_digits n) ≡ Some n =
    ap (hex_from 0) (state_digits-last n)
    ∙ from_digit 0 last (encode_lower (bytes_high_first 5 n)) (omega arith)
    ∙ from_bytes (16 * 0 + last) (bytes_high_first 5 n) (bytes_are 5 n)
    ∙ ap Some value in
    cond-true _ _ _ (eq-eqb (length (state_digits n)) 11 (state_long n))
    ∙ ap (option_and_then as_state) read ∙ lawful_state n is

-- ---- bits

no_bits : (bits : List Bool) → length bits ≡ 0 → [] ≡ bits
no_bits [] none = refl
no_bits (bit ∷ bits) none = absurd (omega (arith, none))

octets_spell : (count : ℕ) (bits : List Bool) → length bits ≡ 8 * count →
    flat_map (binary 8) (packed_octets count bits) ≡ bits
unfolding packed_octets
octets_spell zero bits whole = no_bits bits (omega (arith, whole))
octets_spell (suc count) bits whole =
    let eight : length (take 8 bits) ≡ 8 = length-take-le 8 bits (omega (arith, whole)) in
    let first : binary 8 (number (take 8 bits)) ≡ take 8 bits =
    ap (λ (k : ℕ). binary k (number (take 8 bits))) (sym eight) ∙ binary-number (take 8 bits) in
    ap (λ (bs : List Bool). bs ++ flat_map (binary 8) (packed_octets count (drop 8 bits))) first
    ∙ ap (λ (bs : List Bool). take 8 bits ++ bs)
    (octets_spell count (drop 8 bits) (omega (arith, length-drop 8 bits, whole)))
    ∙ take-append-drop 8 bits

padded_long : (bits : List Bool) → length (padded bits) ≡ 8 * octet_count bits
unfolding padded
padded_long bits =
    let zeros = 8 * octet_count bits - length bits in
    omega (arith, length-append bits (replicate zeros false), length-replicate zeros false)

zeros_clear : (n : ℕ) → all_clear (replicate n false) ≡ true
zeros_clear zero = refl
zeros_clear (suc n) = zeros_clear n

unpadded-with : (bits more : List Bool) (n : ℕ) → more ≡ bits ++ replicate n false → n < 8 →
    unpadded (length bits) more ≡ Some bits
unpadded-with bits more n is few =
    let long : length more ≡ length bits + n =
    ap length is ∙ length-append bits (replicate n false)
    ∙ ap (λ (k : ℕ). length bits + k) (length-replicate n false) in
    let clear : all_clear (drop (length bits) more) ≡ true =
    ap (λ (bs : List Bool). all_clear (drop (length bits) bs)) is
    ∙ ap all_clear (drop-append_seam bits (replicate n false)) ∙ zeros_clear n in
    cond-false _ _ _ (le-ltb (length more) (length bits) (omega (arith, long)))
    ∙ cond-false _ _ _ (lt-leb (length bits + 8) (length more) (omega (arith, long, few)))
    ∙ cond-true _ _ _ clear
    ∙ ap (λ (bs : List Bool). Some (take (length bits) bs)) is
    ∙ ap Some (take-append_seam bits (replicate n false))

unpadded-padded : (bits : List Bool) → unpadded (length bits) (padded bits) ≡ Some bits
unfolding padded
unpadded-padded bits = unpadded-with bits (padded bits) (8 * octet_count bits - length bits) refl (omega arith)

hex_bits_back : (bits : List Bool) → length bits ≤ 1184 → hex_bits (octet_digits bits) ≡ Some (padded bits)
unfolding hex_bits
hex_bits_back bits few =
    let bytes = packed_octets (octet_count bits) (padded bits) in
    cond-false _ _ _ (le-ltb 296 (length (octet_digits bits)) (omega (arith, octet_digits_long bits, few)))
    ∙ ap octets_in (decode_of-encode_lower bytes (octets_are (octet_count bits) (padded bits)))
    ∙ ap Some (octets_spell (octet_count bits) (padded bits) (padded_long bits))

-- the two parts of a text of bits
abbrev bits_of_parts : List ℕ → List ℕ → Option (List Bool)
bits_of_parts front rest =
    option_and_then
    (λ count. option_and_then (λ digits. option_and_then (unpadded count) (hex_bits digits))
    (text_after (codes ":") rest))
    (number_up_to 1184 front)

bits_in-parts : (front hex : List ℕ) → are_within 48 57 front ≡ true →
    bits_in_text (front ++ 58 ∷ hex) ≡ bits_of_parts front (58 ∷ hex)
unfolding bits_in_text
bits_in-parts front hex are =
    let text = front ++ 58 ∷ hex in
    let at_mark : length_before 58 text ≡ length front =
    omega (arith, before_high_mark 58 48 57 front (58 ∷ hex) (omega arith) are, before-mark 58 58 hex refl) in
    ap (λ (k : ℕ). bits_of_parts (take k text) (drop k text)) at_mark
    ∙ ap (λ (t : List ℕ). bits_of_parts t (drop (length front) text)) (take-append_seam front (58 ∷ hex))
    ∙ ap (λ (t : List ℕ). bits_of_parts front t) (drop-append_seam front (58 ∷ hex))

-- Bits that were spelled are read again: the text is split at its colon into count and hex digits,
-- which give the padded bits (`hex_bits_back`), and the first of these, as many as the count says,
-- are the bits.
pub bits_back : (bits : List Bool) → length bits ≤ 1184 → bits_in_text (bit_text bits) ≡ Some bits
unfolding bit_text
bits_back bits few =
    let count = length bits in
    let hex = octet_digits bits in
    let step : bits_of_parts (decimal count) (58 ∷ hex)
    ≡ option_and_then (unpadded count) (hex_bits hex) =
    ap (option_and_then
    (λ (n : ℕ). option_and_then (λ (ds : List ℕ). option_and_then (unpadded n) (hex_bits ds))
    (text_after (codes ":") (58 ∷ hex))))
    (number_back 1184 count (omega arith) few) in
    ap bits_in_text (append_assoc (decimal count) (codes ":") hex)
    ∙ bits_in-parts (decimal count) hex (decimal_within count (omega (arith, few)))
    ∙ step
    ∙ ap (option_and_then (unpadded count)) (hex_bits_back bits few)
    ∙ unpadded-padded bits

-- ---- power control bits

digits_back : (before bits : List Bool) → digits_after before (digits_of bits) ≡ Some (before ++ bits)
unfolding digits_after digits_of
digits_back before [] = ap Some (sym (append-nil before))
digits_back before (true ∷ bits) =
    digits_back (before ++ true ∷ []) bits ∙ ap Some (append_assoc before (true ∷ []) bits)
digits_back before (false ∷ bits) =
    digits_back (before ++ false ∷ []) bits ∙ ap Some (append_assoc before (false ∷ []) bits)

-- sixteen power control bits
pub power_bits_back : (bits : List Bool) → length bits ≡ 16 → power_bits_in (digits_of bits) ≡ Some bits
unfolding power_bits_in
power_bits_back bits long =
    cond-true _ _ _ (eq-eqb (length (digits_of bits)) 16 (digits_of_long bits ∙ long))
    ∙ digits_back [] bits

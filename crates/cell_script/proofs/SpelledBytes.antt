-- The bytes of texts that values are spelled with: none is a space, an LF or a mark of another
-- kind.
use Rattle.cell_script.proofs.Common.{◌≡◌, ℕ, zero, suc, ◌+◌, ◌*◌, ◌/◌, ◌%◌, ◌^◌, ◌<◌, ◌≤◌, Bool, true, false, ◌&&◌, nat_le, List, [], ◌∷◌}
use Rattle.cell_script.proofs.Common.{◌++◌, length, refl, ap, ◌∙◌, arith, decimal, slice_index, take, drop, codes, inl, inr, length-append}
use Rattle.cell_script.proofs.Common.{length-drop, is_ascii_digit, byte_at, bytes_high_first, to_be_bytes, w32, w64, all_ascii_digits}
use Rattle.cell_script.proofs.Common.{pow-le-pow_right, and_from, and_parts, cases_lt, le-leb, leb-true, ne_eqb, digits_decimal, IsBytes}
use Rattle.cell_script.proofs.Common.{length-decimal-le, length-take, length-encode_with, encode_lower, encode_with, lower_digits, number}
use Rattle.cell_script.proofs.Common.{number_lt, bit_text, digit_of, digits_of, octet_count, packed_octets, padded, serial_digits, is_line}
use Rattle.cell_script.proofs.Common.{state_digits, length_before, length-packed, own_numerals, before-other}
use Rattle.cell_script.proofs.ScriptSplits.{is_line-end, is_line-more}

-- whether all bytes are in a range
abbrev pub are_within : ℕ → ℕ → List ℕ → Bool
are_within low high [] = true
are_within low high (byte ∷ bytes) = (nat_le low byte && nat_le byte high) && are_within low high bytes

-- of two texts in a range the whole is
pub within-append : (low high : ℕ) (xs ys : List ℕ) → are_within low high xs ≡ true →
    are_within low high ys ≡ true → are_within low high (xs ++ ys) ≡ true
within-append low high [] ys first second = second
within-append low high (x ∷ xs) ys first second =
    let parts = and_parts (nat_le low x && nat_le x high) (are_within low high xs) first in
    and_from (nat_le low x && nat_le x high) (are_within low high (xs ++ ys)) parts.0
    (within-append low high xs ys parts.1 second)

byte_in : (low high byte : ℕ) → (nat_le low byte && nat_le byte high) ≡ true → (low ≤ byte) × (byte ≤ high)
byte_in low high byte test =
    let parts = and_parts (nat_le low byte) (nat_le byte high) test in
    (leb-true low byte parts.0, leb-true byte high parts.1)

in_from : (low high byte : ℕ) → low ≤ byte → byte ≤ high → (nat_le low byte && nat_le byte high) ≡ true
in_from low high byte least most =
    and_from (nat_le low byte) (nat_le byte high) (le-leb low byte least) (le-leb byte high most)

-- one byte more
pub within-cons : (low high byte : ℕ) (bytes : List ℕ) → low ≤ byte → byte ≤ high →
    are_within low high bytes ≡ true → are_within low high (byte ∷ bytes) ≡ true
within-cons low high byte bytes least most rest =
    and_from (nat_le low byte && nat_le byte high) (are_within low high bytes) (in_from low high byte least most) rest

-- a range that holds another
pub within-wider : (low high lower higher : ℕ) (xs : List ℕ) → lower ≤ low → high ≤ higher →
    are_within low high xs ≡ true → are_within lower higher xs ≡ true
within-wider low high lower higher [] least most test = refl
within-wider low high lower higher (x ∷ xs) least most test =
    let parts = and_parts (nat_le low x && nat_le x high) (are_within low high xs) test in
    let inside = byte_in low high x parts.0 in
    within-cons lower higher x xs (omega (arith, inside.0, least)) (omega (arith, inside.1, most))
    (within-wider low high lower higher xs least most parts.1)

-- the rest of a text
pub within-drop : (low high n : ℕ) (xs : List ℕ) → are_within low high xs ≡ true →
    are_within low high (drop n xs) ≡ true
within-drop low high zero xs test = test
within-drop low high (suc n) [] test = refl
within-drop low high (suc n) (x ∷ xs) test =
    within-drop low high n xs (and_parts (nat_le low x && nat_le x high) (are_within low high xs) test).1

-- ---- before a mark that no byte is

before_word : (mark low high : ℕ) (text rest : List ℕ) →
    ((byte : ℕ) → low ≤ byte → byte ≤ high → ¬ (byte ≡ mark)) → are_within low high text ≡ true →
    length_before mark (text ++ rest) ≡ length text + length_before mark rest
before_word mark low high [] rest apart test = omega arith
before_word mark low high (byte ∷ bytes) rest apart test =
    let parts = and_parts (nat_le low byte && nat_le byte high) (are_within low high bytes) test in
    let inside = byte_in low high byte parts.0 in
    let other : ¬ (byte ≡ mark) = apart byte inside.0 inside.1 in
    omega (arith, before-other mark byte (bytes ++ rest) other, before_word mark low high bytes rest apart parts.1)

-- a mark below all bytes of a text, and one above them
pub before_low_mark : (mark low high : ℕ) (text rest : List ℕ) → mark < low → are_within low high text ≡ true →
    length_before mark (text ++ rest) ≡ length text + length_before mark rest
before_low_mark mark low high text rest below test =
    before_word mark low high text rest (λ byte least most is. omega (arith, below, least, is)) test

pub before_high_mark : (mark low high : ℕ) (text rest : List ℕ) → high < mark → are_within low high text ≡ true →
    length_before mark (text ++ rest) ≡ length text + length_before mark rest
before_high_mark mark low high text rest above test =
    before_word mark low high text rest (λ byte least most is. omega (arith, above, most, is)) test

-- ---- lines

-- a text without an LF makes one line
pub is_line-within : (text : List ℕ) → are_within 32 126 text ≡ true → is_line (text ++ 10 ∷ []) ≡ true
is_line-within [] are = is_line-end 10 [] refl
is_line-within (byte ∷ bytes) are =
    let parts = and_parts (nat_le 32 byte && nat_le byte 126) (are_within 32 126 bytes) are in
    let above = (byte_in 32 126 byte parts.0).0 in
    is_line-more byte (bytes ++ 10 ∷ []) (ne_eqb byte 10 (λ lf. omega (arith, above, lf)))
    ∙ is_line-within bytes parts.1

-- ---- numbers

digits_within : (text : List ℕ) → all_ascii_digits text ≡ true → are_within 48 57 text ≡ true
digits_within [] test = refl
digits_within (byte ∷ bytes) test =
    let parts = and_parts (is_ascii_digit byte) (all_ascii_digits bytes) test in
    let inside = byte_in 48 57 byte parts.0 in
    within-cons 48 57 byte bytes inside.0 inside.1 (digits_within bytes parts.1)

-- a number is spelled with digits alone
pub decimal_within : (n : ℕ) → n < 2 ^ 64 → are_within 48 57 (decimal n) ≡ true
decimal_within n small = digits_within (decimal n) (digits_decimal own_numerals n small)

-- and with at most twenty
pub decimal_short : (n : ℕ) → n < 2 ^ 64 → length (decimal n) ≤ 20
decimal_short n small = length-decimal-le 20 n (omega arith) (omega (arith, small)) small

-- ---- hex digits

-- whether a test holds of all numbers below one
abbrev pub all_below : (ℕ → Bool) → ℕ → Bool
all_below test zero = true
all_below test (suc n) = test n && all_below test n

-- each number passed the test
pub at_below : (test : ℕ → Bool) (n d : ℕ) → all_below test n ≡ true → d < n → test d ≡ true
at_below test zero d all below = absurd (omega (arith, below))
at_below test (suc n) d all below =
    let parts = and_parts (test n) (all_below test n) all in
    elim (cases_lt d n) [
      | inl lower ↦ at_below test n d parts.1 lower
      | inr top ↦
          let same : d ≡ n = omega (arith, top, below) in
          ap test same ∙ parts.0
    ]

abbrev is_of_digits : ℕ → Bool
is_of_digits d = nat_le 48 (slice_index lower_digits d) && nat_le (slice_index lower_digits d) 102

digit_within : (d : ℕ) → d < 16 → (48 ≤ slice_index lower_digits d) × (slice_index lower_digits d ≤ 102)
digit_within d below = byte_in 48 102 (slice_index lower_digits d) (at_below is_of_digits 16 d refl below)

-- By induction over the octets, all codes of their text are from 48 to 102: each half of an octet
-- is below 16, and the hex digit of such a number is in this range (`digit_within`).
pub encoded_within : (bytes : List ℕ) → IsBytes bytes → are_within 48 102 (encode_lower bytes) ≡ true
unfolding encode_with
encoded_within [] are = refl
encoded_within (byte ∷ bytes) are =
    let small : byte < 256 = are 0 in
    let high = digit_within (byte / 16) (omega (arith, small)) in
    let low = digit_within (byte % 16) (omega arith) in
    let second = slice_index lower_digits (byte % 16) in
    within-cons 48 102 (slice_index lower_digits (byte / 16)) (second ∷ encode_lower bytes)
    high.0 high.1 (within-cons 48 102 second (encode_lower bytes) low.0 low.1 (encoded_within bytes (λ i. are (suc i))))

byte_small : (k n : ℕ) → byte_at k n < 256
byte_small zero n = omega arith
byte_small (suc k) n = omega arith

-- the octets of a number
pub bytes_are : (k n : ℕ) → IsBytes (bytes_high_first k n)
bytes_are zero n i = omega arith
bytes_are (suc k) n zero = byte_small k n
bytes_are (suc k) n (suc i) = bytes_are k n i

-- a state of the long code: its digits, and how many
pub state_within : (n : ℕ) → are_within 48 102 (state_digits n) ≡ true
unfolding state_digits
state_within n =
    within-drop 48 102 5 (encode_lower (to_be_bytes w64 n)) (encoded_within (to_be_bytes w64 n) (bytes_are 8 n))

pub state_long : (n : ℕ) → length (state_digits n) ≡ 11
unfolding state_digits
state_long n =
    let all = length-encode_with lower_digits (to_be_bytes w64 n) in
    omega (arith, length-drop 5 (encode_lower (to_be_bytes w64 n)), all)

-- a serial number: its digits, and how many
pub serial_within : (n : ℕ) → are_within 48 102 (serial_digits n) ≡ true
unfolding serial_digits
serial_within n = encoded_within (to_be_bytes w32 n) (bytes_are 4 n)

pub serial_long : (n : ℕ) → length (serial_digits n) ≡ 8
unfolding serial_digits
serial_long n = length-encode_with lower_digits (to_be_bytes w32 n)

-- ---- bits

octet_small : (bits : List Bool) → number (take 8 bits) < 256
octet_small bits =
    let few : length (take 8 bits) ≤ 8 = omega (arith, length-take 8 bits) in
    let most : 2 ^ length (take 8 bits) ≤ 2 ^ 8 = pow-le-pow_right (omega arith) few in
    omega (arith, number_lt (take 8 bits), most)

-- the octets of bits
pub octets_are : (count : ℕ) (bits : List Bool) → IsBytes (packed_octets count bits)
unfolding packed_octets
octets_are zero bits i = omega arith
octets_are (suc count) bits zero = octet_small bits
octets_are (suc count) bits (suc i) = octets_are count (drop 8 bits) i

abbrev pub octet_digits : List Bool → List ℕ
octet_digits bits = encode_lower (packed_octets (octet_count bits) (padded bits))

-- what stands after the colon, and how long it is
pub octet_digits_within : (bits : List Bool) → are_within 48 102 (octet_digits bits) ≡ true
octet_digits_within bits =
    encoded_within (packed_octets (octet_count bits) (padded bits)) (octets_are (octet_count bits) (padded bits))

pub octet_digits_long : (bits : List Bool) → length (octet_digits bits) ≡ 2 * octet_count bits
octet_digits_long bits =
    let all = length-encode_with lower_digits (packed_octets (octet_count bits) (padded bits)) in
    omega (arith, all, length-packed (octet_count bits) (padded bits))

-- the whole text of bits
pub bit_text_within : (bits : List Bool) → length bits < 2 ^ 64 → are_within 48 102 (bit_text bits) ≡ true
unfolding bit_text
bit_text_within bits few =
    within-append 48 102 (decimal (length bits) ++ codes ":") (octet_digits bits)
    (within-append 48 102 (decimal (length bits)) (codes ":")
    (within-wider 48 57 48 102 (decimal (length bits)) (omega arith) (omega arith)
    (decimal_within (length bits) few)) refl)
    (octet_digits_within bits)

-- is short
pub bit_text_short : (bits : List Bool) → length bits < 2 ^ 64 → length (bit_text bits) ≤ 28 + length bits
unfolding bit_text
bit_text_short bits few =
    omega (
      arith,
      length-append (decimal (length bits) ++ codes ":") (octet_digits bits),
      length-append (decimal (length bits)) (codes ":"),
      decimal_short (length bits) few,
      octet_digits_long bits,
    )

digit_of_within : (bit : Bool) → are_within 48 102 (digit_of bit) ≡ true
digit_of_within true = refl
digit_of_within false = refl

-- bits as digits, and how many
pub digits_of_within : (bits : List Bool) → are_within 48 102 (digits_of bits) ≡ true
unfolding digits_of
digits_of_within [] = refl
digits_of_within (bit ∷ bits) =
    within-append 48 102 (digit_of bit) (digits_of bits) (digit_of_within bit) (digits_of_within bits)

digit_of_long : (bit : Bool) → length (digit_of bit) ≡ 1
digit_of_long true = refl
digit_of_long false = refl

pub digits_of_long : (bits : List Bool) → length (digits_of bits) ≡ length bits
unfolding digits_of
digits_of_long [] = refl
digits_of_long (bit ∷ bits) =
    omega (arith, length-append (digit_of bit) (digits_of bits), digit_of_long bit, digits_of_long bits)

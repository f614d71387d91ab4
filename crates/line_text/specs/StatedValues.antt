-- The values that texts state: numbers in decimal, states of the long code and serial numbers in
-- hex digits, and lists of bits.
use Rattle.std.specs.Prelude.{ℕ, suc, ◌+◌, ◌*◌, ◌^◌, ◌==◌, nat_lt, nat_le, nat_eq, Bool, true, not}
use Rattle.std.specs.Prelude.{false, if◌then◌else◌, List, [], ◌∷◌, ◌++◌, length, take, drop, get_or}
use Rattle.std.specs.Prelude.{codes, flat_map, Option, None, Some, Result, Ok, Err, ℤ, pos, neg_ℤ}
use Rattle.std.specs.Prelude.{option_and_then}
use Rattle.std.specs.Char.{digit_value}
use Rattle.std.specs.Cmp.Lexicographic.{pointwise}
use Rattle.hex.specs.Hex.{decode_of}
use Rattle.hex.specs.declared.error.FromHexError.{FromHexError}
use Rattle.chip_core.specs.Decimals.{digits_from}
use Rattle.chip_core.specs.Bits.{binary}

-- how many bytes of a text precede the first mark; all if there is none
unfoldable pub length_before : ℕ → List ℕ → ℕ
length_before mark [] = 0
length_before mark (byte ∷ bytes) = if byte == mark then 0 else suc (length_before mark bytes)

-- whether a text begins with another
abbrev pub begins_with : List ℕ → List ℕ → Bool
begins_with text front = pointwise nat_eq (take (length front) text) front

-- the rest of a text after `front`; None if the text doesn't begin with it
abbrev pub text_after : List ℕ → List ℕ → Option (List ℕ)
text_after front text = if begins_with text front then Some (drop (length front) text) else None

-- ---- decimal numbers

-- whether a text has 1 to 20 bytes and no leading zero
abbrev pub is_plain : List ℕ → Bool
is_plain text =
    if nat_lt (length text) 2 then length text == 1
    else (if nat_le (length text) 20 then not (get_or text 0 0 == 48) else false)

-- the number that a text spells in decimal, without leading zeros
abbrev pub number_in : List ℕ → Option ℕ
number_in text = if is_plain text then digits_from 0 text else None

abbrev pub up_to : ℕ → ℕ → Option ℕ
up_to most number = if nat_le number most then Some number else None

-- a number from 0 to `most`
unfoldable pub number_up_to : ℕ → List ℕ → Option ℕ
number_up_to most text = option_and_then (up_to most) (number_in text)

-- a signed number from -32768 to 32767; -0 isn't one
abbrev pub negative : ℕ → Option ℤ
negative size = if size == 0 then None else Some (neg_ℤ (pos size))

abbrev pub positive : ℕ → Option ℤ
positive size = Some (pos size)

abbrev pub signed_after : List ℕ → Option (List ℕ) → Option ℤ
signed_after text None = option_and_then positive (number_up_to 32767 text)
signed_after text (Some digits) = option_and_then negative (number_up_to 32768 digits)

unfoldable pub signed_in : List ℕ → Option ℤ
signed_in text = signed_after text (text_after (codes "-") text)

-- ---- states of the long code

-- the value of a hex digit of either case
abbrev pub hex_digit : ℕ → Option ℕ
hex_digit byte = if nat_lt (digit_value byte) 16 then Some (digit_value byte) else None

-- a number with hex digits appended
unfoldable pub hex_from : ℕ → List ℕ → Option ℕ
hex_from number [] = Some number
hex_from number (digit ∷ digits) =
    option_and_then (λ value. hex_from (16 * number + value) digits) (hex_digit digit)

-- a state isn't 0 and has 42 bits
abbrev pub as_state : ℕ → Option ℕ
as_state number =
    if number == 0 then None else (if nat_lt number (2 ^ 42) then Some number else None)

-- a state in eleven hex digits
unfoldable pub state_in : List ℕ → Option ℕ
state_in text = if length text == 11 then option_and_then as_state (hex_from 0 text) else None

-- an electronic serial number in eight hex digits
unfoldable pub serial_number_in : List ℕ → Option ℕ
serial_number_in text = if length text == 8 then hex_from 0 text else None

-- ---- lists of bits

-- whether all bits are 0
abbrev pub all_clear : List Bool → Bool
all_clear [] = true
all_clear (bit ∷ bits) = if bit then false else all_clear bits

-- the first n bits of whole octets; None unless there are exactly as many octets as they need and
-- the bits after them are 0
abbrev pub unpadded : ℕ → List Bool → Option (List Bool)
unpadded count bits =
    if nat_lt (length bits) count then None
    else if nat_le (count + 8) (length bits) then None
    else if all_clear (drop count bits) then Some (take count bits) else None

abbrev pub octets_in : Result (List ℕ) FromHexError → Option (List Bool)
octets_in (Ok octets) = Some (flat_map (binary 8) octets)
octets_in (Err fault) = None

-- the bits that hex digits of either case spell, at most 1,184 of them
unfoldable pub hex_bits : List ℕ → Option (List Bool)
hex_bits digits = if nat_lt 296 (length digits) then None else octets_in (decode_of digits)

-- the bits of a text `N:HEX`
unfoldable pub bits_in_text : List ℕ → Option (List Bool)
bits_in_text text =
    option_and_then
    (λ count. option_and_then (λ digits. option_and_then (unpadded count) (hex_bits digits))
    (text_after (codes ":") (drop (length_before 58 text) text)))
    (number_up_to 1184 (take (length_before 58 text) text))

-- ---- power control bits

-- the bit of a digit 0 or 1
abbrev pub binary_digit : ℕ → Option Bool
binary_digit byte = if byte == 48 then Some false else (if byte == 49 then Some true else None)

-- bits, followed by those of digits
unfoldable pub digits_after : List Bool → List ℕ → Option (List Bool)
digits_after bits [] = Some bits
digits_after bits (digit ∷ digits) =
    option_and_then (λ bit. digits_after (bits ++ bit ∷ []) digits) (binary_digit digit)

-- the bits of sixteen digits
unfoldable pub power_bits_in : List ℕ → Option (List Bool)
power_bits_in text = if length text == 16 then digits_after [] text else None

-- The texts of values, in ASCII: lists of bits, states of the long code, serial numbers, and the
-- key before the value of a field.
use Rattle.std.specs.Prelude.{ℕ, zero, suc, ◌+◌, ◌*◌, ◌-◌, ◌/◌, Bool, false, if◌then◌else◌, List}
use Rattle.std.specs.Prelude.{[], ◌∷◌, ◌++◌, length, take, drop, replicate, codes, decimal}
use Rattle.std.specs.Int.{w32, w64, to_be_bytes}
use Rattle.std.specs.List.{flat_map}
use Rattle.chip_core.specs.Bits.{number}
use Rattle.hex.specs.Hex.{encode_lower}

-- how many octets hold the bits
abbrev pub octet_count : List Bool → ℕ
octet_count bits = (length bits + 7) / 8

-- the bits, padded with zeros to whole octets
unfoldable pub padded : List Bool → List Bool
padded bits = bits ++ replicate (8 * octet_count bits - length bits) false

-- the first `count` octets, each the number that its bits spell
unfoldable pub packed_octets : ℕ → List Bool → List ℕ
packed_octets zero bits = []
packed_octets (suc count) bits = number (take 8 bits) ∷ packed_octets count (drop 8 bits)

-- `N:HEX`: the number of bits, and two lower-case hex digits for each octet of the padded bits
unfoldable pub bit_text : List Bool → List ℕ
bit_text bits =
    decimal (length bits) ++ codes ":" ++ encode_lower
    (packed_octets (octet_count bits) (padded bits))

-- the last eleven of the sixteen lower-case hex digits of 64 bits, enough for a state of 42 bits
unfoldable pub state_digits : ℕ → List ℕ
state_digits state = drop 5 (encode_lower (to_be_bytes w64 state))

-- the eight lower-case hex digits of an electronic serial number
unfoldable pub serial_digits : ℕ → List ℕ
serial_digits esn = encode_lower (to_be_bytes w32 esn)

-- a bit as a digit
abbrev pub digit_of : Bool → List ℕ
digit_of bit = if bit then codes "1" else codes "0"

-- bits as digits, in order
unfoldable pub digits_of : List Bool → List ℕ
digits_of bits = flat_map digit_of bits

-- the text before the value of a field
abbrev pub spaced_key : List ℕ → List ℕ
spaced_key name = codes " " ++ name ++ codes "="

-- Decimal numbers in a text.
use Rattle.std.specs.Prelude.{ℕ, ◌+◌, ◌-◌, ◌*◌, if◌then◌else◌, List, [], ◌∷◌, Option, None, Some}
use Rattle.std.specs.Char.{is_ascii_digit}

-- a number with these digits appended, any leading zeros included, if all bytes are digits
unfoldable pub digits_from : ℕ → List ℕ → Option ℕ
digits_from number [] = Some number
digits_from number (digit ∷ digits) =
    if is_ascii_digit digit then digits_from (10 * number + (digit - 48)) digits else None

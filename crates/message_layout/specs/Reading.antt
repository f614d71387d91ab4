-- Bits read by a layout, part by part: the content of each part, and the bits after it.
use Rattle.message_layout.specs.Common.{total_width, number_at, values_at, Contents, Presence}
use Rattle.message_layout.specs.Common.{Never, Flagged, UnlessLeft}
use Rattle.std.specs.Prelude.{ℕ, ◌*◌, ◌==◌, if◌then◌else◌, not, Bool, true, false, List, length}
use Rattle.std.specs.Prelude.{take, drop, nat_le, Option, None, Some}
use Rattle.message_layout.specs.Contents.{columns_in, count_in}
use Rattle.message_layout.specs.Shapes.{MessageShape}

infixl 10 ◌>>=◌
abbrev pub ◌>>=◌ : {A B : Type 0} → Option A → (A → Option B) → Option B
None >>= f = None
(Some x) >>= f = f x

-- the function applied to the value, if there is one
abbrev pub mapped : {A B : Type 0} → (A → B) → Option A → Option B
mapped f None = None
mapped f (Some x) = Some (f x)

-- what was read, and the bits after it: those from the returned place of a list on
abbrev pub following : {A : Type 0} → List Bool → Option (A × ℕ) → Option (A × List Bool)
following bits None = None
following bits (Some x) = Some (x.0, drop x.1 bits)

-- fields of these widths
unfoldable pub fields_at : List ℕ → List Bool → Option (List ℕ × List Bool)
fields_at widths bits =
    if nat_le (total_width widths) (length bits)
    then Some (values_at widths bits, drop (total_width widths) bits) else None

-- the first n bits, and the bits after them
unfoldable pub part_at : ℕ → List Bool → Option (List Bool × List Bool)
part_at count bits =
    if nat_le count (length bits) then Some (take count bits, drop count bits) else None

-- a number of `width` bits
unfoldable pub number_part : ℕ → List Bool → Option (ℕ × List Bool)
number_part width bits =
    if nat_le width (length bits) then Some (number_at 0 width bits, drop width bits) else None

-- whether a group is present
unfoldable pub presence_at : Presence → List Bool → Option (Bool × List Bool)
presence_at Never bits = Some (false, bits)
presence_at Flagged bits = do
  flag ← number_part 1 bits
  Some (flag.0 == 1, flag.1)
presence_at (UnlessLeft count) bits = Some (not (length bits == count), bits)

abbrev pub present_at : List ℕ → Bool → List Bool → Option (Option (List ℕ) × List Bool)
present_at widths true bits = do
  values ← fields_at widths bits
  Some (Some values.0, values.1)
present_at widths false bits = Some (None, bits)

unfoldable pub group_at : Presence → List ℕ → List Bool → Option (Option (List ℕ) × List Bool)
group_at presence widths bits = do
  there ← presence_at presence bits
  present_at widths there.0 there.1

-- zero bits, a count of octets, and the octets
unfoldable pub octets_at : ℕ → ℕ → List Bool → Option (List Bool × List Bool)
octets_at zeros width bits = do
  none ← number_part zeros bits
  count ← number_part width none.1
  if none.0 == 0 then part_at (8 * count.0) count.1 else None

-- the first n records, if these are enough
abbrev pub records_from : List ℕ → ℕ → ℕ → List Bool → Option (List (List ℕ) × List Bool)
records_from widths least n bits =
    if nat_le least n then Some (columns_in widths n bits, drop (n * total_width widths) bits)
    else None

-- as many records as fit
unfoldable pub records_at : List ℕ → ℕ → List Bool → Option (List (List ℕ) × List Bool)
records_at widths least bits = records_from widths least (count_in widths (length bits)) bits

-- whether at most the allowed number of bits is left
abbrev pub is_few : Option ℕ → ℕ → Bool
is_few None count = true
is_few (Some most) count = nat_le count most

abbrev pub is_rest : Option ℕ → List Bool → Bool
is_rest most rest = is_few most (length rest)

-- the contents that end with these records and the bits after them
abbrev pub rest_at : Option ℕ → List ℕ → Option (List ℕ) → List Bool → List (List ℕ) → List Bool →
    Option Contents
rest_at most fixed group octets columns rest =
    if is_rest most rest then Some
    (record {
      fixed = fixed;
      group = group;
      octets = octets;
      columns = columns;
      rest = rest;
    }) else None

-- the contents that the bits spell
unfoldable pub reading : MessageShape → List Bool → Option Contents
reading s bits = do
  fixed ← fields_at s.fixed bits
  group ← group_at s.presence s.group fixed.1
  octets ← octets_at s.zeros s.count group.1
  records ← records_at s.records s.least octets.1
  rest_at s.most fixed.0 group.0 octets.0 records.0 records.1

-- Layouts without a group and without octets, and their contents.
use Rattle.message_layout.specs.Common.{total_width, values_at, Contents, Never}
use Rattle.std.specs.Prelude.{ℕ, ◌*◌, ◌-◌, ◌&&◌, Bool, List, [], length, drop, nat_le, Option, None}
use Rattle.message_layout.specs.Contents.{columns_in, count_in}
use Rattle.message_layout.specs.Reading.{is_few}
use Rattle.message_layout.specs.Shapes.{MessageShape}

-- fixed fields, at least `least` records, and at most `most` bits after them
abbrev pub plain_shape : List ℕ → List ℕ → ℕ → Option ℕ → MessageShape
plain_shape fixed records least most = record {
  fixed = fixed;
  presence = Never;
  group = [];
  zeros = 0;
  count = 0;
  records = records;
  least = least;
  most = most;
}

abbrev pub plain_contents : List ℕ → List (List ℕ) → List Bool → Contents
plain_contents fixed columns rest = record {
  fixed = fixed;
  group = None;
  octets = [];
  columns = columns;
  rest = rest;
}

-- the contents that bits spell: the fixed fields, as many records as fit, and the bits after them
abbrev pub list_said : List ℕ → List ℕ → List Bool → Contents
list_said fixed records bits =
    let w = drop (total_width fixed) bits in
    let n = count_in records (length w) in
    plain_contents (values_at fixed bits) (columns_in records n w)
    (drop (n * total_width records) w)

-- whether `count` bits can spell contents of such a layout: the fixed fields, enough records, and
-- no more bits after them than the layout allows
abbrev pub has_length : MessageShape → ℕ → Bool
has_length s count =
    let left = count - total_width s.fixed in
    let n = count_in s.records left in
    nat_le (total_width s.fixed) count
    && (nat_le s.least n && is_few s.most (left - n * total_width s.records))

-- Numbers of the fields of records, column by column.
use Rattle.message_layout.specs.Common.{in_widths, total_width, column_at, Field}
use Rattle.std.specs.Prelude.{ℕ, zero, suc, ◌/◌, if◌then◌else◌, List, [], ◌∷◌, ◌++◌, Bool, length}
use Rattle.std.specs.Prelude.{map, take, drop, get_or, nat_lt}

-- the first number of a column, and the others
abbrev pub head : List ℕ → ℕ
head column = get_or column 0 0

abbrev pub tail : List ℕ → List ℕ
tail column = drop 1 column

-- the fields of the first n records, each number in the width of its column
abbrev pub record_fields : List ℕ → ℕ → List (List ℕ) → List Field
record_fields widths zero columns = []
record_fields widths (suc n) columns =
    in_widths widths (map head columns) ++ record_fields widths n (map tail columns)

-- the numbers of record i
abbrev pub record_at : ℕ → List (List ℕ) → List ℕ
record_at i columns = map (λ column. get_or column i 0) columns

-- the number of records
abbrev pub height : List (List ℕ) → ℕ
height columns = length (get_or columns 0 [])

-- the length of column j if there are n records of these fields
abbrev pub share : List ℕ → ℕ → ℕ → ℕ
share widths n j = if nat_lt j (length widths) then n else 0

abbrev pub shares : List ℕ → ℕ → List ℕ
shares widths n = share widths n 0 ∷ share widths n 1 ∷ share widths n 2 ∷ []

-- the number of records that fit into `bits` bits
abbrev pub count_in : List ℕ → ℕ → ℕ
count_in [] bits = 0
count_in (width ∷ widths) bits = bits / total_width (width ∷ widths)

-- the numbers of column j in the first n records
abbrev pub column_in : List ℕ → ℕ → ℕ → List Bool → List ℕ
column_in widths n j bits =
    if nat_lt j (length widths)
    then column_at (total_width widths) (total_width (take j widths)) (get_or widths j 0) n bits
    else []

abbrev pub columns_in : List ℕ → ℕ → List Bool → List (List ℕ)
columns_in widths n bits =
    column_in widths n 0 bits ∷ column_in widths n 1 bits ∷ column_in widths n 2 bits ∷ []

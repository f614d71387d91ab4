-- Numeric fields that follow one another in a line.
use Rattle.std.specs.Prelude.{ℕ, List, [], ◌∷◌, length, map, get_or, ◌<◌, ◌≤◌, ◌^◌, ◌-◌, ◌++◌, ◌+◌}
use Rattle.std.specs.Prelude.{codes, Option, Some}
use Rattle.sync_message.specs.Rows.{sync_names, sync_widths}
use Rattle.cell_script.specs.ScriptFields.{◌>>=◌, script_field, past}
use Rattle.line_text.specs.StatedValues.{number_up_to}

-- a field that holds a number: its key, and the greatest number
pub record NumberRow : Type 0 where
  pub key : List ℕ
  pub most : ℕ

abbrev pub number_row : List ℕ → ℕ → NumberRow
number_row key most = record { key = key; most = most }

-- the text before the value of a field with this name
abbrev pub key_of : List ℕ → List ℕ
key_of name = codes " " ++ name ++ codes "="

-- a field of a message by its name, with the range of its width
abbrev pub ranged : List ℕ → ℕ → NumberRow
ranged name width = number_row (key_of name) (2 ^ width - 1)

-- field i of the sync message's table
abbrev pub sync_row : ℕ → NumberRow
sync_row i = ranged (get_or sync_names i []) (get_or sync_widths i 0)

-- four adjacent fields of that table, from field `first` on
abbrev pub rows_from : ℕ → List NumberRow
rows_from first = map sync_row (first ∷ (first + 1) ∷ (first + 2) ∷ (first + 3) ∷ [])

-- the fields that a `sync` line always has, by their places in the message's table: those on the
-- protocol and the network, and those on local time and the paging channel
abbrev pub network_rows : List NumberRow
network_rows = rows_from 0

abbrev pub local_rows : List NumberRow
local_rows = rows_from 7

-- the numbers of fields that follow one another, and the text after them
unfoldable pub numbers_in : List NumberRow → List ℕ → Option (List ℕ)
numbers_in [] text = Some []
numbers_in (f ∷ fields) text = do
  number ← script_field f.key (number_up_to f.most) text
  numbers ← numbers_in fields (past f.key text)
  Some (number ∷ numbers)

unfoldable pub past_numbers : List NumberRow → List ℕ → List ℕ
past_numbers [] text = text
past_numbers (f ∷ fields) text = past_numbers fields (past f.key text)

-- numbers, each at most the greatest of its field
abbrev pub mosts : List NumberRow → List ℕ
mosts fields = map (λ (f : NumberRow). f.most) fields

abbrev pub AreUpTo : List NumberRow → List ℕ → Type 0
AreUpTo fields numbers = (k : ℕ) → k < length fields →
    get_or numbers k 0 ≤ get_or (mosts fields) k 0

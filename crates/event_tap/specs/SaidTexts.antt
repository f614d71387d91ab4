-- The contents of messages in lines, by the names of their layouts.
use Rattle.event_tap.specs.Common.{places, bit_text, spaced_key}
use Rattle.std.specs.Prelude.{ℕ, ◌≡◌, ◌+◌, ◌*◌, ◌/◌, ◌^◌, ◌==◌, ◌≢◌, ◌<◌, ◌≤◌, ◌&&◌, if◌then◌else◌}
use Rattle.std.specs.Prelude.{Bool, true, List, [], ◌∷◌, ◌++◌, length, map, get_or, nat_le, nat_lt}
use Rattle.std.specs.Prelude.{codes, decimal, Option, None, Some}
use Rattle.std.specs.List.{list_all}
use Rattle.std.specs.Str.{IsAscii}
use Rattle.message_layout.specs.Contents.{height, shares}
use Rattle.message_layout.specs.Shapes.{line_names, shape, LineNames, MessageShape}
use Rattle.message_layout.specs.Spelling.{IsOf}
use Rattle.message_layout.specs.declared.contents.Contents.{Contents}
use Rattle.message_layout.specs.declared.layout.MessageLayout.{MessageLayout}
use Rattle.event_tap.specs.Parts.{are_short, commas, named_values, rest_text}

-- a slash and the number of record i in a further column, if records have that column
abbrev pub slash_text : ℕ → List ℕ → List ℕ
slash_text i column =
    if nat_lt i (length column) then codes "/" ++ decimal (get_or column i 0) else []

-- the numbers of record i, joined by slashes
abbrev pub columns_text : List (List ℕ) → ℕ → List ℕ
columns_text columns i =
    decimal (get_or (get_or columns 0 []) i 0) ++ slash_text i (get_or columns 1 [])
    ++ slash_text i (get_or columns 2 [])

-- the records in order
abbrev pub columns_texts : List (List ℕ) → List (List ℕ)
columns_texts columns = map (columns_text columns) (places (height columns))

-- ` NAME=R,R,..`, if the layout has records
abbrev pub list_text : List ℕ → List ℕ → List (List ℕ) → List ℕ
list_text name widths columns =
    if length widths == 0 then [] else spaced_key name ++ commas (columns_texts columns)

-- ` WORD NAME=.. NAME=.. LIST=R,R,.. rest=BITS` and LF: the layout's name, each fixed field after
-- its name, the records, and the remaining bits
unfoldable pub said_text : LineNames → List ℕ → Contents → List ℕ
said_text names widths c =
    codes " " ++ names.word ++ named_values names.fixed c.fixed
    ++ list_text names.list widths c.columns ++ rest_text c.rest

-- ` other type=K bits=BITS` and LF
unfoldable pub kind_text : ℕ → List Bool → List ℕ
kind_text kind bits =
    codes " other type=" ++ decimal kind ++ codes " bits=" ++ bit_text bits ++ codes "\n"

-- the text of a message: its contents by these names, or its type and bits if there is no name
unfoldable pub message_text : ℕ → LineNames → List ℕ → Contents → List ℕ
message_text kind names widths c =
    if length names.word == 0 then kind_text kind c.rest else said_text names widths c

-- HOW LONG IT IS
-- the most digits of a number of n bits
abbrev pub digits_in : ℕ → ℕ
digits_in width = width * 3 / 10 + 1

-- whether such a number has at most 32 bits and at most that many digits
abbrev pub is_short_width : ℕ → Bool
is_short_width width = nat_le (2 ^ width) (2 ^ 32) && nat_le (2 ^ width) (10 ^ digits_in width)

-- the most bytes that field j of a record takes, with the slash or comma before it
abbrev pub field_bytes : List ℕ → ℕ → ℕ
field_bytes widths j = if nat_lt j (length widths) then digits_in (get_or widths j 0) + 1 else 0

-- the most bytes that a record takes
abbrev pub record_bytes : List ℕ → ℕ
record_bytes widths = field_bytes widths 0 + field_bytes widths 1 + field_bytes widths 2

-- each record of a list has the same fields, whose numbers have at most that many bits and digits
pub record FillColumns (widths : List ℕ) (columns : List (List ℕ)) : Type 0 where
  pub some : 1 ≤ length widths
  pub few : length widths ≤ 3
  pub even : map length columns ≡ shares widths (height columns)
  pub fit : (i j : ℕ) → i < height columns → j < length widths →
      get_or (get_or columns j []) i 0 < 2 ^ get_or widths j 0
  pub short : list_all is_short_width widths ≡ true

-- the most bytes that 128 records take, with their name
abbrev pub list_bytes : List ℕ → List ℕ → ℕ
list_bytes name widths = length name + 2 + 128 * record_bytes widths

-- the most bytes that the remaining bits take, with the text before and after them
abbrev pub end_bytes : Option ℕ → ℕ
end_bytes None = 309
end_bytes (Some most) = 44

abbrev pub is_short_end : Option ℕ → Bool
is_short_end None = true
is_short_end (Some most) = nat_le most 7

-- tests whether the text of such a layout with these names fits in a line after 95 bytes
abbrev pub line_tests : LineNames → MessageShape → List Bool
line_tests names s =
    are_short names.fixed s.fixed
    ∷ list_all (λ byte. nat_lt byte 128) names.word
    ∷ list_all (λ byte. nat_lt byte 128) names.list
    ∷ nat_le (length s.records) 3
    ∷ list_all is_short_width s.records
    ∷ is_short_end s.most
    ∷ nat_le (96 + length names.word + 16 * length s.fixed + list_bytes names.list s.records
    + end_bytes s.most) 1024
    ∷ []

unfoldable pub has_line : LineNames → MessageShape → Bool
has_line names s = list_all (λ test. test) (line_tests names s)

-- what holds for the contents of a layout that passes these tests
pub record IsShown (layout : MessageLayout) (c : Contents) : Type 0 where
  pub said : IsOf (shape layout) c
  pub word : IsAscii layout.name.now
  pub list : IsAscii layout.records.name.now
  pub short : are_short (line_names layout).fixed (shape layout).fixed ≡ true
  pub records : length layout.records.fields.now ≢ 0 → FillColumns (shape layout).records c.columns
  pub end : is_short_end layout.most ≡ true
  pub some : 44 ≤ end_bytes layout.most
  pub room : 96 + length layout.name.now + 16 * length layout.fixed.now
      + list_bytes layout.records.name.now (shape layout).records + end_bytes layout.most ≤ 1024

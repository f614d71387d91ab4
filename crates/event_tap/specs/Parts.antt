-- Parts that lines of messages share: values after their names, items joined by commas, the bits at
-- the end of a line, and the lines of raw capsules.
use Rattle.event_tap.specs.Common.{bit_text, spaced_key}
use Rattle.std.specs.Prelude.{ℕ, zero, suc, ◌^◌, ◌&&◌, Bool, List, [], ◌∷◌, ◌++◌, length, codes}
use Rattle.std.specs.Prelude.{decimal, nat_lt}
use Rattle.std.specs.List.{flat_map, list_all}

-- items, joined by commas
unfoldable pub commas : List (List ℕ) → List ℕ
commas [] = []
commas (item ∷ items) = item ++ flat_map (λ next. codes "," ++ next) items

-- the text before item i of a list, counted from 0: a comma, but nothing before the first
abbrev pub comma_before : ℕ → List ℕ
comma_before zero = []
comma_before (suc i) = codes ","

-- ` rest=BITS` and LF, the end of a line
abbrev pub rest_text : List Bool → List ℕ
rest_text bits = codes " rest=" ++ bit_text bits ++ codes "\n"

-- values, each after its name
unfoldable pub named_values : List (List ℕ) → List ℕ → List ℕ
named_values [] values = []
named_values (name ∷ names) [] = []
named_values (name ∷ names) (value ∷ values) =
    (spaced_key name ++ decimal value) ++ named_values names values

-- whether each name has at most seven ASCII bytes, and the values of fields of these widths have at
-- most seven digits
unfoldable pub are_short : List (List ℕ) → List ℕ → Bool
are_short names widths =
    list_all (λ name. list_all (λ byte. nat_lt byte 128) name && nat_lt (length name) 8) names
    && list_all (λ width. nat_lt (2 ^ width) (10 ^ 7)) widths

-- `raw at=A CHANNEL BITS` and LF
abbrev pub capsule_line : List ℕ → ℕ → List Bool → List ℕ
capsule_line channel place capsule =
    codes "raw at=" ++ decimal place ++ channel ++ bit_text capsule ++ codes "\n"

-- The bits that spell the contents of a layout.
use Rattle.message_layout.specs.Common.{field, spelled, in_widths, FieldsFit, Field, Contents}
use Rattle.message_layout.specs.Common.{Presence, Never, Flagged, UnlessLeft}
use Rattle.std.specs.Prelude.{ℕ, ◌≡◌, ◌/◌, ◌%◌, ◌^◌, ◌<◌, ◌≤◌, Bool, List, [], ◌∷◌, ◌++◌, length}
use Rattle.std.specs.Prelude.{map, Option, None, Some}
use Rattle.message_layout.specs.Contents.{height, record_fields, shares}
use Rattle.message_layout.specs.Shapes.{MessageShape}

-- the bit that says whether the group is present, if the layout has one, and the group
abbrev pub group_fields : Presence → List ℕ → Option (List ℕ) → List Field
group_fields Never widths group = []
group_fields Flagged widths None = field 1 0 ∷ []
group_fields Flagged widths (Some values) = field 1 1 ∷ in_widths widths values
group_fields (UnlessLeft count) widths None = []
group_fields (UnlessLeft count) widths (Some values) = in_widths widths values

-- zero bits, the number of octets, and the octets
abbrev pub octet_bits : ℕ → ℕ → List Bool → List Bool
octet_bits zeros count octets =
    spelled (field zeros 0 ∷ field count (length octets / 8) ∷ []) ++ octets

abbrev pub records_of : MessageShape → Contents → List Field
records_of s c = record_fields s.records (height c.columns) c.columns

-- the bits after the group
abbrev pub after_group : MessageShape → Contents → List Bool
after_group s c = octet_bits s.zeros s.count c.octets ++ (spelled (records_of s c) ++ c.rest)

unfoldable pub spelling : MessageShape → Contents → List Bool
spelling s c =
    spelled (in_widths s.fixed c.fixed)
    ++ (spelled (group_fields s.presence s.group c.group) ++ after_group s c)

-- each field has a value that fits
pub record HaveValues (widths values : List ℕ) : Type 0 where
  pub all : length values ≡ length widths
  pub fit : FieldsFit (in_widths widths values)

-- whether the group may be present or absent if `following` bits follow it
abbrev pub IsGroup : Presence → List ℕ → Option (List ℕ) → ℕ → Type 0
IsGroup Never widths group following = group ≡ None
IsGroup Flagged widths None following = Unit {0}
IsGroup Flagged widths (Some values) following = HaveValues widths values
IsGroup (UnlessLeft count) widths None following = following ≡ count
IsGroup (UnlessLeft count) widths (Some values) following = HaveValues widths values

-- at most the allowed number of bits is left
abbrev pub IsRest : Option ℕ → List Bool → Type 0
IsRest None rest = Unit {0}
IsRest (Some most) rest = length rest ≤ most

-- the contents have a spelling by the layout
pub record IsOf (s : MessageShape) (c : Contents) : Type 0 where
  pub fixed : HaveValues s.fixed c.fixed
  pub group : IsGroup s.presence s.group c.group (length (after_group s c))
  pub whole : length c.octets % 8 ≡ 0
  pub counted : length c.octets / 8 < 2 ^ s.count
  pub columns : map length c.columns ≡ shares s.records (height c.columns)
  pub records : FieldsFit (records_of s c)
  pub least : s.least ≤ height c.columns
  pub left : IsRest s.most c.rest

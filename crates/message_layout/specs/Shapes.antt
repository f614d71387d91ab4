-- Layouts of bodies as plain numbers: their fields and widths.
use Rattle.message_layout.specs.Common.{total_width, Presence, Never, Flagged, UnlessLeft}
use Rattle.std.specs.Prelude.{ℕ, ◌≤◌, ◌&&◌, Bool, true, false, List, [], ◌∷◌, length, map, nat_lt}
use Rattle.std.specs.Prelude.{nat_le, Option, None, Some}
use Rattle.message_layout.specs.declared.layout.MessageLayout.{MessageLayout}

-- the widths of the fields, and the sizes and bounds of the other parts
pub record MessageShape : Type 0 where
  pub fixed : List ℕ
  pub presence : Presence
  pub group : List ℕ
  pub zeros : ℕ
  pub count : ℕ
  pub records : List ℕ
  pub least : ℕ
  pub most : Option ℕ

-- the shape of a layout
abbrev pub shape : MessageLayout → MessageShape
shape layout = record {
  fixed = map (λ row. row.1) layout.fixed.now;
  presence = layout.group.presence;
  group = map (λ row. row.1) layout.group.fields.now;
  zeros = layout.octets.zeros;
  count = layout.octets.width;
  records = map (λ row. row.1) layout.records.fields.now;
  least = layout.records.least;
  most = layout.most;
}

-- the names in the line of such a body: its own, those of the fixed fields, and that of the list
pub record LineNames : Type 0 where
  pub word : List ℕ
  pub fixed : List (List ℕ)
  pub list : List ℕ

abbrev pub line_names : MessageLayout → LineNames
line_names layout = record {
  word = layout.name.now;
  fixed = map (λ row. row.0.now) layout.fixed.now;
  list = layout.records.name.now;
}

-- each width is 1 to `most`
abbrev pub are_widths : ℕ → List ℕ → Bool
are_widths most [] = true
are_widths most (width ∷ widths) = nat_le 1 width && (nat_le width most && are_widths most widths)

-- each width is at most 32
abbrev pub AreNarrow : List ℕ → Type 0
AreNarrow [] = Unit {0}
AreNarrow (width ∷ widths) = (width ≤ 32) × AreNarrow widths

-- the group has more bits than are left if it is absent
abbrev pub group_is_told : Presence → List ℕ → Bool
group_is_told Never group = true
group_is_told Flagged group = true
group_is_told (UnlessLeft count) group = nat_lt count (total_width group)

-- the rest is shorter than a record
abbrev pub ends : List ℕ → Option ℕ → Bool
ends [] most = true
ends (width ∷ widths) None = false
ends (width ∷ widths) (Some most) = nat_lt most (total_width (width ∷ widths))

-- the widths are allowed, all values have room, and a body determines where each of its parts ends
unfoldable pub is_lawful : MessageShape → Bool
is_lawful s =
    are_widths 64 s.fixed && (nat_le (length s.fixed) 48
    && (are_widths 64 s.group && (nat_le (length s.group) 48
    && (group_is_told s.presence s.group
    && (nat_le s.zeros 64 && (nat_le s.count 8
    && (are_widths 32 s.records && (nat_le (length s.records) 3 && ends s.records s.most))))))))

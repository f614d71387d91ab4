-- Fields of messages, and the bits that spell them.
use Rattle.std.specs.Prelude.{ℕ, ◌+◌, ◌^◌, ◌<◌, ◌≤◌, Bool, List, [], ◌∷◌, ◌++◌}
use Rattle.chip_core.specs.Bits.{binary}
use Rattle.chip_core.specs.declared.field.Field.{Field}

abbrev pub field : ℕ → ℕ → Field
field width value = record { width = width; value = value }

-- the bits of fields, one after another, each with its highest bit first
abbrev pub spelled : List Field → List Bool
spelled [] = []
spelled (f ∷ fs) = binary f.width f.value ++ spelled fs

-- each number fits the width of its field
abbrev pub FieldsFit : List Field → Type 0
FieldsFit [] = Unit {0}
FieldsFit (f ∷ fs) = (f.value < 2 ^ f.width) × FieldsFit fs

-- each field has 1 to 64 bits
abbrev pub HaveWidths : List Field → Type 0
HaveWidths [] = Unit {0}
HaveWidths (f ∷ fs) = (1 ≤ f.width) × (f.width ≤ 64) × HaveWidths fs

-- each number in a field of its width, as long as the shorter list
abbrev pub in_widths : List ℕ → List ℕ → List Field
in_widths [] values = []
in_widths (width ∷ widths) [] = []
in_widths (width ∷ widths) (value ∷ values) = field width value ∷ in_widths widths values

-- the number of bits in fields of these widths
abbrev pub total_width : List ℕ → ℕ
total_width [] = 0
total_width (width ∷ widths) = width + total_width widths

-- each width is 1 to 64
abbrev pub AreWidths : List ℕ → Type 0
AreWidths [] = Unit {0}
AreWidths (width ∷ widths) = (1 ≤ width) × (width ≤ 64) × AreWidths widths

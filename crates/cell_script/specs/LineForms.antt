-- Lines that state their fields in order: one table of keys and value forms defines how a line is
-- read and how it is written.
use Rattle.cell_script.specs.Common.{FieldForm}
use Rattle.std.specs.Prelude.{ℕ, ℤ, ◌≡◌, ◌≤◌, ◌<◌, ◌^◌, Bool, true, if◌then◌else◌, List, [], ◌∷◌}
use Rattle.std.specs.Prelude.{◌++◌, length, decimal, FitsSigned, Option, None, Some}
use Rattle.std.specs.Fmt.{signed_decimal}
use Rattle.std.specs.Int.{w16}
use Rattle.long_code.specs.LongCode.{IsState}
use Rattle.line_text.specs.Texts.{bit_text, digits_of, serial_digits, state_digits}
use Rattle.cell_script.specs.ScriptFields.{◌>>=◌, at_end, script_field, past}
use Rattle.line_text.specs.StatedValues.{bits_in_text, number_up_to, power_bits_in, signed_in}
use Rattle.line_text.specs.StatedValues.{serial_number_in, state_in}
use Rattle.cell_script.specs.declared.tables.FieldForm.TheVariants as forms

-- ---- values

-- how a value is written: in a form of the tables, as bits, or as power control bits
pub data TextForm : Type 0 where
  Tabled : FieldForm → TextForm
  BitList : TextForm
  SixteenDigits : TextForm

abbrev pub ValueOf : TextForm → Type 0
ValueOf (Tabled (forms.UpTo most)) = ℕ
ValueOf (Tabled forms.Signed) = ℤ
ValueOf (Tabled forms.State) = ℕ
ValueOf (Tabled forms.SerialNumber) = ℕ
ValueOf BitList = List Bool
ValueOf SixteenDigits = List Bool

-- the value that a text spells, the text of a value, and the range of the values
abbrev pub reader_of : (form : TextForm) → List ℕ → Option (ValueOf form)
reader_of (Tabled (forms.UpTo most)) = number_up_to most
reader_of (Tabled forms.Signed) = signed_in
reader_of (Tabled forms.State) = state_in
reader_of (Tabled forms.SerialNumber) = serial_number_in
reader_of BitList = bits_in_text
reader_of SixteenDigits = power_bits_in

abbrev pub writer_of : (form : TextForm) → ValueOf form → List ℕ
writer_of (Tabled (forms.UpTo most)) = decimal
writer_of (Tabled forms.Signed) = signed_decimal
writer_of (Tabled forms.State) = state_digits
writer_of (Tabled forms.SerialNumber) = serial_digits
writer_of BitList = bit_text
writer_of SixteenDigits = digits_of

abbrev pub IsIn : (form : TextForm) → ValueOf form → Type 0
IsIn (Tabled (forms.UpTo most)) n = n ≤ most
IsIn (Tabled forms.Signed) z = FitsSigned w16 z
IsIn (Tabled forms.State) n = IsState n
IsIn (Tabled forms.SerialNumber) n = n < 2 ^ 32
IsIn BitList bits = length bits ≤ 1184
IsIn SixteenDigits bits = length bits ≡ 16

-- ---- fields

-- a field: its key, with which it begins, and the form of its value
pub record StatementRow : Type 0 where
  pub key : List ℕ
  pub form : TextForm

abbrev pub valued : List ℕ → TextForm → StatementRow
valued key form = record { key = key; form = form }

abbrev pub formed : List ℕ → FieldForm → StatementRow
formed key form = valued key (Tabled form)

-- one value for each field
abbrev pub Values : List StatementRow → Type 0
Values [] = Unit {0}
Values (row ∷ rows) = ValueOf row.form × Values rows

-- the values of the fields at the beginning of a text, the text after them, and the text of fields
-- with such values
abbrev pub fields_in : (rows : List StatementRow) → List ℕ → Option (Values rows)
fields_in [] text = Some tt
fields_in (row ∷ rows) text = do
  value ← script_field row.key (reader_of row.form) text
  values ← fields_in rows (past row.key text)
  Some (value, values)

abbrev pub past_fields : List StatementRow → List ℕ → List ℕ
past_fields [] text = text
past_fields (row ∷ rows) text = past_fields rows (past row.key text)

abbrev pub fields_text : (rows : List StatementRow) → Values rows → List ℕ
fields_text [] values = []
fields_text (row ∷ rows) values =
    row.key ++ (writer_of row.form values.0 ++ fields_text rows values.1)

-- each value is in the range of its field
abbrev pub AreIn : (rows : List StatementRow) → Values rows → Type 0
AreIn [] values = Unit {0}
AreIn (row ∷ rows) values = IsIn row.form values.0 × AreIn rows values.1

-- ---- lines

-- the form of a line: its fields, which values are lawful together, the content that values state,
-- and the values that state a content
pub record LineForm (X : Type 0) : Type 0 where
  pub rows : List StatementRow
  pub lawful : Values rows → Bool
  pub line : Values rows → X
  pub said : X → Values rows

abbrev pub lawful_line : {X : Type 0} (form : LineForm X) → Values form.rows → Option X
lawful_line form values = if form.lawful values then Some (form.line values) else None

-- the content of a line of this form, with nothing after its last field, and the text of a content
abbrev pub read_as : {X : Type 0} → LineForm X → List ℕ → Option X
read_as form text = do
  values ← fields_in form.rows text
  line ← lawful_line form values
  at_end (past_fields form.rows text) line

abbrev pub written_as : {X : Type 0} → LineForm X → X → List ℕ
written_as form line = fields_text form.rows (form.said line)

-- a line of this form can state this content
pub record IsSaid {X : Type 0} (form : LineForm X) (line : X) : Type 0 where
  pub ranged : AreIn form.rows (form.said line)
  pub lawful : form.lawful (form.said line) ≡ true
  pub same : form.line (form.said line) ≡ line

-- The fields of a script's lines, read one after another.
use Rattle.std.specs.Prelude.{ℕ, ◌+◌, if◌then◌else◌, List, [], ◌∷◌, length, take, drop, ◌<◌, ◌≤◌, ℤ}
use Rattle.std.specs.Prelude.{◌^◌, Option, None, Some, map, get_or, set}
use Rattle.long_code.specs.LongCode.{IsState}
use Rattle.cell_script.specs.declared.tables.FieldForm.{FieldForm}
use Rattle.cell_script.specs.declared.tables.StatementField.{StatementField}
use Rattle.line_text.specs.StatedValues.{begins_with, length_before, number_up_to, serial_number_in}
use Rattle.line_text.specs.StatedValues.{signed_in, state_in}
use Rattle.cell_script.specs.declared.tables.FieldForm.TheVariants as forms

-- the text after a key, its part up to the next space, and its part from that space on
abbrev pub keyed : List ℕ → List ℕ → List ℕ
keyed key text = drop (length key) text

abbrev pub value_of : List ℕ → List ℕ → List ℕ
value_of key text = take (length_before 32 (keyed key text)) (keyed key text)

unfoldable pub past : List ℕ → List ℕ → List ℕ
past key text = drop (length_before 32 (keyed key text)) (keyed key text)

-- the value of the field at the beginning of a text, as `read` reads it
unfoldable pub script_field : {A : Type 0} → List ℕ → (List ℕ → Option A) → List ℕ → Option A
script_field key read text = if begins_with text key then read (value_of key text) else None

infixl 10 ◌>>=◌
abbrev pub ◌>>=◌ : {A B : Type 0} → Option A → (A → Option B) → Option B
Some x >>= f = f x
None >>= f = None

-- the value, if the whole text was read
abbrev pub at_end : {A : Type 0} → List ℕ → A → Option A
at_end [] value = Some value
at_end (byte ∷ bytes) value = None

-- ---- fields by their forms

-- the reader of values of an unsigned form
abbrev pub unsigned_of : FieldForm → (List ℕ → Option ℕ)
unsigned_of (forms.UpTo most) = number_up_to most
unsigned_of forms.Signed = λ text. None
unsigned_of forms.State = state_in
unsigned_of forms.SerialNumber = serial_number_in

-- the reader of values of a signed form
abbrev pub signed_of : FieldForm → (List ℕ → Option ℤ)
signed_of (forms.UpTo most) = λ text. None
signed_of forms.Signed = signed_in
signed_of forms.State = λ text. None
signed_of forms.SerialNumber = λ text. None

-- in the range of an unsigned form
abbrev pub IsOfForm : FieldForm → ℕ → Type 0
IsOfForm (forms.UpTo most) n = n ≤ most
IsOfForm forms.Signed n = Unit {0}
IsOfForm forms.State n = IsState n
IsOfForm forms.SerialNumber n = n < 2 ^ 32

-- ---- lines by their tables

-- the values of the remaining fields of a line, from place k on, with nothing after the last
abbrev pub unsigned_from : ℕ → List ℕ → List StatementField → List ℕ → Option (List ℕ)
unsigned_from k values [] text = at_end text values
unsigned_from k values (row ∷ rows) text = do
  value ← script_field row.key.now (unsigned_of row.form) text
  unsigned_from (k + 1) (set values k value) rows (past row.key.now text)

-- the values of a line of at most four unsigned fields, and zeros after them
abbrev pub unsigned_line : List StatementField → List ℕ → Option (List ℕ)
unsigned_line rows text = unsigned_from 0 (0 ∷ 0 ∷ 0 ∷ 0 ∷ []) rows text

abbrev pub row_form : List StatementField → ℕ → FieldForm
row_form rows k = get_or (map (λ (row : StatementField). row.form) rows) k forms.Signed

-- each of the first `count` values is in the range of its field's form
abbrev pub AreOfForms : List StatementField → ℕ → List ℕ → Type 0
AreOfForms rows count values = (k : ℕ) → k < count → IsOfForm (row_form rows k) (get_or values k 0)

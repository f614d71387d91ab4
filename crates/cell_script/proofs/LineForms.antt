-- Lines by tables of fields: what is written is read back, and what is read can be written.
use Rattle.cell_script.proofs.Common.{AreIn, BitList, Bool, FitsSigned, IsIn, IsSaid, LineForm, List, SixteenDigits, Some, StatementRow, []}
use Rattle.cell_script.proofs.Common.{Tabled, TextForm, ValueOf, Values, and_parts, ap, arith, bit_text, cond_some, decimal, digits_of, pos}
use Rattle.cell_script.proofs.Common.{eqb-true, false, fields_in, fields_text, lawful_line, leb-true, length, length-append, length_before}
use Rattle.cell_script.proofs.Common.{ltb-true, nat_le, nat_lt, negsuc, past_fields, read_as, reader_of, refl, serial_digits, state_digits}
use Rattle.cell_script.proofs.Common.{signed_decimal, subst, suc, sym, true, w16, writer_of, written_as, ℕ, ℤ, ◌&&◌, ◌++◌, ◌+◌, ◌<◌, ◌==◌}
use Rattle.cell_script.proofs.Common.{◌^◌, ◌∙◌, ◌∷◌, ◌≡◌, ◌≤◌, before-none}
use Rattle.cell_script.proofs.ScriptBounds.{both_steps, ended, fields_ranged}
use Rattle.cell_script.proofs.SpelledBytes.{are_within, bit_text_short, bit_text_within, decimal_short, decimal_within, digits_of_long}
use Rattle.cell_script.proofs.SpelledBytes.{digits_of_within, serial_long, serial_within, state_long, state_within, within-append}
use Rattle.cell_script.proofs.SpelledBytes.{within-cons, within-wider}
use Rattle.cell_script.proofs.SpelledFields.{IsField, field_back, key_spaced}
use Rattle.cell_script.proofs.SpelledValues.{bits_back, number_back, power_bits_back, serial_back, signed_back, state_back}
use Rattle.cell_script.specs.declared.tables.FieldForm.TheVariants as forms

-- ---- values

-- a value has no space: a number, one with a sign, bits
pub number_word : (n : ℕ) → n < 2 ^ 64 → are_within 33 126 (decimal n) ≡ true
number_word n small = within-wider 48 57 33 126 (decimal n) (omega arith) (omega arith) (decimal_within n small)

signed_word : (z : ℤ) → FitsSigned w16 z → are_within 33 126 (signed_decimal z) ≡ true
signed_word (pos n) fits = number_word n (omega (arith, fits.sfits))
signed_word (negsuc n) fits =
    within-cons 33 126 45 (decimal (suc n)) (omega arith) (omega arith)
    (number_word (suc n) (omega (arith, fits.sfits)))

pub bits_word : (bits : List Bool) → length bits ≤ 1184 → are_within 33 126 (bit_text bits) ≡ true
bits_word bits few =
    within-wider 48 102 33 126 (bit_text bits) (omega arith) (omega arith) (bit_text_within bits (omega (arith, few)))

-- the numbers of a form have 64 bits
abbrev is_short : TextForm → Bool
is_short (Tabled (forms.UpTo most)) = nat_lt most (2 ^ 64)
is_short form = true

value_word : (form : TextForm) (x : ValueOf form) → is_short form ≡ true → IsIn form x →
    are_within 33 126 (writer_of form x) ≡ true
value_word (Tabled (forms.UpTo most)) n short is = number_word n (omega (arith, ltb-true most (2 ^ 64) short, is))
value_word (Tabled forms.Signed) z short is = signed_word z is
value_word (Tabled forms.State) n short is =
    within-wider 48 102 33 126 (state_digits n) (omega arith) (omega arith) (state_within n)
value_word (Tabled forms.SerialNumber) n short is =
    within-wider 48 102 33 126 (serial_digits n) (omega arith) (omega arith) (serial_within n)
value_word BitList bits short is = bits_word bits is
value_word SixteenDigits bits short is =
    within-wider 48 102 33 126 (digits_of bits) (omega arith) (omega arith) (digits_of_within bits)

-- a value in its range is read from its text
value_back : (form : TextForm) (x : ValueOf form) → is_short form ≡ true → IsIn form x →
    reader_of form (writer_of form x) ≡ Some x
value_back (Tabled (forms.UpTo most)) n short is = number_back most n (ltb-true most (2 ^ 64) short) is
value_back (Tabled forms.Signed) z short is = signed_back z is
value_back (Tabled forms.State) n short is = state_back n is
value_back (Tabled forms.SerialNumber) n short is = serial_back n is
value_back BitList bits short is = bits_back bits is
value_back SixteenDigits bits short is = power_bits_back bits is

-- how long its text is at most
abbrev pub width_of : (form : TextForm) → ValueOf form → ℕ
width_of (Tabled (forms.UpTo most)) n = 20
width_of (Tabled forms.Signed) z = length (signed_decimal z)
width_of (Tabled forms.State) n = 11
width_of (Tabled forms.SerialNumber) n = 8
width_of BitList bits = 28 + length bits
width_of SixteenDigits bits = 16

value_narrow : (form : TextForm) (x : ValueOf form) → is_short form ≡ true → IsIn form x →
    length (writer_of form x) ≤ width_of form x
value_narrow (Tabled (forms.UpTo most)) n short is = decimal_short n (omega (arith, ltb-true most (2 ^ 64) short, is))
value_narrow (Tabled forms.Signed) z short is = omega arith
value_narrow (Tabled forms.State) n short is = omega (arith, state_long n)
value_narrow (Tabled forms.SerialNumber) n short is = omega (arith, serial_long n)
value_narrow BitList bits short is = bit_text_short bits (omega (arith, is))
value_narrow SixteenDigits bits short is = omega (arith, digits_of_long bits, is)

-- ---- tables of fields

-- a key, a value and what is after it, in one line
pub keyed_within : (key value rest : List ℕ) → are_within 32 126 key ≡ true →
    are_within 33 126 value ≡ true → are_within 32 126 rest ≡ true → are_within 32 126 (key ++ (value ++ rest)) ≡ true
keyed_within key value rest keys values rests =
    within-append 32 126 key (value ++ rest) keys
    (within-append 32 126 value rest (within-wider 33 126 32 126 value (omega arith) (omega arith) values) rests)

-- a key that begins with a space, and fields that do so
abbrev is_spaced : List ℕ → Bool
is_spaced [] = false
is_spaced (byte ∷ bytes) = byte == 32

abbrev are_spaced : List StatementRow → Bool
are_spaced [] = true
are_spaced (row ∷ rows) = is_spaced row.key

-- keys of at most 20 printable bytes, each but the first with a space before it, and short numbers
abbrev is_keyed : StatementRow → Bool
is_keyed row = are_within 32 126 row.key && nat_le (length row.key) 20

abbrev pub are_sound : List StatementRow → Bool
are_sound [] = true
are_sound (row ∷ rows) = (is_keyed row && is_short row.form) && (are_spaced rows && are_sound rows)

record IsSound (row : StatementRow) (rows : List StatementRow) : Type 0 where
  key : are_within 32 126 row.key ≡ true
  least : length row.key ≤ 20
  short : is_short row.form ≡ true
  spaced : are_spaced rows ≡ true
  rest : are_sound rows ≡ true

sound_parts : (row : StatementRow) (rows : List StatementRow) → are_sound (row ∷ rows) ≡ true → IsSound row rows
sound_parts row rows sound =
    let both = and_parts (is_keyed row && is_short row.form) (are_spaced rows && are_sound rows) sound in
    let own = and_parts (is_keyed row) (is_short row.form) both.0 in
    let key = and_parts (are_within 32 126 row.key) (nat_le (length row.key) 20) own.0 in
    let more = and_parts (are_spaced rows) (are_sound rows) both.1 in
    record { key = key.0; least = leb-true (length row.key) 20 key.1; short = own.1; spaced = more.0; rest = more.1 }

spaced_key : (key rest : List ℕ) → is_spaced key ≡ true → length_before 32 (key ++ rest) ≡ 0
spaced_key [] rest is = absurd (cc is)
spaced_key (byte ∷ bytes) rest is =
    key_spaced (byte ∷ bytes) bytes rest (ap (λ (b : ℕ). b ∷ bytes) (eqb-true byte 32 is))

spaced_text : (rows : List StatementRow) (v : Values rows) → are_spaced rows ≡ true →
    length_before 32 (fields_text rows v) ≡ 0
spaced_text [] v is = before-none 32
spaced_text (row ∷ rows) v is = spaced_key row.key (writer_of row.form v.0 ++ fields_text rows v.1) is

-- all of a text is read by the fields of a table
abbrev AreRead : (rows : List StatementRow) → List ℕ → Values rows → Type 0
AreRead rows text v = (fields_in rows text ≡ Some v) × (past_fields rows text ≡ [])

first_read : (row : StatementRow) (rows : List StatementRow) (x : ValueOf row.form)
    (xs : Values rows) (text more : List ℕ) → IsField row.key (reader_of row.form) x text more →
    AreRead rows more xs → AreRead (row ∷ rows) text (x, xs)
first_read row rows x xs text more here rest = (rw (here.1, here.0, rest.0) refl, ap (past_fields rows) here.1 ∙ rest.1)

-- Values that are written by a table are read back by it, by induction over the table: each value's
-- text ends at the space of the next key, or with the line.
fields_back : (rows : List StatementRow) (v : Values rows) → are_sound rows ≡ true →
    AreIn rows v → AreRead rows (fields_text rows v) v
fields_back [] v sound are = (refl, refl)
fields_back (row ∷ rows) v sound are =
    let is = sound_parts row rows sound in
    let value = writer_of row.form v.0 in
    let more = fields_text rows v.1 in
    first_read row rows v.0 v.1 (row.key ++ (value ++ more)) more
    (field_back row.key value more (reader_of row.form) v.0
    (value_word row.form v.0 is.short are.0) (spaced_text rows v.1 is.spaced) (value_back row.form v.0 is.short are.0))
    (fields_back rows v.1 is.rest are.1)

-- they stand in one line
fields_within : (rows : List StatementRow) (v : Values rows) → are_sound rows ≡ true →
    AreIn rows v → are_within 32 126 (fields_text rows v) ≡ true
fields_within [] v sound are = refl
fields_within (row ∷ rows) v sound are =
    let is = sound_parts row rows sound in
    keyed_within row.key (writer_of row.form v.0) (fields_text rows v.1) is.key
    (value_word row.form v.0 is.short are.0) (fields_within rows v.1 is.rest are.1)

-- and that is short
abbrev pub room_of : (rows : List StatementRow) → Values rows → ℕ
room_of [] v = 0
room_of (row ∷ rows) v = 20 + (width_of row.form v.0 + room_of rows v.1)

pub fields_short : (rows : List StatementRow) (v : Values rows) → are_sound rows ≡ true →
    AreIn rows v → length (fields_text rows v) ≤ room_of rows v
fields_short [] v sound are = omega arith
fields_short (row ∷ rows) v sound are =
    let is = sound_parts row rows sound in
    let value = writer_of row.form v.0 in
    omega (
      arith,
      is.least,
      length-append row.key (value ++ fields_text rows v.1),
      length-append value (fields_text rows v.1),
      value_narrow row.form v.0 is.short are.0,
      fields_short rows v.1 is.rest are.1,
    )

-- ---- lines

-- a form whose table is sound, and whose lines keep the values that state them
pub record IsLineForm {X : Type 0} (form : LineForm X) : Type 0 where
  pub sound : are_sound form.rows ≡ true
  pub kept : (v : Values form.rows) → AreIn form.rows v → form.said (form.line v) ≡ v

read_whole : {X : Type 0} (form : LineForm X) (text : List ℕ) (v : Values form.rows) →
    AreRead form.rows text v → form.lawful v ≡ true → read_as form text ≡ Some (form.line v)
read_whole form text v told lawful = rw (told.1, told.0, lawful) refl

-- a line that can be written is read back, and has no LF
pub said_back : {X : Type 0} (form : LineForm X) (line : X) → IsLineForm form →
    IsSaid form line → read_as form (written_as form line) ≡ Some line
said_back form line is said =
    read_whole form (written_as form line) (form.said line)
    (fields_back form.rows (form.said line) is.sound said.ranged) said.lawful
    ∙ ap Some said.same

pub said_within : {X : Type 0} (form : LineForm X) (line : X) → IsLineForm form →
    IsSaid form line → are_within 32 126 (written_as form line) ≡ true
said_within form line is said = fields_within form.rows (form.said line) is.sound said.ranged

-- a line that is read can be written
pub line_said : {X : Type 0} (form : LineForm X) → IsLineForm form → (text : List ℕ) (line : X) →
    read_as form text ≡ Some line → IsSaid form line
line_said form is text =
    both_steps (fields_in form.rows _) _ λ v v_is.
    both_steps (lawful_line form v) _ λ made made_is line e.
    let are = fields_ranged form.rows _ v v_is in
    let told = cond_some (form.lawful v) (form.line v) made made_is in
    let kept = is.kept v are in
    subst (IsSaid form) (told.1 ∙ ended _ made line e)
    (record {
      ranged = subst (AreIn form.rows) (sym kept) are;
      lawful = ap form.lawful kept ∙ told.0;
      same = ap form.line kept;
    })

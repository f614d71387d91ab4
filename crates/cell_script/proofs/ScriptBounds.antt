-- What the texts of a script's fields spell is in the ranges of the fields.
use Rattle.cell_script.proofs.Common.{AreIn, AreUpTo, BitList, Bool, IsIn, IsState, List, None, NumberRow, Option, SixteenDigits, Some, []}
use Rattle.cell_script.proofs.Common.{StatementRow, Tabled, TextForm, ValueOf, Values, all_clear, ap, arith, as_state, at_end, begins_with}
use Rattle.cell_script.proofs.Common.{binary_digit, bits_in_text, codes, cond, cond_some, digits_after, drop, eqb-false, eqb-true, false, ℕ}
use Rattle.cell_script.proofs.Common.{fields_in, hex_bits, hex_digit, hex_from, leb-true, length, length-append, length-take, length_before}
use Rattle.cell_script.proofs.Common.{ltb-true, nat_le, nat_lt, number_in, number_up_to, numbers_in, option_and_then, past, power_bits_in}
use Rattle.cell_script.proofs.Common.{reader_of, refl, same_Some, script_field, serial_number_in, state_in, subst, suc, sym, take, true}
use Rattle.cell_script.proofs.Common.{text_after, unpadded, up_to, value_of, zero, ◌*◌, ◌++◌, ◌+◌, ◌<◌, ◌==◌, ◌^◌, ◌∙◌, ◌∷◌, ◌≡◌, ◌≤◌}
use Rattle.cell_script.proofs.Common.{digit_value, one_signed_numeral, hex_digit_more, hex_from-none}
use Rattle.cell_script.specs.declared.tables.FieldForm.TheVariants as forms

-- ---- steps that may fail

-- a step that may fail and the steps after it, as the statements' readings have them
abbrev pub step : {A B : Type 0} → Option A → (A → Option B) → Option B
step (Some x) f = f x
step None f = None

-- what holds of each value of the steps after holds of each value of all
pub both_steps : {A B : Type 0} {P : B → Type 0} (o : Option A) (f : A → Option B) →
    ((x : A) → o ≡ Some x → (y : B) → f x ≡ Some y → P y) → (y : B) → step o f ≡ Some y → P y
both_steps (Some x) f has y e = has x refl y e
both_steps None f has y e = absurd (cc e)

-- both steps gave a value
pub tried : {A B : Type 0} (f : A → Option B) (o : Option A) (y : B) → option_and_then f o ≡ Some y →
    (x : A) × (o ≡ Some x) × (f x ≡ Some y)
tried f (Some x) y e = (x, refl, e)
tried f None y e = absurd (cc e)

-- the test held
pub passed : {A : Type 0} (test : Bool) (o : Option A) (x : A) → cond test o None ≡ Some x → o ≡ Some x
passed true o x e = e
passed false o x e = absurd (cc e)

-- the whole text was read
pub ended : {A : Type 0} (text : List ℕ) (value x : A) → at_end text value ≡ Some x → value ≡ x
ended [] value x e = same_Some value x e
ended (byte ∷ bytes) value x e = absurd (cc e)

-- both parts of a test and its step, and a test that failed
tested_step : {A : Type 0} (test : Bool) (o : Option A) (x : A) → cond test o None ≡ Some x →
    (test ≡ true) × (o ≡ Some x)
tested_step true o x e = (refl, e)
tested_step false o x e = absurd (cc e)

untested : {A : Type 0} (test : Bool) (o : Option A) (x : A) → cond test None o ≡ Some x → o ≡ Some x
untested true o x e = absurd (cc e)
untested false o x e = e

-- ---- values

number_most : (most : ℕ) (text : List ℕ) (n : ℕ) → number_up_to most text ≡ Some n → n ≤ most
unfolding number_up_to
number_most most text n e =
    let told = tried (up_to most) (number_in text) n e in
    let test = cond_some (nat_le told.0 most) told.0 n told.2 in
    omega (arith, leb-true told.0 most test.0, test.1)

state_some : (n state : ℕ) (none : Bool) → (n == 0) ≡ none →
    cond none None (cond (nat_lt n (2 ^ 42)) (Some n) None) ≡ Some state → IsState state
state_some n state true is e = absurd (cc e)
state_some n state false is e =
    let told = cond_some (nat_lt n (2 ^ 42)) n state e in
    let below : n < 2 ^ 42 = ltb-true n (2 ^ 42) told.0 in
    let other : ¬ (n ≡ 0) = eqb-false n 0 is in
    (omega (arith, told.1, other), omega (arith, told.1, below))

state_read : (text : List ℕ) (state : ℕ) → state_in text ≡ Some state → IsState state
unfolding state_in
state_read text state e =
    let told = tried as_state (hex_from 0 text) state
    (passed (length text == 11) (option_and_then as_state (hex_from 0 text)) state e) in
    state_some told.0 state (told.0 == 0) refl told.2

digit_most : (byte value : ℕ) → hex_digit byte ≡ Some value → value < 16
digit_most byte value e =
    let told = cond_some (nat_lt (digit_value byte) 16) (digit_value byte) value e in
    omega (arith, ltb-true (digit_value byte) 16 told.0, told.1)

-- By induction over the digits, hex digits that follow a number below 16^k spell one below 16 to
-- the power of k plus their count: each value is below 16, so each digit adds one to the exponent.
hex_most : (text : List ℕ) (k most number n : ℕ) → most ≡ k + length text → number < 16 ^ k →
    hex_from number text ≡ Some n → n < 16 ^ most
unfolding hex_from
hex_most [] k most number n is small e =
    let same : most ≡ k = omega (arith, is) in
    subst (λ (m : ℕ). n < 16 ^ m) (sym same)
    (subst (λ (m : ℕ). m < 16 ^ k) (same_Some number n (sym (hex_from-none number) ∙ e)) small)
hex_most (digit ∷ digits) k most number n is small e =
    let told = tried (λ (value : ℕ). hex_from (16 * number + value) digits) (hex_digit digit) n e in
    let below = digit_most digit told.0 told.1 in
    hex_most digits (k + 1) most (16 * number + told.0) n (omega (arith, is))
    (hex_digit_more number (16 * number + told.0) k small (omega (arith, below))) told.2

serial_most : (text : List ℕ) (n : ℕ) → serial_number_in text ≡ Some n → n < 2 ^ 32
unfolding serial_number_in
serial_most text n e =
    let told = tested_step (length text == 8) (hex_from 0 text) n e in
    let long : length text ≡ 8 = eqb-true (length text) 8 told.0 in
    let below : n < 16 ^ 8 = hex_most text 0 8 0 n (omega (arith, long)) (omega arith) told.1 in
    omega (arith, below)

digits_long : (digits : List ℕ) (bits all : List Bool) → digits_after bits digits ≡ Some all →
    length all ≡ length bits + length digits
unfolding digits_after
digits_long [] bits all e = omega (arith, ap length (same_Some bits all e))
digits_long (digit ∷ digits) bits all e =
    let told = tried (λ (bit : Bool). digits_after (bits ++ bit ∷ []) digits) (binary_digit digit)
    all e in
    omega (arith, digits_long digits (bits ++ told.0 ∷ []) all told.2, length-append bits (told.0 ∷ []))

power_bits_long : (text : List ℕ) (bits : List Bool) → power_bits_in text ≡ Some bits → length bits ≡ 16
unfolding power_bits_in
power_bits_long text bits e =
    let told = tested_step (length text == 16) (digits_after [] text) bits e in
    let long : length text ≡ 16 = eqb-true (length text) 16 told.0 in
    omega (arith, digits_long text [] bits told.1, long)

bits_unpadded : (count : ℕ) (all bits : List Bool) → unpadded count all ≡ Some bits → length bits ≤ count
bits_unpadded count all bits e =
    let enough = untested (nat_lt (length all) count) _ bits e in
    let told = tested_step (all_clear (drop count all)) (Some (take count all)) bits
    (untested (nat_le (count + 8) (length all)) _ bits enough) in
    omega (arith, ap length (same_Some (take count all) bits told.1), length-take count all)

bits_few : (text : List ℕ) (bits : List Bool) → bits_in_text text ≡ Some bits → length bits ≤ 1184
unfolding bits_in_text
bits_few text bits e =
    let following = text_after (codes ":") (drop (length_before 58 text) text) in
    let counted = tried
    (λ (n : ℕ). option_and_then (λ (digits : List ℕ). option_and_then (unpadded n) (hex_bits digits)) following)
    (number_up_to 1184 (take (length_before 58 text) text)) bits e in
    let spelled = tried (λ (digits : List ℕ). option_and_then (unpadded counted.0) (hex_bits digits)) following bits
    counted.2 in
    let all = tried (unpadded counted.0) (hex_bits spelled.0) bits spelled.2 in
    omega (
      arith,
      number_most 1184 (take (length_before 58 text) text) counted.0 counted.1,
      bits_unpadded counted.0 all.0 bits all.2,
    )

-- the value that a text spells in a form is in its range
value_ranged : (form : TextForm) (text : List ℕ) (x : ValueOf form) → reader_of form text ≡ Some x → IsIn form x
value_ranged (Tabled (forms.UpTo most)) text n e = number_most most text n e
value_ranged (Tabled forms.Signed) text z e = ((one_signed_numeral z text).0 e).1
value_ranged (Tabled forms.State) text n e = state_read text n e
value_ranged (Tabled forms.SerialNumber) text n e = serial_most text n e
value_ranged BitList text bits e = bits_few text bits e
value_ranged SixteenDigits text bits e = power_bits_long text bits e

-- ---- fields

-- the value of a field is read from its text
pub field_read : {A : Type 0} (key : List ℕ) (read : List ℕ → Option A) (text : List ℕ) (x : A) →
    script_field key read text ≡ Some x → read (value_of key text) ≡ Some x
unfolding script_field
field_read key read text x e = passed (begins_with text key) (read (value_of key text)) x e

-- so are the values of fields that follow one another
pub fields_ranged : (rows : List StatementRow) (text : List ℕ) (v : Values rows) →
    fields_in rows text ≡ Some v → AreIn rows v
fields_ranged [] text = λ v e. tt
fields_ranged (row ∷ rows) text =
    both_steps (script_field row.key (reader_of row.form) _) _ λ x x_is.
    both_steps (fields_in rows _) _ λ xs xs_is v e.
    subst (AreIn (row ∷ rows)) (same_Some (x, xs) v e) (
      value_ranged row.form _ x (field_read row.key (reader_of row.form) _ x x_is),
      fields_ranged rows _ xs xs_is,
    )

pub number_field : (key : List ℕ) (most : ℕ) (text : List ℕ) (n : ℕ) →
    script_field key (number_up_to most) text ≡ Some n → n ≤ most
number_field key most text n e = number_most most (value_of key text) n (field_read key (number_up_to most) text n e)

first_up_to : (f : NumberRow) (fields : List NumberRow) (n : ℕ) (ns : List ℕ) → n ≤ f.most → AreUpTo fields ns →
    AreUpTo (f ∷ fields) (n ∷ ns)
first_up_to f fields n ns first rest zero inside = first
first_up_to f fields n ns first rest (suc k) inside = rest k (omega (arith, inside))

-- so are the numbers of fields that follow one another
pub numbers_up_to : (fields : List NumberRow) (text numbers : List ℕ) →
    numbers_in fields text ≡ Some numbers → AreUpTo fields numbers
unfolding numbers_in
numbers_up_to [] text = λ numbers e k inside. absurd (omega (arith, inside))
numbers_up_to (f ∷ fields) text =
    both_steps (script_field f.key (number_up_to f.most) _) _ λ n n_is.
    both_steps (numbers_in fields _) _ λ ns ns_is numbers e.
    subst (AreUpTo (f ∷ fields)) (same_Some (n ∷ ns) numbers e)
    (first_up_to f fields n ns (number_field f.key f.most text n n_is)
    (numbers_up_to fields (past f.key text) ns ns_is))

-- A number has one spelling: the one that is printed.
use Rattle.line_text.proofs.Common.{◌≡◌, ℕ, zero, suc, ◌+◌, ◌*◌, ◌-◌, ◌^◌, ◌<◌, ◌≤◌, ◌==◌, Bool, true, false, cond, not, List, [], ◌∷◌, sym}
use Rattle.line_text.proofs.Common.{length, get_or, refl, ap, subst, ◌∙◌, arith, rules, Option, None, Some, decimal, ℤ, pos, negsuc, codes}
use Rattle.line_text.proofs.Common.{FitsSigned, nat_le, nat_lt, option_and_then, ◌↔◌, w16, all_ascii_digits}
use Rattle.std.specs.Fmt.{signed_decimal}
use Rattle.std.specs.Char.{is_ascii_digit}
use Rattle.std.proofs.lemmas.Bool.{cond-true, cond-false, eq-eqb, eqb-true, false≢true, le-leb, leb-true, ltb-true, ltb-false, not-true}
use Rattle.std.proofs.lemmas.Bool.{and_parts}
use Rattle.std.proofs.Math.Dec.{eqb-suc-zero}
use Rattle.std.proofs.lemmas.Str.Parse.{IsNumeralModel, numerals_by_fold}
use Rattle.std.proofs.lemmas.Fmt.{decimal-digits_value, digits_decimal, digits_value-decimal, decimal_nonempty, first_decimal}
use Rattle.std.proofs.lemmas.Fmt.{length-decimal-le}
use Rattle.chip_core.specs.Decimals.{digits_from}
use Rattle.line_text.specs.StatedValues.{text_after, is_plain, negative, number_in, number_up_to, positive, signed_after, signed_in, up_to}

-- the value of digits after a number
abbrev pub read_on : ℕ → List ℕ → ℕ
read_on n [] = n
read_on n (digit ∷ digits) = read_on (10 * n + (digit - 48)) digits

-- so digits are read
pub own_numerals : IsNumeralModel (λ ds. all_ascii_digits ds ≡ true) (read_on 0)
own_numerals = numerals_by_fold _ (search rules) read_on (search rules)

digits_from-read : (n : ℕ) (ds : List ℕ) → all_ascii_digits ds ≡ true → digits_from n ds ≡ Some (read_on n ds)
unfolding digits_from
digits_from-read n [] are = refl
digits_from-read n (digit ∷ digits) are =
    let both = and_parts (is_ascii_digit digit) (all_ascii_digits digits) are in
    cond-true _ _ _ both.0 ∙ digits_from-read (10 * n + (digit - 48)) digits both.1

digits_told : (n m digit : ℕ) (digits : List ℕ) (is : Bool) → is_ascii_digit digit ≡ is →
    cond (is_ascii_digit digit) (digits_from (10 * n + (digit - 48)) digits) None ≡ Some m →
    (digits_from (10 * n + (digit - 48)) digits ≡ Some m →
    (all_ascii_digits digits ≡ true) × (read_on (10 * n + (digit - 48)) digits ≡ m)) →
    (all_ascii_digits (digit ∷ digits) ≡ true) × (read_on n (digit ∷ digits) ≡ m)
digits_told n m digit digits true e some rest =
    let told = rest (sym (cond-true _ _ _ e) ∙ some) in
    (rw e told.0, told.1)
digits_told n m digit digits false e some rest =
    absurd (cc (cond-false _ (digits_from (10 * n + (digit - 48)) digits) None e, some))

read-digits_from : (n m : ℕ) (ds : List ℕ) → digits_from n ds ≡ Some m →
    (all_ascii_digits ds ≡ true) × (read_on n ds ≡ m)
unfolding digits_from
read-digits_from n m [] some = (refl, cc some)
read-digits_from n m (digit ∷ digits) some =
    digits_told n m digit digits (is_ascii_digit digit) refl some
    (λ e. read-digits_from (10 * n + (digit - 48)) m digits e)

-- ---- no zero before others

abbrev IsPlain : List ℕ → Type 0
IsPlain text = (0 < length text) × (get_or text 0 0 ≡ 48 → length text ≡ 1)

plain_long : (text : List ℕ) (few : Bool) → cond few (not (get_or text 0 0 == 48)) false ≡ true →
    ¬ (get_or text 0 0 ≡ 48)
plain_long text true test is = false≢true (sym (not-true (get_or text 0 0 == 48) test) ∙ eq-eqb (get_or text 0 0) 48 is)
plain_long text false test is = false≢true test

plain_told : (text : List ℕ) (short : Bool) → nat_lt (length text) 2 ≡ short → is_plain text ≡ true → IsPlain text
plain_told text true short test =
    let one = eqb-true (length text) 1 (sym (cond-true _ _ _ short) ∙ test) in
    (omega (arith, one), λ _. one)
plain_told text false long test =
    let two = ltb-false (length text) 2 long in
    let other = plain_long text (nat_le (length text) 20) (sym (cond-false _ _ _ long) ∙ test) in
    (omega (arith, two), λ is. absurd (other is))

first_other : (text : List ℕ) (zero : Bool) → (get_or text 0 0 == 48) ≡ zero →
    (get_or text 0 0 ≡ 48 → length text ≡ 1) → 2 ≤ length text → not (get_or text 0 0 == 48) ≡ true
first_other text true is lead two = absurd (omega (arith, lead (eqb-true (get_or text 0 0) 48 is), two))
first_other text false is lead two = ap not is

plain_from : (text : List ℕ) (short : Bool) → nat_lt (length text) 2 ≡ short → IsPlain text →
    length text ≤ 20 → is_plain text ≡ true
plain_from text true short is few =
    let below = ltb-true (length text) 2 short in
    cond-true _ _ _ short ∙ eq-eqb (length text) 1 (omega (arith, below, is.0))
plain_from text false long is few =
    cond-false _ _ _ long
    ∙ cond-true _ _ _ (le-leb (length text) 20 few)
    ∙ first_other text (get_or text 0 0 == 48) refl is.1 (ltb-false (length text) 2 long)

-- ---- the law

in_range : (most n m : ℕ) (within : Bool) → nat_le m most ≡ within →
    cond within (Some m) None ≡ Some n → (m ≡ n) × (n ≤ most)
in_range most n m true e some = let same : m ≡ n = cc in
    (same, omega (arith, same, leb-true m most e))
in_range most n m false e some = absurd (cc some)

ranged : (most n : ℕ) (number : Option ℕ) → option_and_then (up_to most) number ≡ Some n →
    (number ≡ Some n) × (n ≤ most)
ranged most n None some = absurd (cc some)
ranged most n (Some m) some =
    let told = in_range most n m (nat_le m most) refl some in
    (ap Some told.0, told.1)

number_told : (text : List ℕ) (n : ℕ) (plain : Bool) → is_plain text ≡ plain →
    number_in text ≡ Some n → (is_plain text ≡ true) × (digits_from 0 text ≡ Some n)
number_told text n true e some = (e, sym (cond-true _ _ _ e) ∙ some)
number_told text n false e some = absurd (cc (cond-false _ (digits_from 0 text) None e, some))

-- A text that is read as the number n is the one that is printed for n: it is within the range, has
-- digits only and no leading zero, and of such a text the digits are those of its value.
spelled : (most n : ℕ) (text : List ℕ) → most < 2 ^ 64 → number_up_to most text ≡ Some n →
    (text ≡ decimal n) × (n ≤ most)
unfolding number_up_to
spelled most n text small some =
    let range = ranged most n (number_in text) some in
    let number = number_told text n (is_plain text) refl range.0 in
    let plain = plain_told text (nat_lt (length text) 2) refl number.0 in
    let read = read-digits_from 0 n text number.1 in (
      sym (decimal-digits_value own_numerals text read.0 plain.0 plain.1
          (omega (arith, read.1, range.1, small))) ∙ ap decimal read.1,
      range.1,
    )

decimal-plain : (n : ℕ) → n < 2 ^ 64 → IsPlain (decimal n)
decimal-plain zero small =
    let some = decimal_nonempty 0 small in
    let one = length-decimal-le 1 0 (omega arith) (omega arith) small in
    (some, λ _. omega (arith, some, one))
decimal-plain (suc n) small = (
  decimal_nonempty (suc n) small,
  λ is. absurd (omega (arith, first_decimal (suc n) (omega arith) small, is)),
)

reads_back : (most n : ℕ) (text : List ℕ) → most < 2 ^ 64 → (text ≡ decimal n) × (n ≤ most) →
    number_up_to most text ≡ Some n
unfolding number_up_to
reads_back most n text small is =
    let below : n < 2 ^ 64 = omega (arith, is.1, small) in
    let plain : is_plain (decimal n) ≡ true =
    plain_from (decimal n) (nat_lt (length (decimal n)) 2) refl (decimal-plain n below)
    (length-decimal-le 20 n (omega arith) (omega (arith, below)) below) in
    let number : number_in (decimal n) ≡ Some n =
    cond-true _ _ _ plain ∙ digits_from-read 0 (decimal n) (digits_decimal own_numerals n below)
    ∙ ap Some (digits_value-decimal own_numerals n below) in
    ap (λ (t : List ℕ). option_and_then (up_to most) (number_in t)) is.0
    ∙ ap (option_and_then (up_to most)) number
    ∙ cond-true _ _ _ (le-leb n most is.1)

pub one_numeral : (most n : ℕ) (text : List ℕ) → most < 2 ^ 64 → (number_up_to most text ≡ Some n) ↔
    ((text ≡ decimal n) × (n ≤ most))
one_numeral most n text small = (spelled most n text small, reads_back most n text small)

-- ---- numbers with a sign

-- a number of one of both signs, read from what stands after the sign
signed_in-minus : (digits : List ℕ) → signed_in (45 ∷ digits) ≡ option_and_then negative (number_up_to 32768 digits)
unfolding signed_in
signed_in-minus digits = refl

signed_in-other : (text : List ℕ) → text_after (codes "-") text ≡ None →
    signed_in text ≡ option_and_then positive (number_up_to 32767 text)
unfolding signed_in
signed_in-other text none = ap (signed_after text) none

following-other : (byte : ℕ) (bytes : List ℕ) → (byte == 45) ≡ false → text_after (codes "-") (byte ∷ bytes) ≡ None
following-other byte bytes other = rw other refl

abbrev Spells : List ℕ → ℤ → Type 0
Spells text z = (text ≡ signed_decimal z) × FitsSigned w16 z

positive_told : (text : List ℕ) (z : ℤ) (number : Option ℕ) → number_up_to 32767 text ≡ number →
    option_and_then positive number ≡ Some z → Spells text z
positive_told text z None is some = absurd (cc some)
positive_told text z (Some n) is some =
    let same : pos n ≡ z = cc in
    let told = spelled 32767 n text (omega arith) is in
    subst (Spells text) same (told.0, record { sfits = omega (arith, told.1) })

negative-suc : (n : ℕ) → negative (suc n) ≡ Some (negsuc n)
negative-suc n = cond-false _ _ _ (eqb-suc-zero n)

negative_told : (digits : List ℕ) (z : ℤ) (number : Option ℕ) → number_up_to 32768 digits ≡ number →
    option_and_then negative number ≡ Some z → Spells (45 ∷ digits) z
negative_told digits z (Some (suc n)) is some =
    let read : ◌≡◌ {A = Option ℤ} (Some (negsuc n)) (Some z) = sym (negative-suc n) ∙ some in
    let same : negsuc n ≡ z = cc in
    let told = spelled 32768 (suc n) digits (omega arith) is in
    subst (Spells (45 ∷ digits)) same (ap (λ (ds : List ℕ). 45 ∷ ds) told.0, record { sfits = omega (arith, told.1) })
negative_told digits z number is some = absurd (cc some)

-- A text that is read as a signed number is the one that is printed for it: one that begins with a
-- minus sign is that sign and the one spelling of the size, and any other is the spelling of a
-- number without a sign.
signed_told : (byte : ℕ) (bytes : List ℕ) (z : ℤ) (minus : Bool) → (byte == 45) ≡ minus →
    signed_in (byte ∷ bytes) ≡ Some z → Spells (byte ∷ bytes) z
signed_told byte bytes z true minus some =
    let is : 45 ≡ byte = sym (eqb-true byte 45 minus) in
    let some_minus : signed_in (45 ∷ bytes) ≡ Some z = ap (λ (b : ℕ). signed_in (b ∷ bytes)) is
    ∙ some in
    subst (λ (b : ℕ). Spells (b ∷ bytes) z) is
    (negative_told bytes z (number_up_to 32768 bytes) refl (sym (signed_in-minus bytes) ∙ some_minus))
signed_told byte bytes z false other some =
    positive_told (byte ∷ bytes) z (number_up_to 32767 (byte ∷ bytes)) refl
    (sym (signed_in-other (byte ∷ bytes) (following-other byte bytes other)) ∙ some)

signed_spelled : (text : List ℕ) (z : ℤ) → signed_in text ≡ Some z → Spells text z
signed_spelled [] z some = positive_told [] z (number_up_to 32767 []) refl (sym (signed_in-other [] refl) ∙ some)
signed_spelled (byte ∷ bytes) z some = signed_told byte bytes z (byte == 45) refl some

no_minus_byte : (byte : ℕ) (bytes : List ℕ) (minus : Bool) → (byte == 45) ≡ minus →
    all_ascii_digits (byte ∷ bytes) ≡ true → text_after (codes "-") (byte ∷ bytes) ≡ None
no_minus_byte byte bytes true minus are =
    let is : byte ≡ 45 = eqb-true byte 45 minus in
    absurd (false≢true (ap (λ (b : ℕ). all_ascii_digits (b ∷ bytes)) (sym is) ∙ are))
no_minus_byte byte bytes false other are = following-other byte bytes other

no_minus : (text : List ℕ) → all_ascii_digits text ≡ true → text_after (codes "-") text ≡ None
no_minus [] are = refl
no_minus (byte ∷ bytes) are = no_minus_byte byte bytes (byte == 45) refl are

signed_reads_back : (z : ℤ) (text : List ℕ) → Spells text z → signed_in text ≡ Some z
signed_reads_back (pos n) text is =
    let small : n < 2 ^ 64 = omega (arith, is.1.sfits) in
    ap signed_in is.0
    ∙ signed_in-other (decimal n) (no_minus (decimal n) (digits_decimal own_numerals n small))
    ∙ ap (option_and_then positive) (reads_back 32767 n (decimal n) (omega arith) (refl, omega (arith, is.1.sfits)))
signed_reads_back (negsuc n) text is =
    ap signed_in is.0
    ∙ signed_in-minus (decimal (suc n))
    ∙ ap (option_and_then negative)
    (reads_back 32768 (suc n) (decimal (suc n)) (omega arith) (refl, omega (arith, is.1.sfits)))
    ∙ negative-suc n

pub one_signed_numeral : (z : ℤ) (text : List ℕ) → (signed_in text ≡ Some z) ↔
    ((text ≡ signed_decimal z) × FitsSigned w16 z)
one_signed_numeral z text = (signed_spelled text z, signed_reads_back z text)

-- Lemmas on the header of a file, and on what opening a file answers.
use Rattle.cdma_io.proofs.Common.{◌≡◌, ℕ, ◌+◌, ◌-◌, ◌*◌, ◌/◌, ◌%◌, ◌<◌, ◌≤◌, Bool, true, false, cond, eqb, leb, ltb, List, [], ◌++◌, length}
use Rattle.cdma_io.proofs.Common.{take, drop, refl, sym, ap, ◌∙◌, subst, arith, inl, inr, length-append, length-drop, append-nil, Option}
use Rattle.cdma_io.proofs.Common.{None, Some, IfSome, Result, Ok, Err, drop-append-le, drop-drop, drop_all, take_all, length-take-le, Magic}
use Rattle.cdma_io.proofs.Common.{Consumes, IsAtEnd, starts_with, big_bytes, big_number, big_from-append, big_number-reads_back, FileFault}
use Rattle.cdma_io.proofs.Common.{Version, Flags, Count, Short, Header, Width, Sixteen, Eight, IsLawfulHeader, Opens, Reading, flags_of}
use Rattle.cdma_io.proofs.Common.{form_flag, check_form_of, header_due, header_spelling, is_version, magic, most_samples, opening, width_in}
use Rattle.cdma_io.proofs.Common.{width_of}
use Rattle.std.proofs.lemmas.Bool.{cond-true, cond-false, lt-ltb, ltb-true, le-ltb, le-leb, leb-true, lt-leb, eqb-true, eq-eqb}
use Rattle.std.proofs.lemmas.Bool.Decides.{Decides-eqb, eqb_tells}
use Rattle.std.proofs.lemmas.Slice.Eq.{starts_is}
use lib.Seq.{take-append-le}
use Rattle.std.specs.Cmp.Lexicographic.{pointwise}
use Rattle.chip_core.specs.declared.check_form.CheckForm.{CheckForm}
use Rattle.chip_core.specs.declared.check_form.CheckForm.TheVariants.{Plain, Complemented}
use Rattle.cdma_io.proofs.ByteNumbers.{AreBytes, AreBytes-drop, big_bytes-front}

-- ---- the three numbers of a header

then_ok : {A B : Type 0} (b : Bool) (x : Result A B) (e : B) (y : A) → cond b x (Err e) ≡ Ok y → (b ≡ true) × (x ≡ Ok y)
then_ok true x e y h = (refl, h)
then_ok false x e y h = absurd (cc)

-- a form gives its flag, and the flag the form
flag_of_form : (n : ℕ) → form_flag (check_form_of (eqb (n % 2) 1)) ≡ n % 2
flag_of_form n = elim (eqb_tells (n % 2) 1) [
  | inl set ↦ ap (λ (b : Bool). form_flag (check_form_of b)) set.0 ∙ sym set.1
  | inr clear ↦
      let none : n % 2 ≡ 0 = omega (arith, clear.1) in
      ap (λ (b : Bool). form_flag (check_form_of b)) clear.0 ∙ sym none
]

form30_read : (a b : CheckForm) → check_form_of (eqb ((form_flag a + 2 * form_flag b) % 2) 1) ≡ a
form30_read Plain Plain = refl
form30_read Plain Complemented = refl
form30_read Complemented Plain = refl
form30_read Complemented Complemented = refl

form16_read : (a b : CheckForm) → check_form_of (eqb ((form_flag a + 2 * form_flag b) / 2 % 2) 1) ≡ b
form16_read Plain Plain = refl
form16_read Plain Complemented = refl
form16_read Complemented Plain = refl
form16_read Complemented Complemented = refl

flags_few : (a b : CheckForm) → form_flag a + 2 * form_flag b < 4
flags_few Plain Plain = omega arith
flags_few Plain Complemented = omega arith
flags_few Complemented Plain = omega arith
flags_few Complemented Complemented = omega arith

-- the versions are 1 and 2
is_version-between : (version : ℕ) → 1 ≤ version → version ≤ 2 → is_version version ≡ true
is_version-between version least most = elim (eqb_tells version 1) [
  | inl one ↦ cond-true _ _ _ one.0
  | inr other ↦ cond-false _ _ _ other.0 ∙ eq-eqb version 2 (omega (arith, other.1))
]

between-is_version : (version : ℕ) → is_version version ≡ true → (1 ≤ version) × (version ≤ 2)
between-is_version version known = elim (eqb_tells version 1) [
  | inl one ↦ (omega (arith, one.1), omega (arith, one.1))
  | inr other ↦
      let two : version ≡ 2 = eqb-true version 2 (sym (cond-false _ _ _ other.0) ∙ known) in
      (omega (arith, two), omega (arith, two))
]

most_samples-most : (width : Width) → most_samples width ≤ 67108864
most_samples-most Sixteen = omega arith
most_samples-most Eight = omega arith

-- a lawful header is due where its numbers stand
header_due-lawful : (header : Header) → IsLawfulHeader header →
    header_due header.version (flags_of header) header.count ≡ Ok header
header_due-lawful header lawful =
    let version : is_version header.version ≡ true =
    is_version-between header.version lawful.version_least lawful.version_most in
    let flags : ltb (flags_of header) 4 ≡ true = lt-ltb (flags_of header) 4 (flags_few header.check30 header.check16) in
    let count : leb header.count (most_samples (width_of header)) ≡ true =
    le-leb header.count (most_samples (width_of header)) lawful.count_most in
    let make : CheckForm → CheckForm → Result Header FileFault =
    λ a b. Ok (record { version = header.version; check30 = a; check16 = b; count = header.count })
    in
    cond-true _ _ _ version ∙ cond-true _ _ _ flags ∙ cond-true _ _ _ count
    ∙ ap (λ (a : CheckForm). make a (check_form_of (eqb (flags_of header / 2 % 2) 1)))
    (form30_read header.check30 header.check16)
    ∙ ap (make header.check30) (form16_read header.check30 header.check16)

-- the numbers of a header that is due
record IsDue (header : Header) (version flags count : ℕ) : Type 0 where
  lawful : IsLawfulHeader header
  version_is : header.version ≡ version
  flags_are : flags_of header ≡ flags
  count_is : header.count ≡ count

-- A header that is answered is lawful and has just these numbers: each of the three tests that were
-- passed gives one bound, and flags below 4 are spelled by their two bits.
header_due-ok : (version flags count : ℕ) (header : Header) →
    header_due version flags count ≡ Ok header → IsDue header version flags count
header_due-ok version flags count header h =
    let a = then_ok (is_version version) _ Version header h in
    let b = then_ok (ltb flags 4) _ Flags header a.1 in
    let c = then_ok (leb count (most_samples (width_in version))) _ Count header b.1 in
    let few : flags < 4 = ltb-true flags 4 b.0 in
    let made : Header = record {
      version = version;
      check30 = check_form_of (eqb (flags % 2) 1);
      check16 = check_form_of (eqb (flags / 2 % 2) 1);
      count = count;
    } in
    let same : made ≡ header = cc in
    let law : IsLawfulHeader made = record {
      version_least = (between-is_version version a.0).0;
      version_most = (between-is_version version a.0).1;
      count_most = leb-true count (most_samples (width_in version)) c.0;
    } in
    let back : flags_of made ≡ flags = omega (arith, flag_of_form flags, flag_of_form (flags / 2)) in
    let due : IsDue made version flags count = record {
      lawful = law;
      version_is = refl;
      flags_are = back;
      count_is = refl;
    } in
    subst (λ (x : Header). IsDue x version flags count) same due

-- ---- opening

pub length-header_spelling : (header : Header) → length (header_spelling header) ≡ 16
unfolding header_spelling
length-header_spelling header = refl

-- a lawful header that is spelled at the front opens
pub opening-spelled : (header : Header) (rest : List ℕ) → IsLawfulHeader header →
    opening (header_spelling header ++ rest) ≡ Ok header
unfolding opening header_spelling
opening-spelled header rest lawful =
    let bytes = header_spelling header ++ rest in
    let long : leb 16 (length bytes) ≡ true =
    le-leb 16 (length bytes) (omega (arith, length-append (header_spelling header) rest, length-header_spelling header))
    in
    let flags = flags_of header in
    let version_read : big_number 2 (drop 4 bytes) ≡ header.version =
    big_number-reads_back 2 header.version (big_bytes 2 flags ++ (big_bytes 8 header.count ++ rest))
    (omega (arith, lawful.version_most)) in
    let flags_read : big_number 2 (drop 6 bytes) ≡ flags =
    big_number-reads_back 2 flags (big_bytes 8 header.count ++ rest)
    (omega (arith, flags_few header.check30 header.check16)) in
    let count_read : big_number 8 (drop 8 bytes) ≡ header.count =
    big_number-reads_back 8 header.count rest (omega (arith, lawful.count_most, most_samples-most (width_of header))) in
    cond-true _ _ _ long
    ∙ ap (λ (n : ℕ). header_due n (big_number 2 (drop 6 bytes)) (big_number 8 (drop 8 bytes)))
    version_read
    ∙ ap (λ (n : ℕ). header_due header.version n (big_number 8 (drop 8 bytes))) flags_read
    ∙ ap (λ (n : ℕ). header_due header.version flags n) count_read
    ∙ header_due-lawful header lawful

pub record IsOpened (bytes : List ℕ) (header : Header) : Type 0 where
  pub lawful : IsLawfulHeader header
  pub spelled : bytes ≡ header_spelling header ++ drop 16 bytes

-- bytes that open begin with the spelling of their header
pub opening-ok : (bytes : List ℕ) (header : Header) → AreBytes bytes → opening bytes ≡ Ok header → IsOpened bytes header
unfolding opening header_spelling
opening-ok bytes header small h =
    let a = then_ok (leb 16 (length bytes)) _ (Short (length bytes)) header h in
    let b = then_ok (starts_with eqb bytes magic) _ Magic header a.1 in
    let due =
    header_due-ok (big_number 2 (drop 4 bytes)) (big_number 2 (drop 6 bytes))
    (big_number 8 (drop 8 bytes)) header b.1 in
    let long : 16 ≤ length bytes = leb-true 16 (length bytes) a.0 in
    let begins : bytes ≡ magic ++ drop 4 bytes =
    (starts_is Decides-eqb bytes magic (starts_with eqb bytes magic) refl).0 b.0 in
    let version : drop 4 bytes ≡ big_bytes 2 header.version ++ drop 6 bytes =
    big_bytes-front 2 (drop 4 bytes) (omega (arith, length-drop 4 bytes)) (AreBytes-drop 4 bytes small)
    ∙ ap (λ (xs : List ℕ). big_bytes 2 (big_number 2 (drop 4 bytes)) ++ xs) (drop-drop 2 4 bytes)
    ∙ ap (λ (n : ℕ). big_bytes 2 n ++ drop 6 bytes) (sym due.version_is) in
    let flags : drop 6 bytes ≡ big_bytes 2 (flags_of header) ++ drop 8 bytes =
    big_bytes-front 2 (drop 6 bytes) (omega (arith, length-drop 6 bytes)) (AreBytes-drop 6 bytes small)
    ∙ ap (λ (xs : List ℕ). big_bytes 2 (big_number 2 (drop 6 bytes)) ++ xs) (drop-drop 2 6 bytes)
    ∙ ap (λ (n : ℕ). big_bytes 2 n ++ drop 8 bytes) (sym due.flags_are) in
    let count : drop 8 bytes ≡ big_bytes 8 header.count ++ drop 16 bytes =
    big_bytes-front 8 (drop 8 bytes) (omega (arith, length-drop 8 bytes)) (AreBytes-drop 8 bytes small)
    ∙ ap (λ (xs : List ℕ). big_bytes 8 (big_number 8 (drop 8 bytes)) ++ xs) (drop-drop 8 8 bytes)
    ∙ ap (λ (n : ℕ). big_bytes 8 n ++ drop 16 bytes) (sym due.count_is) in
    record {
      lawful = due.lawful;
      spelled =
          begins
          ∙ ap (λ (xs : List ℕ). magic ++ xs) version
          ∙ ap (λ (xs : List ℕ). magic ++ (big_bytes 2 header.version ++ xs)) flags
          ∙ ap (λ (xs : List ℕ). magic ++
          (big_bytes 2 header.version ++ (big_bytes 2 (flags_of header) ++ xs))) count;
    }

-- a number within the first 16 bytes
number-front : (xs ys : List ℕ) (n k : ℕ) → n + k ≤ length xs →
    big_number k (drop n (xs ++ ys)) ≡ big_number k (drop n xs)
number-front xs ys n k fits =
    ap (big_number k) (drop-append-le n xs ys (omega arith)) ∙
    big_from-append k (drop n xs) ys (omega (arith, length-drop n xs))

-- only the first 16 bytes count
opening-front : (xs ys : List ℕ) → length xs ≡ 16 → opening (xs ++ ys) ≡ opening xs
unfolding opening
opening-front xs ys long =
    let whole : leb 16 (length (xs ++ ys)) ≡ true =
    le-leb 16 (length (xs ++ ys)) (omega (arith, length-append xs ys)) in
    let alone : leb 16 (length xs) ≡ true = le-leb 16 (length xs) (omega arith) in
    let begins : starts_with eqb (xs ++ ys) magic ≡ starts_with eqb xs magic =
    ap (λ (zs : List ℕ). pointwise eqb magic zs) (take-append-le 4 xs ys (omega arith)) in
    let part : ℕ → ℕ → ℕ → Result Header FileFault =
    λ version flags count. cond (starts_with eqb xs magic) (header_due version flags count) (Err Magic) in
    cond-true _ _ _ whole
    ∙ ap (λ (b : Bool). cond b
    (header_due (big_number 2 (drop 4 (xs ++ ys))) (big_number 2 (drop 6 (xs ++ ys)))
    (big_number 8 (drop 8 (xs ++ ys)))) (Err Magic)) begins
    ∙ ap (λ (n : ℕ). part n (big_number 2 (drop 6 (xs ++ ys))) (big_number 8 (drop 8 (xs ++ ys))))
    (number-front xs ys 4 2 (omega arith))
    ∙ ap (λ (n : ℕ). part (big_number 2 (drop 4 xs)) n (big_number 8 (drop 8 (xs ++ ys))))
    (number-front xs ys 6 2 (omega arith))
    ∙ ap (part (big_number 2 (drop 4 xs)) (big_number 2 (drop 6 xs))) (number-front xs ys 8 8 (omega arith))
    ∙ sym (cond-true _ _ _ alone)

-- fewer bytes than a header are short
opening-short : (bytes : List ℕ) → length bytes < 16 → opening bytes ≡ Err (Short (length bytes))
unfolding opening
opening-short bytes few = cond-false _ _ _ (lt-leb 16 (length bytes) few)

-- ---- what a parser of 16 bytes answers

due_version : (version flags count : ℕ) → is_version version ≡ false → header_due version flags count ≡ Err Version
due_version version flags count other = cond-false _ _ _ other

due_flags : (version flags count : ℕ) → is_version version ≡ true → 4 ≤ flags →
    header_due version flags count ≡ Err Flags
due_flags version flags count known many = cond-true _ _ _ known ∙ cond-false _ _ _ (le-ltb flags 4 many)

due_count : (version flags count : ℕ) → is_version version ≡ true → flags < 4 →
    most_samples (width_in version) < count → header_due version flags count ≡ Err Count
due_count version flags count known few many =
    cond-true _ _ _ known ∙ cond-true _ _ _ (lt-ltb flags 4 few) ∙
    cond-false _ _ _ (lt-leb count (most_samples (width_in version)) many)

due_header : (version flags count : ℕ) → is_version version ≡ true → flags < 4 →
    count ≤ most_samples (width_in version) →
    header_due version flags count ≡ Ok (record {
      version = version;
      check30 = check_form_of (eqb (flags % 2) 1);
      check16 = check_form_of (eqb (flags / 2 % 2) 1);
      count = count;
    })
due_header version flags count known few fits =
    cond-true _ _ _ known ∙ cond-true _ _ _ (lt-ltb flags 4 few) ∙
    cond-true _ _ _ (le-leb count (most_samples (width_in version)) fits)

-- the number in the first bytes of what a slice has from a place on
abbrev number_at : ℕ → ℕ → List ℕ → ℕ
number_at n k bytes = big_number k (take (length bytes - n) (drop n bytes))

number_at-drop : (n k : ℕ) (bytes : List ℕ) → number_at n k bytes ≡ big_number k (drop n bytes)
number_at-drop n k bytes =
    ap (big_number k) (take_all (length bytes - n) (drop n bytes) (omega (arith, length-drop n bytes)))

opening-due : (bytes : List ℕ) (version flags count : ℕ) → length bytes ≡ 16 → starts_with eqb bytes magic ≡ true →
    version ≡ number_at 4 2 bytes → flags ≡ number_at 6 2 bytes → count ≡ number_at 8 8 bytes →
    opening bytes ≡ header_due version flags count
unfolding opening
opening-due bytes version flags count long begins version_is flags_are count_is =
    cond-true _ _ _ (le-leb 16 (length bytes) (omega arith)) ∙ cond-true _ _ _ begins
    ∙ ap (λ (n : ℕ). header_due n (big_number 2 (drop 6 bytes)) (big_number 8 (drop 8 bytes)))
    (sym (version_is ∙ number_at-drop 4 2 bytes))
    ∙ ap (λ (n : ℕ). header_due version n (big_number 8 (drop 8 bytes))) (sym (flags_are ∙ number_at-drop 6 2 bytes))
    ∙ ap (λ (n : ℕ). header_due version flags n) (sym (count_is ∙ number_at-drop 8 8 bytes))

pub parsed_magic : (bytes : List ℕ) → length bytes ≡ 16 → starts_with eqb bytes magic ≡ false →
    Err Magic ≡ opening bytes
unfolding opening
parsed_magic bytes long begins =
    sym (cond-true _ _ _ (le-leb 16 (length bytes) (omega arith)) ∙ cond-false _ _ _ begins)

pub parsed_version : (bytes : List ℕ) (version : ℕ) → length bytes ≡ 16 → starts_with eqb bytes magic ≡ true →
    version ≡ number_at 4 2 bytes → is_version version ≡ false → Err Version ≡ opening bytes
parsed_version bytes version long begins version_is other =
    sym (opening-due bytes version (number_at 6 2 bytes) (number_at 8 8 bytes) long begins
    version_is refl refl ∙
    due_version version (number_at 6 2 bytes) (number_at 8 8 bytes) other)

pub parsed_flags : (bytes : List ℕ) (version flags : ℕ) → length bytes ≡ 16 → starts_with eqb bytes magic ≡ true →
    version ≡ number_at 4 2 bytes → is_version version ≡ true → flags ≡ number_at 6 2 bytes →
    4 ≤ flags → Err Flags ≡ opening bytes
parsed_flags bytes version flags long begins version_is known flags_are many =
    sym (opening-due bytes version flags _ long begins version_is flags_are refl ∙
    due_flags version flags _ known many)

-- the numbers of a header that was parsed up to its count
pub record AreParsed (bytes : List ℕ) (version flags count : ℕ) : Type 0 where
  pub long : length bytes ≡ 16
  pub begins : starts_with eqb bytes magic ≡ true
  pub version_is : version ≡ number_at 4 2 bytes
  pub known : is_version version ≡ true
  pub flags_are : flags ≡ number_at 6 2 bytes
  pub few : flags < 4
  pub count_is : count ≡ number_at 8 8 bytes

pub parsed_count : (bytes : List ℕ) (version flags count : ℕ) →
    AreParsed bytes version flags count → (limit : ℕ) → limit ≡ most_samples (width_in version) → limit < count →
    Err Count ≡ opening bytes
parsed_count bytes version flags count p limit limit_is many =
    sym (
    opening-due bytes version flags count p.long p.begins p.version_is p.flags_are p.count_is
    ∙ due_count version flags count p.known p.few (omega (arith, limit_is, many))
    )

pub parsed_header : (bytes : List ℕ) (version flags count : ℕ) (check30 check16 : CheckForm) →
    AreParsed bytes version flags count → (limit : ℕ) → limit ≡ most_samples (width_in version) → count ≤ limit →
    check30 ≡ check_form_of (eqb (flags % 2) 1) → check16 ≡ check_form_of (eqb (flags / 2 % 2) 1) →
    Ok (record { version = version; check30 = check30; check16 = check16; count = count }) ≡ opening bytes
parsed_header bytes version flags count check30 check16 p limit limit_is fits first second =
    let make : CheckForm → CheckForm → Result Header FileFault =
    λ a b. Ok (record { version = version; check30 = a; check16 = b; count = count }) in
    sym (
    opening-due bytes version flags count p.long p.begins p.version_is p.flags_are p.count_is
    ∙ due_header version flags count p.known p.few (omega (arith, limit_is, fits))
    ∙ ap (λ (a : CheckForm). make a (check_form_of (eqb (flags / 2 % 2) 1))) (sym first)
    ∙ ap (make check30) (sym second)
    )

-- 16 bytes that open are the spelling of their header
pub parsed_spelling : (bytes : List ℕ) (header : Header) → length bytes ≡ 16 → AreBytes bytes →
    Ok header ≡ opening bytes → bytes ≡ header_spelling header
parsed_spelling bytes header long small due =
    let opened = opening-ok bytes header small (sym due) in
    let none : drop 16 bytes ≡ [] = drop_all 16 bytes (omega arith) in
    opened.spelled ∙ ap (λ (xs : List ℕ). header_spelling header ++ xs) none ∙
    append-nil (header_spelling header)

-- ---- what a reader of 16 bytes knows of the file

-- the whole buffer was filled
pub filled_whole : (old new : Option (List ℕ)) (buf : List ℕ) (n : ℕ) → length buf ≤ n →
    Consumes old new (take n buf) → Consumes old new buf
filled_whole old new buf n full read = subst (Consumes old new) (take_all n buf full) read

-- the source ended before them
pub told_short : (old new : Option (List ℕ)) (buf : List ℕ) (n : ℕ) → n ≤ length buf → n < 16 →
    Consumes old new (take n buf) → IsAtEnd new → IfSome old (λ bytes. Opens (Err (Short n)) (opening bytes))
told_short None new buf n within few read ended = tt
told_short (Some xs) None buf n within few read ended = absurd read
told_short (Some xs) (Some ys) buf n within few read ended = λ other.
    let all : xs ≡ take n buf = read ∙ ap (λ (zs : List ℕ). take n buf ++ zs) ended ∙
    append-nil (take n buf) in
    let long : length xs ≡ n = ap length all ∙ length-take-le n buf within in
    let due : opening xs ≡ Err (Short (length xs)) = opening-short xs (omega arith) in
    due ∙ ap (λ (k : ℕ). Err (Short k)) long

-- they were read: what is due for them is due for the file
pub told_header : (old new : Option (List ℕ)) (buf : List ℕ) (answer : Result Reading FileFault) → length buf ≡ 16 →
    Consumes old new buf → Opens answer (opening buf) → IfSome old (λ bytes. Opens answer (opening bytes))
told_header None new buf answer long read due = tt
told_header (Some xs) None buf answer long read due = absurd read
told_header (Some xs) (Some ys) buf answer long read due =
    subst (Opens answer) (sym (ap opening read ∙ opening-front buf ys long)) due

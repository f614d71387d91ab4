-- Lemmas on the test of arguments: what each step of it reads.
use Rattle.command_line.proofs.Common.{◌≡◌, ℕ, zero, suc, ◌+◌, ◌<◌, ◌≤◌, Bool, true, false, not, ◌&&◌, ◌||◌, if◌then◌else◌, List, [], ◌∷◌}
use Rattle.command_line.proofs.Common.{◌++◌, length, map, take, drop, get_or, nat_eq, nat_le, refl, sym, ap, ap₂, ◌∙◌, subst, arith, rules}
use Rattle.command_line.proofs.Common.{Option, None, Some, option_and_then, option_map, unwrap_or, eqb-true, find, is_some, ◌*◌, ◌-◌, Ok}
use Rattle.command_line.proofs.Common.{String, Global, string_bytes, Result, Err, at_drop_more, drop-map, drop_all, length-drop, length-map}
use Rattle.command_line.proofs.Common.{take-map, take_all, AllPass, list_any, is_ascii_digit, from_be_bytes, w32, option_map_or, result_ok}
use Rattle.command_line.proofs.Common.{bytes_eq, digits_from, decode_sized, is_hex_digit, FromHexError, IsOk-decode_sized, long_of, Between}
use Rattle.command_line.proofs.Common.{long_of_rest, short_of, short_of_rest, strip_byte, OptionRule, ValueForm, EightDigits, Given, Text}
use Rattle.command_line.proofs.Common.{OptionEntry, added, form_admits, given_after, has_name, is_allowed, is_joined, is_named_in, names}
use Rattle.command_line.proofs.Common.{option_joined, argument_number_in, part_by, part_of, parted, eight_digits_in, value_spelled_in}
use Rattle.command_line.proofs.Common.{text_in, value_in}
use Rattle.std.proofs.Math.Bool.{or-false}

-- ---- an item of a list after the first k of them

get_or-of-map : {X Y : Type 0} (g : X → Y) (xs : List X) (k : ℕ) (d : X) → get_or (map g xs) k (g d) ≡ g (get_or xs k d)
get_or-of-map g [] zero d = refl
get_or-of-map g [] (suc k) d = refl
get_or-of-map g (x ∷ xs) zero d = refl
get_or-of-map g (x ∷ xs) (suc k) d = get_or-of-map g xs k d

pub item_first : {X Y Z : Type 0} (f : List Y → Z) (g : X → Y) (xs : List X) (k : ℕ) (d : X) → k < length xs →
    f (drop k (map g xs)) ≡ f (g (get_or xs k d) ∷ drop (k + 1) (map g xs))
item_first f g xs k d inside =
    at_drop_more f (map g xs) k (g d) (rw (length-map xs g) inside)
    ∙ ap (λ y. f (y ∷ drop (k + 1) (map g xs))) (get_or-of-map g xs k d)

-- what an index past the end would give
abbrev pub no_rule : OptionRule
no_rule = record { name = record { ref_ptr = (0, 0); now = [] }; form = Between 0 0; default = None }

pub rule_here : (entry : OptionEntry) (entries : List OptionEntry) (name value : Text) →
    bytes_eq entry.name name ≡ true → is_allowed (entry ∷ entries) name value ≡ is_some (value_in entry.form value)
rule_here entry entries name value e =
    ap (λ (b : Bool). option_map_or (λ r. is_some (value_in r.form value))
    (if b then Some entry else find (λ r. bytes_eq r.name name) entries) false) e

pub rule_elsewhere : (entry : OptionEntry) (entries : List OptionEntry) (name value : Text) →
    bytes_eq entry.name name ≡ false → is_allowed (entry ∷ entries) name value ≡ is_allowed entries name value
rule_elsewhere entry entries name value e =
    ap (λ (b : Bool). option_map_or (λ r. is_some (value_in r.form value))
    (if b then Some entry else find (λ r. bytes_eq r.name name) entries) false) e

-- ---- values

-- a text that is no flag
pub record IsPlain (text : Text) : Type 0 where
  pub dashes : bytes_eq text (45 ∷ 45 ∷ []) ≡ false
  pub long : long_of text ≡ None
  pub short : short_of text ≡ None

plain_from : (digit : ℕ) (text : Text) → nat_eq digit 45 ≡ false → IsPlain (digit ∷ text)
plain_from digit text e = record {
  dashes = ap (λ (b : Bool). b && bytes_eq text (45 ∷ [])) e;
  long = ap (λ (b : Bool). option_and_then long_of_rest
      (option_and_then (strip_byte 45) (if b then Some text else None))) e;
  short = ap (λ (b : Bool). option_and_then short_of_rest (if b then Some text else None)) e;
}

no_dash : (digit : ℕ) → is_ascii_digit digit ≡ true → nat_eq digit 45 ≡ false
no_dash digit e = search (rules, arith)

first_digit : (digit : ℕ) (text : Text) (number : ℕ) →
    argument_number_in (digit ∷ text) ≡ Some number → is_ascii_digit digit ≡ true
unfolding digits_from
first_digit digit text number e =
    by_cases (nat_le 1 (length (digit ∷ text))) (nat_le (length (digit ∷ text)) 20) (is_ascii_digit digit) refl e
  where
    by_cases : (a b is : Bool) → is_ascii_digit digit ≡ is →
        (if a then (if b then (if is then digits_from (10 * 0 + (digit - 48)) text else None)
        else None)
        else None) ≡ Some number → is_ascii_digit digit ≡ true
    by_cases true true true is found = is
    by_cases true true false is found = search rules
    by_cases true false c is found = search rules
    by_cases false b c is found = search rules

number_plain : (text : Text) (number : ℕ) → argument_number_in text ≡ Some number → IsPlain text
number_plain [] number e = search rules
number_plain (digit ∷ text) number e = plain_from digit text (no_dash digit (first_digit digit text number e))

-- no hex digit is a hyphen
no_dash-hex : (digit : ℕ) → is_hex_digit digit ≡ true → nat_eq digit 45 ≡ false
no_dash-hex digit e = by_cases (nat_eq digit 45) refl
  where
    by_cases : (b : Bool) → nat_eq digit 45 ≡ b → nat_eq digit 45 ≡ false
    by_cases false is = is
    by_cases true is =
        let same : digit ≡ 45 = eqb-true digit 45 is in
        let bad : false ≡ true = subst (λ (d : ℕ). is_hex_digit d ≡ true) same e in
        search rules

eight_plain : (text : Text) (number : ℕ) → eight_digits_in text ≡ Some number → IsPlain text
unfolding eight_digits_in
eight_plain text number e = by_cases (decode_sized text 4) refl e
  where
    digits : (text : Text) → length text ≡ 8 → AllPass is_hex_digit text → IsPlain text
    digits [] eight all = absurd (omega (arith, eight))
    digits (digit ∷ text) eight all = plain_from digit text (no_dash-hex digit (all 0 digit (omega (arith, eight))))

    by_cases : (r : Result (List ℕ) FromHexError) → decode_sized text 4 ≡ r →
        option_map (λ octets. from_be_bytes w32 octets) (result_ok r) ≡ Some number → IsPlain text
    by_cases (Ok octets) is found =
        let both = (IsOk-decode_sized text 4).0 (rw is refl) in
        digits text both.0 both.1
    by_cases (Err fault) is found = search rules

spelled_plain : (form : ValueForm) (text : Text) (number : ℕ) → value_spelled_in form text ≡ Some number → IsPlain text
spelled_plain EightDigits text number e = eight_plain text number e
spelled_plain form text number e = number_plain text number e

-- a value of an option is no flag
value_plain-form : (form : ValueForm) (text : Text) → is_some (value_in form text) ≡ true → IsPlain text
unfolding value_in
value_plain-form form text e = by_cases (value_spelled_in form text) refl e
  where
    by_cases : (o : Option ℕ) → value_spelled_in form text ≡ o →
        is_some (option_and_then (λ n. if form_admits form n then Some n else None) o) ≡ true → IsPlain text
    by_cases None is test = search rules
    by_cases (Some number) is test = spelled_plain form text number is

pub value_plain : (entries : List OptionEntry) (name value : Text) →
    is_allowed entries name value ≡ true → IsPlain value
value_plain entries name value e = by_cases (find (λ r. bytes_eq r.name name) entries) e
  where
    by_cases : (found : Option OptionEntry) →
        option_map_or (λ r. is_some (value_in r.form value)) found false ≡ true → IsPlain value
    by_cases None test = search rules
    by_cases (Some entry) test = value_plain-form entry.form value test

-- ---- the argument that names an option

pub text_here : (name : Text) (args : List (String Global)) (place : ℕ) (arg : String Global) →
    place < length args → arg ≡ get_or args place arg →
    names name (string_bytes arg) ≡ true → text_in name (drop place (map string_bytes args)) ≡
    option_map (λ p. p.1) (part_of (drop place (map string_bytes args)))
text_here name args place arg inside is named =
    let rest = drop (place + 1) (map string_bytes args) in
    let value : List Text → Option Text = λ ws. option_map (λ p. p.1) (part_of ws) in
    item_first (text_in name) string_bytes args place arg inside
    ∙ ap (λ (w : String Global). text_in name (string_bytes w ∷ rest)) (sym is)
    ∙ ap (λ (b : Bool). if b then value (string_bytes arg ∷ rest) else text_in name rest) named
    ∙ ap (λ (w : String Global). value (string_bytes w ∷ rest)) is
    ∙ sym (item_first value string_bytes args place arg inside)

pub text_there : (name : Text) (args : List (String Global)) (place : ℕ) (arg : String Global) →
    place < length args → arg ≡ get_or args place arg →
    names name (string_bytes arg) ≡ false → text_in name (drop place (map string_bytes args)) ≡
    text_in name (drop (place + 1) (map string_bytes args))
text_there name args place arg inside is unnamed =
    let rest = drop (place + 1) (map string_bytes args) in
    let value : List Text → Option Text = λ ws. option_map (λ p. p.1) (part_of ws) in
    item_first (text_in name) string_bytes args place arg inside
    ∙ ap (λ (w : String Global). text_in name (string_bytes w ∷ rest)) (sym is)
    ∙ ap (λ (b : Bool). if b then value (string_bytes arg ∷ rest) else text_in name rest) unnamed

-- ---- the first option of arguments

pub none_stays : (entries : List OptionEntry) (args : List Text) → given_after entries None args ≡ None
unfolding given_after
none_stays entries (arg ∷ text ∷ args) =
    by_cases (is_joined (long_of arg)) (none_stays entries (text ∷ args)) (none_stays entries args)
  where
    by_cases : (b : Bool) → given_after entries None (text ∷ args) ≡ None → given_after entries None args ≡ None →
        (if b then given_after entries None (text ∷ args) else given_after entries None args) ≡ None
    by_cases true first second = first
    by_cases false first second = second
none_stays entries args = refl

abbrev pub Part : Type 0
Part = Text × Text × ℕ

same_part : (one other : Part) → Some one ≡ Some other → one ≡ other
same_part one other e = ap (λ (o : Option Part). unwrap_or o one) e

-- the arguments after one option
past_one : (entries : List OptionEntry) (given : Given) (arg name text : Text) (args : List Text) →
    long_of arg ≡ Some (name, Some text) → given_after entries (Some given) (arg ∷ args)
    ≡ given_after entries (added entries name text given) args
unfolding given_after
past_one entries given arg name text [] is = ap (λ (p : Option (Text × Option Text)). option_joined entries p given) is
past_one entries given arg name text (next ∷ args) is =
    ap (λ (p : Option (Text × Option Text)). if is_joined p
    then given_after entries (option_joined entries p given) (next ∷ args)
    else given_after entries (parted entries p next given) args) is

past_two : (entries : List OptionEntry) (given : Given) (arg name text : Text) (args : List Text) →
    long_of arg ≡ Some (name, None) → given_after entries (Some given) (arg ∷ text ∷ args) ≡
    given_after entries (added entries name text given) args
unfolding given_after
past_two entries given arg name text args is =
    ap (λ (p : Option (Text × Option Text)). if is_joined p
    then given_after entries (option_joined entries p given) (text ∷ args)
    else given_after entries (parted entries p text given) args) is

abbrev Steps : List OptionEntry → Given → List Text → Part → Type 0
Steps entries given args part =
    given_after entries (Some given) args ≡
    given_after entries (added entries part.0 part.1 given) (drop part.2 args)

pub part_step : (entries : List OptionEntry) (given : Given) (args : List Text) (part : Part) →
    part_of args ≡ Some part → Steps entries given args part
part_step entries given [] part e = search rules
part_step entries given (arg ∷ args) part e = by_cases (long_of arg) args refl e
  where
    by_cases : (p : Option (Text × Option Text)) (args : List Text) → long_of arg ≡ p →
        part_by p args ≡ Some part → Steps entries given (arg ∷ args) part
    by_cases None ws is found = search rules
    by_cases (Some (name, Some text)) ws is found =
        subst (Steps entries given (arg ∷ ws)) (same_part (name, text, 1) part found)
        (past_one entries given arg name text ws is)
    by_cases (Some (name, None)) [] is found = search rules
    by_cases (Some (name, None)) (text ∷ ws) is found =
        subst (Steps entries given (arg ∷ text ∷ ws)) (same_part (name, text, 2) part found)
        (past_two entries given arg name text ws is)

pub part_missing : (entries : List OptionEntry) (given : Given) (args : List Text) →
    0 < length args → part_of args ≡ None → given_after entries (Some given) args ≡ None
unfolding given_after
part_missing entries given [] inside e = absurd (omega (arith, inside))
part_missing entries given (arg ∷ args) inside e = by_cases (long_of arg) args refl e
  where
    by_cases : (p : Option (Text × Option Text)) (args : List Text) → long_of arg ≡ p →
        part_by p args ≡ None → given_after entries (Some given) (arg ∷ args) ≡ None
    by_cases None [] is none = ap (λ (p : Option (Text × Option Text)). option_joined entries p given) is
    by_cases None (text ∷ ws) is none =
        ap (λ (p : Option (Text × Option Text)). if is_joined p
        then given_after entries (option_joined entries p given) (text ∷ ws)
        else given_after entries (parted entries p text given) ws) is ∙ none_stays entries ws
    by_cases (Some (name, Some text)) ws is none = search rules
    by_cases (Some (name, None)) [] is none = ap (λ (p : Option (Text × Option Text)). option_joined entries p given) is
    by_cases (Some (name, None)) (text ∷ ws) is none = search rules

-- ---- names before a place

any-append : {X : Type 0} (p : X → Bool) (xs ys : List X) → list_any p (xs ++ ys) ≡ list_any p xs || list_any p ys
any-append p [] ys = refl
any-append p (x ∷ xs) ys = by_cases (p x) (any-append p xs ys)
  where
    by_cases : (b : Bool) → list_any p (xs ++ ys) ≡ list_any p xs || list_any p ys →
        b || list_any p (xs ++ ys) ≡ (b || list_any p xs) || list_any p ys
    by_cases true more = refl
    by_cases false more = more

names_of_long : (other arg name : Text) (text : Option Text) → long_of arg ≡ Some (name, text) →
    names other arg ≡ bytes_eq name other
names_of_long other arg name text is =
    ap (λ (p : Option (Text × Option Text)). option_map_or (λ q. bytes_eq q.0 other) p false) is

abbrev Named : Text → List Text → Part → Type 0
Named other args part = is_named_in other (take part.2 args) ≡ bytes_eq part.0 other

-- the arguments of an option name it alone
pub part_named : (other : Text) (args : List Text) (part : Part) → part_of args ≡ Some part →
    IsPlain part.1 → Named other args part
part_named other [] part e plain = search rules
part_named other (arg ∷ args) part e plain = by_cases (long_of arg) args refl e
  where
    -- By how the option is written: `--name=TEXT` is one argument, which names the option itself.
    -- With `--name` the value is a second argument, and a plain one names no option.
    by_cases : (p : Option (Text × Option Text)) (args : List Text) → long_of arg ≡ p →
        part_by p args ≡ Some part → Named other (arg ∷ args) part
    by_cases None ws is found = search rules
    by_cases (Some (name, Some text)) ws is found =
        subst (Named other (arg ∷ ws)) (same_part (name, text, 1) part found)
        (or-false (names other arg) ∙ names_of_long other arg name (Some text) is)
    by_cases (Some (name, None)) [] is found = search rules
    by_cases (Some (name, None)) (text ∷ ws) is found =
        let same = same_part (name, text, 2) part found in
        let quiet : IsPlain text = subst (λ (t : Text). IsPlain t) (sym (ap (λ (q : Part). q.1) same)) plain in
        let unnamed : names other text ≡ false =
        ap (λ (p : Option (Text × Option Text)). option_map_or (λ q. bytes_eq q.0 other) p false)
        quiet.long in
        subst (Named other (arg ∷ text ∷ ws)) same
        (ap (λ (b : Bool). names other arg || (b || false)) unnamed ∙ or-false (names other arg)
        ∙ names_of_long other arg name None is)

-- ---- the test of all arguments

take-plus : {X : Type 0} (k m n : ℕ) (xs : List X) → k ≡ m + n → take k xs ≡ take m xs ++ take n (drop m xs)
take-plus k zero n xs e = let same : k ≡ n = omega (arith, e) in ap (λ (i : ℕ). take i xs) same
take-plus zero (suc m) n xs e = absurd (omega (arith, e))
take-plus (suc k) (suc m) zero [] e = refl
take-plus (suc k) (suc m) (suc n) [] e = refl
take-plus (suc k) (suc m) n (x ∷ xs) e = ap (λ ys. x ∷ ys) (take-plus k m n xs (omega (arith, e)))

drop-plus : {X : Type 0} (k m n : ℕ) (xs : List X) → k ≡ m + n → drop k xs ≡ drop n (drop m xs)
drop-plus k zero n xs e = let same : k ≡ n = omega (arith, e) in ap (λ (i : ℕ). drop i xs) same
drop-plus zero (suc m) n xs e = absurd (omega (arith, e))
drop-plus (suc k) (suc m) zero [] e = refl
drop-plus (suc k) (suc m) (suc n) [] e = refl
drop-plus (suc k) (suc m) n (x ∷ xs) e = drop-plus k m n xs (omega (arith, e))

-- what was given before a place
abbrev pub Stands : List OptionEntry → List Text → ℕ → Type 0
Stands entries texts place =
    (given : Given)
    × (given_after entries (Some []) texts ≡ given_after entries (Some given) (drop place texts))
    × ((name : Text) → has_name name given ≡ is_named_in name (take place texts))

is_added : (entries : List OptionEntry) (name text : Text) (given : Given) (allowed has : Bool) →
    is_allowed entries name text ≡ allowed → has_name name given ≡ has → added entries name text given ≡
    (if allowed && not has then Some (given ++ (name, text) ∷ []) else None)
is_added entries name text given allowed has a h =
    ap₂ (λ (x y : Bool). if x && not y then Some (given ++ (name, text) ∷ []) else None) a h

-- one option more
pub stands_next : (entries : List OptionEntry) (texts : List Text) (place next : ℕ) (part : Part) →
    next ≡ place + part.2 → part_of (drop place texts) ≡ Some part →
    is_named_in part.0 (take place texts) ≡ false → is_allowed entries part.0 part.1 ≡ true →
    Stands entries texts place → Stands entries texts next
stands_next entries texts place next part next_is is unnamed allowed s =
    let given = s.0 in
    let more : Given = given ++ (part.0, part.1) ∷ [] in
    let fresh : has_name part.0 given ≡ false = s.2 part.0 ∙ unnamed in
    let added_is : added entries part.0 part.1 given ≡ Some more =
    is_added entries part.0 part.1 given true false allowed fresh in (
      more,
      s.1 ∙ part_step entries given (drop place texts) part is
          ∙ ap (λ (g : Option Given). given_after entries g (drop part.2 (drop place texts))) added_is
          ∙ ap (given_after entries (Some more)) (sym (drop-plus next place part.2 texts next_is)),
      λ name. any-append (λ (p : Text × Text). bytes_eq p.0 name) given ((part.0, part.1) ∷ [])
          ∙ ap (λ (b : Bool). has_name name given || b) (or-false (bytes_eq part.0 name))
          ∙ ap₂ (λ (a b : Bool). a || b) (s.2 name)
          (sym (part_named name (drop place texts) part is (value_plain entries part.0 part.1 allowed)))
          ∙ sym (any-append (names name) (take place texts) (take part.2 (drop place texts)))
          ∙ ap (is_named_in name) (sym (take-plus next place part.2 texts next_is)),
    )

-- the arguments aren't in the grammar
pub stands_missing : (entries : List OptionEntry) (texts : List Text) (place : ℕ) →
    0 < length (drop place texts) → part_of (drop place texts) ≡ None → Stands entries texts place →
    false ≡ is_some (given_after entries (Some []) texts)
stands_missing entries texts place inside is s =
    sym (ap is_some (s.1 ∙ part_missing entries s.0 (drop place texts) inside is))

refused : (entries : List OptionEntry) (texts : List Text) (place : ℕ) (part : Part)
    (s : Stands entries texts place) → part_of (drop place texts) ≡ Some part →
    added entries part.0 part.1 s.0 ≡ None → false ≡ is_some (given_after entries (Some []) texts)
refused entries texts place part s is none =
    sym (ap is_some (s.1 ∙ part_step entries s.0 (drop place texts) part is
    ∙ ap (λ (g : Option Given). given_after entries g (drop part.2 (drop place texts))) none
    ∙ none_stays entries (drop part.2 (drop place texts))))

pub stands_twice : (entries : List OptionEntry) (texts : List Text) (place : ℕ) (part : Part) →
    part_of (drop place texts) ≡ Some part → is_named_in part.0 (take place texts) ≡ true →
    Stands entries texts place → false ≡ is_some (given_after entries (Some []) texts)
stands_twice entries texts place part is named s =
    refused entries texts place part s is
    (by_cases (is_allowed entries part.0 part.1) (is_added entries part.0 part.1 s.0
    (is_allowed entries part.0 part.1) true refl (s.2 part.0 ∙ named)))
  where
    by_cases : (b : Bool) → added entries part.0 part.1 s.0 ≡
        (if b && not true then Some (s.0 ++ (part.0, part.1) ∷ []) else None) → added entries part.0 part.1 s.0 ≡ None
    by_cases true e = e
    by_cases false e = e

pub stands_refused : (entries : List OptionEntry) (texts : List Text) (place : ℕ) (part : Part) →
    part_of (drop place texts) ≡ Some part → is_allowed entries part.0 part.1 ≡ false →
    Stands entries texts place → false ≡ is_some (given_after entries (Some []) texts)
stands_refused entries texts place part is not_allowed s =
    refused entries texts place part s is
    (is_added entries part.0 part.1 s.0 false (has_name part.0 s.0) not_allowed refl)

-- all arguments were read
pub stands_last : (entries : List OptionEntry) (texts : List Text) (place : ℕ) → length texts ≤ place →
    Stands entries texts place → true ≡ is_some (given_after entries (Some []) texts)
unfolding given_after
stands_last entries texts place past s =
    sym (ap is_some (s.1 ∙ ap (given_after entries (Some s.0)) (drop_all place texts past)))

-- ---- the texts of arguments

pub texts_after : (args : List (String Global)) (k : ℕ) → k ≤ length args →
    map string_bytes (take (length args - k) (drop k args)) ≡ drop k (map string_bytes args)
texts_after args k inside =
    let all : length (drop k args) ≤ length args - k = rw (length-drop k args) (omega arith) in
    ap (map string_bytes) (take_all (length args - k) (drop k args) all)
    ∙ sym (drop-map string_bytes k args)

pub texts_before : (args : List (String Global)) (k : ℕ) →
    map string_bytes (take k args) ≡ take k (map string_bytes args)
texts_before args k = sym (take-map string_bytes k args)

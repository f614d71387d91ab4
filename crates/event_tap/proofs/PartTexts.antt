-- Lemmas on what lines of messages have in common: items joined by commas, values after their
-- names, and the text of few bits.
use Rattle.event_tap.proofs.Common.{◌≡◌, ℕ, zero, suc, ◌+◌, ◌^◌, ◌<◌, ◌≤◌, ◌&&◌, nat_lt, Bool, true, List, [], ◌∷◌, ◌++◌, length, get_or}
use Rattle.event_tap.proofs.Common.{take, codes, decimal, sym, ap, ◌∙◌, arith, rules, append_assoc, append-nil, length-append, list_all}
use Rattle.event_tap.proofs.Common.{IsAscii, length-decimal-le, flat_map_more, AllPass-from_list_all, IsAscii-from_all, fit_value, commas}
use Rattle.event_tap.proofs.Common.{are_short, comma_before, named_values}
use Rattle.std.proofs.lemmas.Bool.{and_parts}
use Rattle.hex.specs.Hex.{encode_lower, lower_digits}
use Rattle.hex.proofs.HexLemmas.{length-encode_with}
use Rattle.chip_core.specs.Fields.{field, FieldsFit, in_widths}
use Rattle.line_text.specs.Texts.{bit_text, spaced_key, octet_count, packed_octets, padded}
use Rattle.line_text.proofs.Digits.{all_below, length-packed}

-- no items yet
pub no_items : (before : List ℕ) → before ≡ before ++ commas []
unfolding commas
no_items before = sym (append-nil before)

-- one item more after others
commas_push : (items : List (List ℕ)) (item : List ℕ) →
    commas (items ++ item ∷ []) ≡ (commas items ++ comma_before (length items)) ++ item
unfolding commas
commas_push [] item = append-nil item
commas_push (first ∷ items) item =
    sym (append_assoc (commas (first ∷ items)) (codes ",") item
    ∙ flat_map_more (λ (next : List ℕ). codes "," ++ next) first items item)

-- a comma and an item after those before it
pub comma_item : (before text with_comma next : List ℕ) (items : List (List ℕ)) (i : ℕ)
    (item : List ℕ) → length items ≡ i → text ≡ before ++ commas items →
    with_comma ≡ text ++ comma_before i → next ≡ with_comma ++ item → next ≡ before ++ commas (items ++ item ∷ [])
comma_item before text with_comma next items i item long is added following =
    following ∙ ap (λ (xs : List ℕ). xs ++ item) (added
    ∙ ap (λ (xs : List ℕ). xs ++ comma_before i) is
    ∙ append_assoc before (commas items) (comma_before i))
    ∙ append_assoc before (commas items ++ comma_before i) item
    ∙ ap (λ (n : ℕ). before ++ ((commas items ++ comma_before n) ++ item)) (sym long)
    ∙ ap (λ (xs : List ℕ). before ++ xs) (sym (commas_push items item))

-- VALUES AFTER THEIR NAMES

pub no_values : (before : List ℕ) → before ≡ before ++ named_values [] []
unfolding named_values
no_values before = sym (append-nil before)

-- The text of i + 1 values is that of the first i, and then the next value after its name, by
-- induction over the fields: the first field's text stands in front of both.
named_values-more : (names : List (List ℕ)) (values : List ℕ) (i : ℕ) → i < length names → i < length values →
    named_values (take (i + 1) names) (take (i + 1) values) ≡ named_values (take i names) (take i values)
    ++ (spaced_key (get_or names i []) ++ decimal (get_or values i 0))
unfolding named_values
named_values-more [] values i a b = absurd (omega (arith, a))
named_values-more (name ∷ names) [] i a b = absurd (omega (arith, b))
named_values-more (name ∷ names) (value ∷ values) zero a b = append-nil (spaced_key name ++ decimal value)
named_values-more (name ∷ names) (value ∷ values) (suc i) a b =
    let more : suc i + 1 ≡ suc (i + 1) = omega arith in
    let field = spaced_key name ++ decimal value in
    rw more
    (ap (λ (text : List ℕ). field ++ text) (named_values-more names values i (omega (arith, a)) (omega (arith, b)))
    ∙ sym (append_assoc field (named_values (take i names) (take i values))
    (spaced_key (get_or names i []) ++ decimal (get_or values i 0))))

-- a name and a value after those before them
pub value_after : (before text next name : List ℕ) (names : List (List ℕ)) (values : List ℕ)
    (i : ℕ) → i < length names → i < length values →
    text ≡ before ++ named_values (take i names) (take i values) → name ≡ get_or names i [] →
    next ≡ text ++ (spaced_key name ++ decimal (get_or values i 0)) →
    next ≡ before ++ named_values (take (i + 1) names) (take (i + 1) values)
value_after before text next name names values i a b is same following =
    let so_far = named_values (take i names) (take i values) in
    let value = decimal (get_or values i 0) in
    let field = spaced_key (get_or names i []) ++ value in
    following
    ∙ ap (λ (n : List ℕ). text ++ (spaced_key n ++ value)) same
    ∙ ap (λ (xs : List ℕ). xs ++ field) is
    ∙ append_assoc before so_far field
    ∙ ap (λ (xs : List ℕ). before ++ xs) (sym (named_values-more names values i a b))

pub length-named : (name : List ℕ) → length (spaced_key name) ≡ length name + 2
length-named name = omega (arith, length-append (codes " " ++ name) (codes "="))

-- names and values of a table of short ones
name_test : (names : List (List ℕ)) (widths : List ℕ) (i : ℕ) → are_short names widths ≡ true → i < length names →
    (list_all (λ byte. nat_lt byte 128) (get_or names i [])
    && nat_lt (length (get_or names i [])) 8) ≡ true
unfolding are_short
name_test names widths i short within =
    AllPass-from_list_all (λ (name : List ℕ). list_all (λ byte. nat_lt byte 128) name && nat_lt (length name) 8) names
    (and_parts (list_all (λ (name : List ℕ). list_all (λ byte. nat_lt byte 128) name
    && nat_lt (length name) 8) names)
    (list_all (λ (width : ℕ). nat_lt (2 ^ width) (10 ^ 7)) widths) short).0 i [] within

pub name_ascii : (names : List (List ℕ)) (widths : List ℕ) (i : ℕ) →
    are_short names widths ≡ true → i < length names → IsAscii (get_or names i [])
name_ascii names widths i short within =
    let name = get_or names i [] in
    let both = and_parts (list_all (λ byte. nat_lt byte 128) name) (nat_lt (length name) 8)
    (name_test names widths i short within) in
    IsAscii-from_all name (all_below name both.0)

pub name_short : (names : List (List ℕ)) (widths : List ℕ) (i : ℕ) →
    are_short names widths ≡ true → i < length names → length (get_or names i []) ≤ 7
name_short names widths i short within =
    let name = get_or names i [] in
    let both = and_parts (list_all (λ byte. nat_lt byte 128) name) (nat_lt (length name) 8)
    (name_test names widths i short within) in
    let test = both.1 in
    let below : length name < 8 = search rules in
    omega (arith, below)

pub value_short : (names : List (List ℕ)) (widths values : List ℕ) (i : ℕ) →
    are_short names widths ≡ true → FieldsFit (in_widths widths values) → i < length widths →
    i < length values → get_or values i 0 < 10 ^ 7
unfolding are_short
value_short names widths values i short fit within following =
    let test = AllPass-from_list_all (λ (width : ℕ). nat_lt (2 ^ width) (10 ^ 7)) widths
    (and_parts (list_all (λ (name : List ℕ). list_all (λ byte. nat_lt byte 128) name
    && nat_lt (length name) 8) names)
    (list_all (λ (width : ℕ). nat_lt (2 ^ width) (10 ^ 7)) widths) short).1 i 0 within in
    let below : 2 ^ (get_or widths i 0) < 10 ^ 7 = search rules in
    omega (arith, below, fit_value widths values i fit within following)

-- THE TEXT OF FEW BITS

-- two digits for each octet, after at most two for the count and a colon
length-few_bits : (bits : List Bool) → length bits ≤ 56 → length (bit_text bits) ≤ 17
unfolding bit_text
length-few_bits bits few =
    let inside = packed_octets (octet_count bits) (padded bits) in
    omega (
      arith,
      few,
      length-append (decimal (length bits) ++ codes ":") (encode_lower inside),
      length-append (decimal (length bits)) (codes ":"),
      length-decimal-le 2 (length bits) (omega arith) (omega (arith, few)) (omega (arith, few)),
      length-encode_with lower_digits inside,
      length-packed (octet_count bits) (padded bits),
    )

-- they stand alone in a text
pub few_alone : (empty alone whole : List ℕ) (bits : List Bool) → empty ≡ [] →
    alone ≡ empty ++ bit_text bits → whole ≡ alone → length bits ≤ 56 → length whole ≤ 17
few_alone empty alone whole bits none made is few =
    let text : whole ≡ bit_text bits = is ∙ made ∙ ap (λ (t : List ℕ). t ++ bit_text bits) none in
    omega (arith, ap length text, length-few_bits bits few)

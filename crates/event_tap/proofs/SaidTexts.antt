-- Lemmas on the lines of messages, by their layouts: how long records are, and which layouts have a
-- line.
use Rattle.event_tap.proofs.Common.{◌≡◌, ℕ, ◌+◌, ◌*◌, ◌^◌, ◌<◌, ◌≤◌, Bool, true, List, [], ◌∷◌, ◌++◌, length, get_or, codes, decimal, refl}
use Rattle.event_tap.proofs.Common.{sym, ap, subst, ◌∙◌, arith, inl, inr, nat_le, nat_lt, Option, None, Some, slice_get, cond, append_assoc}
use Rattle.event_tap.proofs.Common.{length-append, zero, suc, ◌≢◌, length-decimal-le, get_or-map, get_or_default, length-map, list_all}
use Rattle.event_tap.proofs.Common.{AllPass-from_list_all, IsAscii-from_all, IsAscii, fit_value, get-lengths, record_fit, three_long, share}
use Rattle.event_tap.proofs.Common.{height, record_at, shares, are_short, columns_text, digits_in, end_bytes, field_bytes, has_line}
use Rattle.event_tap.proofs.Common.{is_short_width, line_tests, list_bytes, record_bytes, slash_text, FillColumns, IsShown}
use Rattle.std.proofs.lemmas.Bool.{and_parts, cases_lt, le-ltb, leb-true, lt-ltb}
use Rattle.std.proofs.lemmas.Option.{get_or_from_slice_get}
use Rattle.line_text.proofs.Digits.{all_below}
use Rattle.message_layout.specs.Shapes.{line_names, shape, MessageShape}
use Rattle.message_layout.specs.Spelling.{IsOf}
use Rattle.message_layout.specs.declared.contents.Contents.{Contents}
use Rattle.message_layout.specs.declared.layout.MessageLayout.{MessageLayout}
use Rattle.paging_message.proofs.ByLayout.{passes}
use Rattle.paging_message.specs.Layouts.{paging_names_of, paging_shape_of}

-- what stands after a text stands in front of what follows it
pub in_front : (text a b c d e : List ℕ) → ((((text ++ a) ++ b) ++ c) ++ d) ++ e ≡ text ++ ((((a ++ b) ++ c) ++ d) ++ e)
in_front text a b c d e =
    ap (λ (xs : List ℕ). ((xs ++ c) ++ d) ++ e) (append_assoc text a b)
    ∙ ap (λ (xs : List ℕ). (xs ++ d) ++ e) (append_assoc text (a ++ b) c)
    ∙ ap (λ (xs : List ℕ). xs ++ e) (append_assoc text ((a ++ b) ++ c) d)
    ∙ append_assoc text (((a ++ b) ++ c) ++ d) e

-- RECORDS
-- a number of a record has few digits
digits_at : (widths : List ℕ) (columns : List (List ℕ)) (i j : ℕ) → FillColumns widths columns →
    i < height columns → j < length widths →
    length (decimal (get_or (get_or columns j []) i 0)) ≤ digits_in (get_or widths j 0)
digits_at widths columns i j l h within =
    let width = get_or widths j 0 in
    let fits = l.fit i j h within in
    let test = and_parts (nat_le (2 ^ width) (2 ^ 32)) (nat_le (2 ^ width) (10 ^ digits_in width))
    (AllPass-from_list_all is_short_width widths l.short j 0 within) in
    length-decimal-le (digits_in width) (get_or (get_or columns j []) i 0) (omega arith)
    (omega (arith, fits, leb-true (2 ^ width) (10 ^ digits_in width) test.1))
    (omega (arith, fits, leb-true (2 ^ width) (2 ^ 32) test.0))

-- and as little text
slash_short : (widths : List ℕ) (columns : List (List ℕ)) (i j : ℕ) → FillColumns widths columns →
    i < height columns → get_or (shares widths (height columns)) j 0 ≡ share widths (height columns) j →
    length (slash_text i (get_or columns j [])) ≤ field_bytes widths j
slash_short widths columns i j l h here =
    let column = get_or columns j [] in
    let long = sym (get-lengths columns j) ∙ ap (λ (ns : List ℕ). get_or ns j 0) l.even ∙ here in
    elim (cases_lt j (length widths)) [
      | inl within ↦
          let inside = lt-ltb j (length widths) within in
          let read = lt-ltb i (length column)
          (subst (λ n. i < n) (sym (long ∙ ap (λ b. cond b (height columns) 0) inside)) h) in
          rw (inside, read) (omega (
            arith,
            digits_at widths columns i j l h within,
            length-append (codes "/") (decimal (get_or column i 0)),
          ))
      | inr past ↦
          let outside = le-ltb j (length widths) past in
          let none = le-ltb i (length column) (omega (arith, long ∙ ap (λ b. cond b (height columns) 0) outside)) in
          rw (outside, none) (omega arith)
    ]

pub record_short : (widths : List ℕ) (columns : List (List ℕ)) (i : ℕ) → FillColumns widths columns →
    i < height columns → length (columns_text columns i) < record_bytes widths
record_short widths columns i l h =
    let one = decimal (get_or (get_or columns 0 []) i 0) in
    let two = slash_text i (get_or columns 1 []) in
    let first = lt-ltb 0 (length widths) (omega (arith, l.some)) in
    omega (
      arith,
      length-append (one ++ two) (slash_text i (get_or columns 2 [])),
      length-append one two,
      digits_at widths columns i 0 l h (omega (arith, l.some)),
      ap (λ b. cond b (digits_in (get_or widths 0 0) + 1) 0) first,
      slash_short widths columns i 1 l h refl,
      slash_short widths columns i 2 l h refl,
    )

-- a number that was read in a column
pub column_number : (columns : List (List ℕ)) (j i : ℕ) (column : List ℕ) (n : ℕ) →
    j < length columns → slice_get (get_or columns j column) i ≡ Some n → get_or (get_or columns j []) i 0 ≡ n
column_number columns j i column n h read =
    ap (λ (c : List ℕ). get_or c i 0) (get_or_default columns j [] column h)
    ∙ get_or_from_slice_get (get_or columns j column) i n 0 read

-- LAYOUTS WITH A LINE
some_end : (most : Option ℕ) → 44 ≤ end_bytes most
some_end None = omega arith
some_end (Some most) = omega arith

some_length : (n : ℕ) → n ≢ 0 → 1 ≤ n
some_length zero some = absurd (some refl)
some_length (suc n) some = omega arith

ascii_name : (name : List ℕ) → list_all (λ byte. nat_lt byte 128) name ≡ true → IsAscii name
ascii_name name all = IsAscii-from_all name (all_below name all)

-- the numbers of contents of it fit
numbers_fit : (s : MessageShape) (c : Contents) (i j : ℕ) → IsOf s c → length s.records ≤ 3 →
    i < height c.columns → j < length s.records → get_or (get_or c.columns j []) i 0 < 2 ^ get_or s.records j 0
numbers_fit s c i j is few h within =
    let number = λ (column : List ℕ). get_or column i 0 in
    let three = three_long s.records (height c.columns) c.columns is.columns in
    let inside : j < length c.columns = omega (arith, three, few, within) in
    subst (λ n. n < 2 ^ get_or s.records j 0) (get_or-map number c.columns j [] 0 inside)
    (fit_value s.records (record_at i c.columns) j
    (record_fit s.records (height c.columns) i c.columns h is.records) within
    (omega (arith, length-map c.columns number, inside)))

-- Contents of a layout that passes the tests of lines have all that writing the line asks for: each
-- of the seven tests gives one bound or says that a name is ASCII, and that values fit their widths
-- is known of the contents.
pub is_shown : (layout : MessageLayout) (c : Contents) → IsOf (shape layout) c →
    has_line (line_names layout) (shape layout) ≡ true → IsShown layout c
unfolding has_line
is_shown layout c is h =
    let s = shape layout in
    let names = line_names layout in
    let passed = AllPass-from_list_all (λ (test : Bool). test) (line_tests names s) h in
    let few = leb-true (length s.records) 3 (passed 3 true (omega arith)) in
    record {
      said = is;
      word = ascii_name names.word (passed 1 true (omega arith));
      list = ascii_name names.list (passed 2 true (omega arith));
      short = passed 0 true (omega arith);
      records = λ listed. record {
        some = omega (
          arith,
          some_length (length layout.records.fields.now) listed,
          length-map layout.records.fields.now (λ row. row.1),
        );
        few = few;
        even = is.columns;
        fit = λ i j. numbers_fit s c i j is few;
        short = passed 4 true (omega arith);
      };
      end = passed 5 true (omega arith);
      some = some_end layout.most;
      room = omega (
        arith,
        length-map layout.fixed.now (λ row. row.1),
        leb-true (96 + length names.word + 16 * length s.fixed + list_bytes names.list s.records
            + end_bytes s.most) 1024 (passed 6 true (omega arith)),
      );
    }

-- each type of messages of the paging channel
pub paging_lines : (k : ℕ) → has_line (paging_names_of k) (paging_shape_of k) ≡ true
unfolding has_line are_short
paging_lines = passes (λ row. has_line row.names row.shape) refl (λ k. refl)

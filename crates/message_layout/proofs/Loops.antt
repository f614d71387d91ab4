-- Loops over the fields of a table and over records: what holds after the first n of them.
use Rattle.message_layout.proofs.Common.{◌≡◌, ℕ, zero, suc, ◌+◌, ◌*◌, ◌<◌, ◌≤◌, Bool, List, [], ◌∷◌, ◌++◌, length, get_or, map, take, drop}
use Rattle.message_layout.proofs.Common.{refl, sym, ap, ◌∙◌, arith, inl, inr, Some, None, cases_lt, le-leb, leb-true, lt-leb, nat_le, subst}
use Rattle.message_layout.proofs.Common.{length-drop, length-take-le, take_all, number_part, mul-le-mul_right, column_in, length-map, true}
use Rattle.message_layout.proofs.Common.{pow-le-pow_right, suc-mul, number, total_width, AreWidths, number_at, values_at, column_at, false}
use Rattle.message_layout.proofs.Common.{column_more, dropped, ◌^◌, field, in_widths, FieldsFit, taken_more, length-column, total_more}
use Rattle.message_layout.proofs.Common.{total_room, lt-ltb, values_more, width_within, count_in, fields_at}
use Rattle.message_layout.proofs.Columns.{fit_append}
use Rattle.message_layout.proofs.Lawful.{count_room}
use Rattle.message_layout.proofs.Parts.{guard_some, some_is}

-- ONE NUMBER
number_there : (w : ℕ) (bits : List Bool) → w ≤ length bits →
    number_part w bits ≡ Some (number_at 0 w bits, drop w bits)
unfolding number_part
number_there w bits room = rw (le-leb w (length bits) room) refl

-- what was read of a number
pub number_taken : (w n : ℕ) (bits after : List Bool) → Some (n, after) ≡ number_part w bits →
    (w ≤ length bits) × (n ≡ number (take w bits)) × (after ≡ drop w bits)
unfolding number_part
number_taken w n bits after e =
    let read : ℕ × List Bool = (number_at 0 w bits, drop w bits) in
    let g = guard_some (nat_le w (length bits)) (Some read) (n, after) (sym e) in
    let same : (n, after) ≡ read = sym (some_is read (n, after) g.1) in (
      leb-true w (length bits) g.0,
      ap (λ (x : ℕ × List Bool). x.0) same,
      ap (λ (x : ℕ × List Bool). x.1) same,
    )

pub number_short : (w : ℕ) (bits : List Bool) → None ≡ number_part w bits → length bits < w
number_short w bits e =
    elim (cases_lt (length bits) w) [
      | inl less ↦ less
      | inr more ↦
          let read : ℕ × List Bool = (number_at 0 w bits, drop w bits) in
          let both : None ≡ Some read = e ∙ number_there w bits more in
          absurd (cc)
    ]

-- FIELDS THAT ARE READ
pub record FieldsRead (ws : List ℕ) (i : ℕ) (bits : List Bool) (values : List ℕ)
    (reader : List Bool) : Type 0 where
  pub read : values ≡ values_at (take i ws) bits
  pub left : reader ≡ drop (total_width (take i ws)) bits
  pub room : total_width (take i ws) ≤ length bits

pub length-values : (ws : List ℕ) (bits : List Bool) → length (values_at ws bits) ≡ length ws
length-values [] bits = refl
length-values (w ∷ ws) bits = ap suc (length-values ws (drop w bits))

pub fields_more : (ws : List ℕ) (i : ℕ) (bits reader after : List Bool) (values next : List ℕ)
    (w n : ℕ) → i < length ws → FieldsRead ws i bits values reader → w ≡ get_or ws i 0 →
    w ≤ length reader → n ≡ number (take w reader) → after ≡ drop w reader →
    next ≡ values ++ n ∷ [] → FieldsRead ws (i + 1) bits next after
fields_more ws i bits reader after values next w n h so_far width room value following push =
    let place = total_width (take i ws) in
    let more = total_more ws i h in
    let there : n ≡ number_at place (get_or ws i 0) bits =
    value ∙ ap (λ (r : List Bool). number (take w r)) so_far.left
    ∙ ap (λ (k : ℕ). number_at place k bits) width in
    record {
      read = push ∙ ap (λ (vs : List ℕ). vs ++ n ∷ []) so_far.read
          ∙ ap (λ (v : ℕ). values_at (take i ws) bits ++ v ∷ []) there
          ∙ sym (values_more ws i bits h);
      left = following ∙ ap (drop w) so_far.left ∙ dropped w place bits
          ∙ ap (λ (k : ℕ). drop k bits)
          (let e : place + w ≡ total_width (take (i + 1) ws) = omega (arith, more, width) in e);
      room = omega (
        arith,
        more,
        width,
        room,
        so_far.room,
        ap length so_far.left,
        length-drop place bits,
      );
    }

-- After all fields of the table the values that were read are those of the definition, and so are
-- the bits that are left: there was room for each field, so there is room for all.
pub fields_end : (ws : List ℕ) (i : ℕ) (bits reader : List Bool) (values : List ℕ) →
    length ws ≤ i → FieldsRead ws i bits values reader →
    Some (values, reader) ≡ fields_at ws bits
unfolding fields_at
fields_end ws i bits reader values h so_far =
    let all : take i ws ≡ ws = take_all i ws h in
    let room : total_width ws ≤ length bits = rw all at so_far.room in
    let read : values ≡ values_at ws bits = rw all at so_far.read in
    let left : reader ≡ drop (total_width ws) bits = rw all at so_far.left in
    rw (le-leb (total_width ws) (length bits) room, read, left) refl

pub fields_stop : (ws : List ℕ) (i : ℕ) (bits reader : List Bool) (values : List ℕ) (w : ℕ) →
    i < length ws → FieldsRead ws i bits values reader → w ≡ get_or ws i 0 →
    length reader < w → None ≡ fields_at ws bits
unfolding fields_at
fields_stop ws i bits reader values w h so_far width short =
    let place = total_width (take i ws) in
    let long : length bits < total_width ws =
    omega (
      arith,
      total_room ws i h,
      width,
      short,
      so_far.room,
      ap length so_far.left,
      length-drop place bits,
    ) in
    rw (lt-leb (total_width ws) (length bits) long) refl

pub fields_few : (ws : List ℕ) (i : ℕ) (bits reader : List Bool) (values : List ℕ) →
    i ≤ length ws → FieldsRead ws i bits values reader → length values ≡ i
fields_few ws i bits reader values h so_far =
    ap length so_far.read ∙ length-values (take i ws) bits ∙ length-take-le i ws h

-- WIDTHS THAT ARE ADDED UP
pub record Summed (ws : List ℕ) (i size : ℕ) : Type 0 where
  pub value : size ≡ total_width (take i ws)
  pub small : size ≤ 64 * i

pub summed_more : (ws : List ℕ) (i size w next : ℕ) → AreWidths ws → i < length ws →
    Summed ws i size → w ≡ get_or ws i 0 → next ≡ size + w → Summed ws (i + 1) next
summed_more ws i size w next are h so_far width push =
    let one = width_within ws i are h in
    record {
      value = omega (arith, push, so_far.value, width, total_more ws i h);
      small = omega (arith, push, so_far.small, width, one.1);
    }

-- the first rows of a table have widths where all do
pub widths_taken : {A : Type 0} (f : A → ℕ) (rows : List A) (j : ℕ) → AreWidths (map f rows) →
    AreWidths (map f (take j rows))
widths_taken f rows zero are = tt
widths_taken f [] (suc j) are = tt
widths_taken f (row ∷ rows) (suc j) are = (are.0, are.1, widths_taken f rows j are.2)

-- NUMBERS OF RECORDS
-- as many records as fit end within the bits
pub records_end : (ws : List ℕ) (count size few all : ℕ) → count ≡ count_in ws few →
    size ≡ total_width ws → few ≡ all → count * size ≤ all
records_end ws count size few all a b c = rw (a, b, ← c) (count_room ws few)

-- a number of at most 32 bits is below two to the power of 32
pub number_small : (n width : ℕ) → n < 2 ^ width → width ≤ 32 → n < 2 ^ 32
number_small n width fits most =
    let two : 0 < 2 = omega arith in
    omega (arith, fits, pow-le-pow_right two most)

-- each of them ends within the bits
pub place_within : (size first width i count all : ℕ) → i < count →
    first + width + count * size ≤ all + size → i * size + first + width ≤ all
place_within size first width i count all h within =
    let most : suc i * size ≤ count * size =
    mul-le-mul_right size (let e : suc i ≤ count = omega (arith, h) in e) in
    omega (arith, most, suc-mul i size, within)

-- the numbers after a place of a list
pub column_moved : (base size place width n : ℕ) (bits : List Bool) →
    column_at size (base + place) width n bits ≡ column_at size place width n (drop base bits)
column_moved base size place width zero bits = refl
column_moved base size place width (suc n) bits =
    let one : number_at (base + place) width bits ≡ number_at place width (drop base bits) =
    ap (λ (r : List Bool). number (take width r)) (sym (dropped place base bits)) in
    let order : drop base (drop size bits) ≡ drop size (drop base bits) =
    dropped base size bits ∙ ap (λ (k : ℕ). drop k bits)
    (let e : size + base ≡ base + size = omega arith in e) ∙ sym (dropped size base bits) in
    let more : column_at size (base + place) width n (drop size bits)
    ≡ column_at size place width n (drop size (drop base bits)) =
    column_moved base size place width n (drop size bits)
    ∙ ap (column_at size place width n) order in
    ap (λ (k : ℕ). k ∷ column_at size (base + place) width n (drop size bits)) one
    ∙ ap (λ (ns : List ℕ). number_at place width (drop base bits) ∷ ns) more

rows_taken : {A : Type 0} (f : A → ℕ) (rows : List A) (j : ℕ) →
    map f (take j rows) ≡ take j (map f rows)
rows_taken f rows zero = refl
rows_taken f [] (suc j) = refl
rows_taken f (row ∷ rows) (suc j) = ap (λ (ws : List ℕ). f row ∷ ws) (rows_taken f rows j)

-- those of a field
pub column_read : {A : Type 0} (f : A → ℕ) (rows : List A) (j base size place width n : ℕ)
    (bits : List Bool) (read : List ℕ) → j < length rows → size ≡ total_width (map f rows) →
    place ≡ total_width (map f (take j rows)) → width ≡ get_or (map f rows) j 0 →
    read ≡ column_at size (base + place) width n bits →
    read ≡ column_in (map f rows) n j (drop base bits)
column_read f rows j base size place width n bits read h all before wide e =
    let there : place ≡ total_width (take j (map f rows)) = before ∙ ap total_width (rows_taken f rows j) in
    let t = lt-ltb j (length (map f rows)) (omega (arith, h, length-map rows f)) in
    e ∙ column_moved base size place width n bits ∙ rw (t, all, there, wide) refl

pub record PlacesRead (size place width i : ℕ) (bits : List Bool) (at_place : ℕ)
    (numbers : List ℕ) : Type 0 where
  pub there : at_place ≡ i * size + place
  pub read : numbers ≡ column_at size place width i bits

pub places_more : (size place width i : ℕ) (bits : List Bool) (at_place n after : ℕ)
    (numbers next : List ℕ) → PlacesRead size place width i bits at_place numbers →
    n ≡ number_at at_place width bits → next ≡ numbers ++ n ∷ [] → after ≡ at_place + size →
    PlacesRead size place width (i + 1) bits after next
places_more size place width i bits at_place n after numbers next so_far value push step =
    let there : n ≡ number_at (i * size + place) width bits =
    value ∙ ap (λ (k : ℕ). number_at k width bits) so_far.there in
    let e : i + 1 ≡ suc i = omega arith in
    let place_is : (i + 1) * size ≡ i * size + size =
    ap (λ (k : ℕ). k * size) e ∙ suc-mul i size in
    record {
      there = omega (arith, step, so_far.there, place_is);
      read = push ∙ ap (λ (ns : List ℕ). ns ++ n ∷ []) so_far.read
          ∙ ap (λ (v : ℕ). column_at size place width i bits ++ v ∷ []) there
          ∙ sym (column_more size place width i bits);
    }

pub places_few : (size place width i : ℕ) (bits : List Bool) (at_place : ℕ)
    (numbers : List ℕ) → PlacesRead size place width i bits at_place numbers →
    length numbers ≡ i
places_few size place width i bits at_place numbers so_far =
    ap length so_far.read ∙ length-column size place width i bits

-- VALUES THAT FIT
-- one value more fits
pub fit_more : (ws vs : List ℕ) (i : ℕ) → i < length ws → i < length vs →
    FieldsFit (in_widths (take i ws) (take i vs)) → get_or vs i 0 < 2 ^ (get_or ws i 0) →
    FieldsFit (in_widths (take (i + 1) ws) (take (i + 1) vs))
fit_more ws vs i a b so_far fits =
    subst FieldsFit (sym (taken_more ws vs i a b))
    (fit_append (in_widths (take i ws) (take i vs)) (field (get_or ws i 0) (get_or vs i 0) ∷ [])
    so_far (fits, tt))

pub not_both : {b : Bool} → b ≡ false → ¬ (b ≡ true)
not_both left right = cc

-- Records of fields and their columns, spelled and read again.
use Rattle.message_layout.proofs.Common.{◌≡◌, ℕ, zero, suc, ◌+◌, ◌*◌, ◌<◌, ◌≤◌, Bool, List, [], ◌∷◌, ◌++◌, length, get_or, map, take, drop}
use Rattle.message_layout.proofs.Common.{refl, sym, ap, subst, ◌∙◌, arith, append_assoc, length-append, nat_lt, slice_get, inl, inr, Some}
use Rattle.message_layout.proofs.Common.{cases_Bool, lt-ltb, ltb-true, append-nil, drop_at, get_or-take, length-drop, length-map, suc-mul}
use Rattle.message_layout.proofs.Common.{length-take-le, nil_from_length, get_or_from_slice_get, mul-le-mul_right, number, field, spelled}
use Rattle.message_layout.proofs.Common.{in_widths, total_width, FieldsFit, number_at, values_at, column_at, Field, spelled-append, dropped}
use Rattle.message_layout.proofs.Common.{length-column, length-in_widths, total_room, values_again, values_there, head, tail, record_at}
use Rattle.message_layout.proofs.Common.{record_fields, height, share, shares, column_in, columns_in}

pub fit_append : (fs gs : List Field) → FieldsFit fs → FieldsFit gs → FieldsFit (fs ++ gs)
fit_append [] gs p q = q
fit_append (f ∷ fs) gs p q = (p.0, fit_append fs gs p.1 q)

pub fit_front : (fs gs : List Field) → FieldsFit (fs ++ gs) → FieldsFit fs
fit_front [] gs p = tt
fit_front (f ∷ fs) gs p = (p.0, fit_front fs gs p.1)

pub fit_back : (fs gs : List Field) → FieldsFit (fs ++ gs) → FieldsFit gs
fit_back [] gs p = p
fit_back (f ∷ fs) gs p = fit_back fs gs p.1

three : (a b c x y z : List ℕ) → a ≡ x → b ≡ y → c ≡ z → a ∷ b ∷ c ∷ [] ≡ x ∷ y ∷ z ∷ []
three a b c x y z p q r = rw (p, q, r) refl

three_numbers : (a b c x y z : ℕ) → a ≡ x → b ≡ y → c ≡ z → a ∷ b ∷ c ∷ [] ≡ x ∷ y ∷ z ∷ []
three_numbers a b c x y z p q r = rw (p, q, r) refl

-- COLUMNS AND RECORDS
pub get-heads : (columns : List (List ℕ)) (j : ℕ) →
    get_or (map head columns) j 0 ≡ head (get_or columns j [])
get-heads [] j = refl
get-heads (c ∷ columns) zero = refl
get-heads (c ∷ columns) (suc j) = get-heads columns j

pub get-tails : (columns : List (List ℕ)) (j : ℕ) →
    get_or (map tail columns) j [] ≡ tail (get_or columns j [])
get-tails [] j = refl
get-tails (c ∷ columns) zero = refl
get-tails (c ∷ columns) (suc j) = get-tails columns j

pub get-lengths : (columns : List (List ℕ)) (j : ℕ) →
    get_or (map length columns) j 0 ≡ length (get_or columns j [])
get-lengths [] j = refl
get-lengths (c ∷ columns) zero = refl
get-lengths (c ∷ columns) (suc j) = get-lengths columns j

-- numbers past the last field are not sent
pub widths-take : (ws vs : List ℕ) → in_widths ws vs ≡ in_widths ws (take (length ws) vs)
widths-take [] vs = refl
widths-take (w ∷ ws) [] = refl
widths-take (w ∷ ws) (v ∷ vs) = ap (λ (fs : List Field). field w v ∷ fs) (widths-take ws vs)

-- a number stands at its place among the values
pub in_row : (ws : List ℕ) (j : ℕ) (bits : List Bool) → j < length ws →
    number_at (total_width (take j ws)) (get_or ws j 0) bits ≡ get_or (values_at ws bits) j 0
in_row [] j bits h = absurd (omega (arith, h))
in_row (w ∷ ws) zero bits h = refl
in_row (w ∷ ws) (suc j) bits h =
    let there : drop (w + total_width (take j ws)) bits ≡ drop (total_width (take j ws)) (drop w bits) =
    sym (dropped (total_width (take j ws)) w bits) in
    ap (λ (r : List Bool). number (take (get_or ws j 0) r)) there
    ∙ in_row ws j (drop w bits) (omega (arith, h))

-- the columns have their lengths
pub lengths : (ws : List ℕ) (n : ℕ) (columns : List (List ℕ)) →
    map length columns ≡ shares ws n → length ws ≤ 3 → (j : ℕ) → j < length ws →
    length (get_or columns j []) ≡ n
lengths ws n columns long few zero h =
    let t = lt-ltb 0 (length ws) h in
    let e : length (get_or columns 0 []) ≡ share ws n 0 =
    sym (get-lengths columns 0) ∙ ap (λ (ls : List ℕ). get_or ls 0 0) long in
    rw t at e
lengths ws n columns long few (suc zero) h =
    let t = lt-ltb 1 (length ws) h in
    let e : length (get_or columns 1 []) ≡ share ws n 1 =
    sym (get-lengths columns 1) ∙ ap (λ (ls : List ℕ). get_or ls 1 0) long in
    rw t at e
lengths ws n columns long few (suc (suc zero)) h =
    let t = lt-ltb 2 (length ws) h in
    let e : length (get_or columns 2 []) ≡ share ws n 2 =
    sym (get-lengths columns 2) ∙ ap (λ (ls : List ℕ). get_or ls 2 0) long in
    rw t at e
lengths ws n columns long few (suc (suc (suc j))) h = absurd (omega (arith, few, h))

pub three_long : (ws : List ℕ) (n : ℕ) (columns : List (List ℕ)) →
    map length columns ≡ shares ws n → length columns ≡ 3
three_long ws n columns long = sym (length-map columns length) ∙ ap length long

-- READ
column_tail : (ws : List ℕ) (n j : ℕ) (bits : List Bool) →
    tail (column_in ws (suc n) j bits) ≡ column_in ws n j (drop (total_width ws) bits)
column_tail ws n j bits =
    elim (cases_Bool (nat_lt j (length ws))) [
      | inl t ↦ rw t refl
      | inr f ↦ rw f refl
    ]

columns_tail : (ws : List ℕ) (n : ℕ) (bits : List Bool) →
    map tail (columns_in ws (suc n) bits) ≡ columns_in ws n (drop (total_width ws) bits)
columns_tail ws n bits =
    three _ _ _ _ _ _ (column_tail ws n 0 bits) (column_tail ws n 1 bits) (column_tail ws n 2 bits)

columns_head : (ws : List ℕ) (n : ℕ) (bits : List Bool) → length ws ≤ 3 →
    in_widths ws (map head (columns_in ws (suc n) bits)) ≡ in_widths ws (values_at ws bits)
columns_head [] n bits h = refl
columns_head (a ∷ []) n bits h = refl
columns_head (a ∷ b ∷ []) n bits h =
    ap (λ (v : ℕ). field a (number_at 0 a bits) ∷ field b v ∷ [])
    (in_row (a ∷ b ∷ []) 1 bits (omega arith))
columns_head (a ∷ b ∷ c ∷ []) n bits h =
    let ws = a ∷ b ∷ c ∷ [] in
    ap (λ (v : ℕ). field a (number_at 0 a bits) ∷ field b v
    ∷ field c (number_at (total_width (take 2 ws)) c bits) ∷ []) (in_row ws 1 bits (omega arith))
    ∙ ap (λ (v : ℕ). field a (number_at 0 a bits) ∷ field b (get_or (values_at ws bits) 1 0)
    ∷ field c v ∷ []) (in_row ws 2 bits (omega arith))
columns_head (a ∷ b ∷ c ∷ d ∷ ws) n bits h = absurd (omega (arith, h))

-- The bits are the spelling of the records that are read, whose fields all fit, and then what comes
-- after it: by induction over the records, the first one being read before the others.
pub records_there : (ws : List ℕ) (n : ℕ) (bits : List Bool) → length ws ≤ 3 →
    n * total_width ws ≤ length bits →
    FieldsFit (record_fields ws n (columns_in ws n bits))
    × (bits ≡ spelled (record_fields ws n (columns_in ws n bits)) ++ drop (n * total_width ws) bits)
records_there ws zero bits few room =
    let none : 0 ≡ 0 * total_width ws = omega arith in (tt, ap (λ (k : ℕ). drop k bits) none)
records_there ws (suc n) bits few room =
    let size = total_width ws in
    let next : suc n * size ≡ n * size + size = suc-mul n size in
    let all = columns_in ws (suc n) bits in
    let row = in_widths ws (values_at ws bits) in
    let others = record_fields ws n (columns_in ws n (drop size bits)) in
    let one = values_there ws bits (omega (arith, room, next)) in
    let more = records_there ws n (drop size bits) few
    (omega (arith, room, next, length-drop size bits)) in
    let fields : record_fields ws (suc n) all ≡ row ++ others =
    ap (λ (r : List Field). r ++ record_fields ws n (map tail all)) (columns_head ws n bits few)
    ∙ ap (λ (t : List (List ℕ)). row ++ record_fields ws n t) (columns_tail ws n bits) in
    let last = drop (suc n * size) bits in
    let place : size + n * size ≡ suc n * size = omega (arith, next) in
    let following : drop size bits ≡ spelled others ++ last =
    more.1 ∙ ap (λ (r : List Bool). spelled others ++ r)
    (dropped (n * size) size bits ∙ ap (λ (k : ℕ). drop k bits) place) in
    subst (λ (fs : List Field). FieldsFit fs × (bits ≡ spelled fs ++ last)) (sym fields) (
      fit_append row others one.1 more.0,
      one.2 ∙ ap (λ (r : List Bool). spelled row ++ r) following
          ∙ sym (append_assoc (spelled row) (spelled others) last)
          ∙ ap (λ (r : List Bool). r ++ last) (sym (spelled-append row others)),
    )

pub column_long : (ws : List ℕ) (n j : ℕ) (bits : List Bool) →
    length (column_in ws n j bits) ≡ share ws n j
column_long ws n j bits =
    elim (cases_Bool (nat_lt j (length ws))) [
      | inl t ↦ rw t (length-column (total_width ws) (total_width (take j ws)) (get_or ws j 0) n bits)
      | inr f ↦ rw f refl
    ]

pub columns_long : (ws : List ℕ) (n : ℕ) (bits : List Bool) →
    map length (columns_in ws n bits) ≡ shares ws n
columns_long ws n bits =
    three_numbers _ _ _ _ _ _ (column_long ws n 0 bits) (column_long ws n 1 bits)
    (column_long ws n 2 bits)

-- SPELLED
-- the numbers that are sent of the first record
abbrev sent : List ℕ → List (List ℕ) → List ℕ
sent ws columns = take (length ws) (map head columns)

length-sent : (ws : List ℕ) (columns : List (List ℕ)) → length ws ≤ length columns →
    length ws ≡ length (sent ws columns)
length-sent ws columns room =
    sym (length-take-le (length ws) (map head columns)
    (omega (arith, room, length-map columns head)))

more_columns : (ws : List ℕ) (columns : List (List ℕ)) → length ws ≤ length columns →
    length ws ≤ length (map tail columns)
more_columns ws columns room = omega (arith, room, length-map columns tail)

-- The records of a message are as many times a record's bits long as there are records, by
-- induction over them: the first numbers of the columns are one record, and the columns' tails have
-- the others.
pub length-records : (ws : List ℕ) (n : ℕ) (columns : List (List ℕ)) →
    length ws ≤ length columns → length (spelled (record_fields ws n columns)) ≡ n * total_width ws
length-records ws zero columns room = let none : 0 ≡ 0 * total_width ws = omega arith in none
length-records ws (suc n) columns room =
    let row = in_widths ws (map head columns) in
    let others = record_fields ws n (map tail columns) in
    let one : length (spelled row) ≡ total_width ws =
    ap (λ (fs : List Field). length (spelled fs)) (widths-take ws (map head columns))
    ∙ length-in_widths ws (sent ws columns) (length-sent ws columns room) in
    let both : length (spelled (row ++ others)) ≡ length (spelled row) + length (spelled others) =
    ap length (spelled-append row others) ∙ length-append (spelled row) (spelled others) in
    omega (
      arith,
      both,
      one,
      length-records ws n (map tail columns) (more_columns ws columns room),
      suc-mul n (total_width ws),
    )

whole : (column : List ℕ) (n : ℕ) → length column ≡ suc n → head column ∷ tail column ≡ column
whole [] n h = absurd (omega (arith, h))
whole (x ∷ column) n h = refl

-- A column is read again from the spelled records: by induction over them, since the first record
-- gives the column's head, and what is left of the bits spells the tails of all columns.
column_again : (ws : List ℕ) (n : ℕ) (columns : List (List ℕ)) (bits rest : List Bool) (j : ℕ) →
    length ws ≤ length columns → j < length ws →
    ((i : ℕ) → i < length ws → length (get_or columns i []) ≡ n) →
    FieldsFit (record_fields ws n columns) → bits ≡ spelled (record_fields ws n columns) ++ rest →
    column_at (total_width ws) (total_width (take j ws)) (get_or ws j 0) n bits ≡ get_or columns j []
column_again ws zero columns bits rest j room within long fit is =
    sym (nil_from_length (get_or columns j []) (long j within))
column_again ws (suc n) columns bits rest j room within long fit is =
    let heads = map head columns in
    let row = in_widths ws heads in
    let others = record_fields ws n (map tail columns) in
    let vs = sent ws columns in
    let following = spelled others ++ rest in
    let same : row ≡ in_widths ws vs = widths-take ws heads in
    let parts : bits ≡ spelled (in_widths ws vs) ++ following =
    is ∙ ap (λ (r : List Bool). r ++ rest) (spelled-append row others)
    ∙ append_assoc (spelled row) (spelled others) rest
    ∙ ap (λ (fs : List Field). spelled fs ++ following) same in
    let fits : FieldsFit (in_widths ws vs) = subst FieldsFit same (fit_front row others fit) in
    let all : length ws ≡ length vs = length-sent ws columns room in
    let values : values_at ws bits ≡ vs =
    ap (values_at ws) parts ∙ values_again ws vs following all fits in
    let first : number_at (total_width (take j ws)) (get_or ws j 0) bits ≡ head (get_or columns j []) =
    in_row ws j bits within ∙ ap (λ (us : List ℕ). get_or us j 0) values
    ∙ get_or-take (length ws) heads j 0 within ∙ get-heads columns j in
    let left : drop (total_width ws) bits ≡ following =
    ap (drop (total_width ws)) parts
    ∙ drop_at (spelled (in_widths ws vs)) following (total_width ws) (length-in_widths ws vs all) in
    let later : column_at (total_width ws) (total_width (take j ws)) (get_or ws j 0) n (drop (total_width ws) bits)
    ≡ tail (get_or columns j []) =
    column_again ws n (map tail columns) (drop (total_width ws) bits) rest j
    (more_columns ws columns room) within
    (λ i h. ap length (get-tails columns i)
    ∙ (let e : length (tail (get_or columns i [])) ≡ n =
    omega (arith, length-drop 1 (get_or columns i []), long i h) in e))
    (fit_back row others fit) left ∙ get-tails columns j in
    rw (first, later) (whole (get_or columns j []) n (long j within))

one_column : (ws : List ℕ) (n : ℕ) (columns : List (List ℕ)) (bits rest : List Bool) (j : ℕ) →
    length ws ≤ length columns → length (get_or columns j []) ≡ share ws n j →
    ((i : ℕ) → i < length ws → length (get_or columns i []) ≡ n) →
    FieldsFit (record_fields ws n columns) → bits ≡ spelled (record_fields ws n columns) ++ rest →
    column_in ws n j bits ≡ get_or columns j []
one_column ws n columns bits rest j room short long fit is =
    elim (cases_Bool (nat_lt j (length ws))) [
      | inl t ↦
          rw t (column_again ws n columns bits rest j room (ltb-true j (length ws) t) long fit is)
      | inr f ↦
          let none : length (get_or columns j []) ≡ 0 = rw f at short in
          rw f (sym (nil_from_length (get_or columns j []) none))
    ]

pub three_columns : (columns : List (List ℕ)) → length columns ≡ 3 →
    get_or columns 0 [] ∷ get_or columns 1 [] ∷ get_or columns 2 [] ∷ [] ≡ columns
three_columns [] h = absurd (omega (arith, h))
three_columns (a ∷ []) h = absurd (omega (arith, h))
three_columns (a ∷ b ∷ []) h = absurd (omega (arith, h))
three_columns (a ∷ b ∷ c ∷ []) h = refl
three_columns (a ∷ b ∷ c ∷ d ∷ columns) h = absurd (omega (arith, h))

-- What was spelled is read again: there are three columns, and each of them is read again where a
-- record has a field for it, and is empty where it has none.
pub columns_again : (ws : List ℕ) (n : ℕ) (columns : List (List ℕ)) (rest : List Bool) →
    length ws ≤ 3 → map length columns ≡ shares ws n → FieldsFit (record_fields ws n columns) →
    columns_in ws n (spelled (record_fields ws n columns) ++ rest) ≡ columns
columns_again ws n columns rest few even fit =
    let bits = spelled (record_fields ws n columns) ++ rest in
    let all = three_long ws n columns even in
    let room : length ws ≤ length columns = omega (arith, few, all) in
    let long = lengths ws n columns even few in
    let share_of : (j : ℕ) → length (get_or columns j []) ≡ get_or (shares ws n) j 0 =
    λ j. sym (get-lengths columns j) ∙ ap (λ (ls : List ℕ). get_or ls j 0) even in
    three _ _ _ _ _ _
    (one_column ws n columns bits rest 0 room (share_of 0) long fit refl)
    (one_column ws n columns bits rest 1 room (share_of 1) long fit refl)
    (one_column ws n columns bits rest 2 room (share_of 2) long fit refl)
    ∙ three_columns columns all

-- A LOOP OVER THEM
second_at : (i : ℕ) (column : List ℕ) → get_or (tail column) i 0 ≡ get_or column (suc i) 0
second_at i [] = refl
second_at i (x ∷ column) = refl

-- the next record is that of the columns' tails
record_tail : (ws : List ℕ) (i : ℕ) (columns : List (List ℕ)) →
    in_widths ws (record_at i (map tail columns)) ≡ in_widths ws (record_at (suc i) columns)
record_tail [] i columns = refl
record_tail (w ∷ ws) i [] = refl
record_tail (w ∷ ws) i (c ∷ columns) =
    ap (λ (v : ℕ). field w v ∷ in_widths ws (record_at i (map tail columns))) (second_at i c)
    ∙ ap (λ (fs : List Field). field w (get_or c (suc i) 0) ∷ fs) (record_tail ws i columns)

-- One record more is spelled after those before, by induction over the records: record i of the
-- columns' tails is record i + 1 of the columns themselves.
pub record_more : (ws : List ℕ) (i : ℕ) (columns : List (List ℕ)) →
    record_fields ws (i + 1) columns
    ≡ record_fields ws i columns ++ in_widths ws (record_at i columns)
record_more ws zero columns = append-nil (in_widths ws (map head columns))
record_more ws (suc i) columns =
    let e : suc i + 1 ≡ suc (i + 1) = omega arith in
    let row = in_widths ws (map head columns) in
    let others = record_fields ws i (map tail columns) in
    rw e (ap (λ (fs : List Field). row ++ fs) (record_more ws i (map tail columns))
    ∙ sym (append_assoc row others (in_widths ws (record_at i (map tail columns))))
    ∙ ap (λ (fs : List Field). (row ++ others) ++ fs) (record_tail ws i columns))

-- each record fits where all do
pub record_fit : (ws : List ℕ) (n i : ℕ) (columns : List (List ℕ)) → i < n →
    FieldsFit (record_fields ws n columns) → FieldsFit (in_widths ws (record_at i columns))
record_fit ws zero i columns h fit = absurd (omega (arith, h))
record_fit ws (suc n) zero columns h fit =
    fit_front (in_widths ws (map head columns)) (record_fields ws n (map tail columns)) fit
record_fit ws (suc n) (suc i) columns h fit =
    subst FieldsFit (record_tail ws i columns)
    (record_fit ws n i (map tail columns) (omega (arith, h))
    (fit_back (in_widths ws (map head columns)) (record_fields ws n (map tail columns)) fit))

-- there is room for one more where there is for all
pub record_room : (ws : List ℕ) (n i : ℕ) (columns : List (List ℕ)) →
    length ws ≤ length columns → i < n →
    length (spelled (record_fields ws i columns))
    + length (spelled (in_widths ws (record_at i columns)))
    ≤ length (spelled (record_fields ws n columns))
record_room ws n i columns room h =
    let row = in_widths ws (record_at i columns) in
    let next : length (spelled (record_fields ws (i + 1) columns))
    ≡ length (spelled (record_fields ws i columns)) + length (spelled row) =
    ap (λ (fs : List Field). length (spelled fs)) (record_more ws i columns)
    ∙ ap length (spelled-append (record_fields ws i columns) row)
    ∙ length-append (spelled (record_fields ws i columns)) (spelled row) in
    let most : (i + 1) * total_width ws ≤ n * total_width ws = mul-le-mul_right (total_width ws) (omega (arith, h)) in
    omega (
      arith,
      next,
      most,
      length-records ws (i + 1) columns room,
      length-records ws n columns room,
    )

-- After one more record is written, the records with it are spelled: their fields are those of the
-- records before with its own at the end, and the spelling of joined fields is both spellings joined.
pub record_written : (ws : List ℕ) (i : ℕ) (columns : List (List ℕ))
    (first before after : List Bool) →
    before ≡ first ++ spelled (record_fields ws i columns) →
    after ≡ before ++ spelled (in_widths ws (record_at i columns)) →
    after ≡ first ++ spelled (record_fields ws (i + 1) columns)
record_written ws i columns first before after is next =
    let so_far = record_fields ws i columns in
    let row = in_widths ws (record_at i columns) in
    next ∙ ap (λ (r : List Bool). r ++ spelled row) is
    ∙ append_assoc first (spelled so_far) (spelled row)
    ∙ ap (λ (r : List Bool). first ++ r) (sym (spelled-append so_far row)
    ∙ ap spelled (sym (record_more ws i columns)))

-- A LOOP OVER ITS NUMBERS
none_sent : (n : ℕ) (vs : List ℕ) → in_widths (take n []) (take n vs) ≡ []
none_sent zero vs = refl
none_sent (suc n) vs = refl

pub sent_all : (ws vs : List ℕ) (n : ℕ) → length ws ≤ n →
    in_widths (take n ws) (take n vs) ≡ in_widths ws vs
sent_all [] vs n h = none_sent n vs
sent_all (w ∷ ws) vs zero h = absurd (omega (arith, h))
sent_all (w ∷ ws) [] (suc n) h = refl
sent_all (w ∷ ws) (v ∷ vs) (suc n) h =
    ap (λ (fs : List Field). field w v ∷ fs) (sent_all ws vs n (omega (arith, h)))

-- there is room for one more number where there is for all
pub number_room : (ws vs : List ℕ) (j : ℕ) → length ws ≤ length vs → j < length ws →
    length (spelled (in_widths (take j ws) (take j vs))) + get_or ws j 0
    ≤ length (spelled (in_widths ws vs))
number_room ws vs j room h =
    let even : length (take j ws) ≡ length (take j vs) =
    length-take-le j ws (omega (arith, h)) ∙ sym (length-take-le j vs (omega (arith, h, room))) in
    let all : length (spelled (in_widths ws vs)) ≡ total_width ws =
    ap (λ (fs : List Field). length (spelled fs)) (widths-take ws vs)
    ∙ length-in_widths ws (take (length ws) vs) (sym (length-take-le (length ws) vs room)) in
    omega (arith, length-in_widths (take j ws) (take j vs) even, all, total_room ws j h)

get-at : (columns : List (List ℕ)) (i j : ℕ) →
    get_or (record_at i columns) j 0 ≡ get_or (get_or columns j []) i 0
get-at [] i j = refl
get-at (c ∷ columns) i zero = refl
get-at (c ∷ columns) i (suc j) = get-at columns i j

same_at : (columns : List (List ℕ)) (j : ℕ) (a b : List ℕ) → j < length columns →
    get_or columns j a ≡ get_or columns j b
same_at [] j a b h = absurd (omega (arith, h))
same_at (c ∷ columns) zero a b h = refl
same_at (c ∷ columns) (suc j) a b h = same_at columns j a b (omega (arith, h))

-- a number of a column stands in its record
pub number_in_record : (columns : List (List ℕ)) (i j : ℕ) (column : List ℕ) (n : ℕ) →
    j < length columns → slice_get (get_or columns j column) i ≡ Some n →
    get_or (record_at i columns) j 0 ≡ n
number_in_record columns i j column n h read =
    get-at columns i j ∙ ap (λ (c : List ℕ). get_or c i 0) (same_at columns j [] column h)
    ∙ get_or_from_slice_get (get_or columns j column) i n 0 read

pub height_at : (columns : List (List ℕ)) (column : List ℕ) → 0 < length columns →
    length (get_or columns 0 column) ≡ height columns
height_at columns column h = ap length (same_at columns 0 column [] h)

-- Lists of numbers in fields of given widths, spelled and read again.
use Rattle.chip_core.proofs.Common.{◌≡◌, ℕ, zero, suc, ◌+◌, ◌*◌, ◌^◌, ◌<◌, ◌≤◌, Bool, List, [], ◌∷◌, ◌++◌, length, get_or, take, drop, refl}
use Rattle.chip_core.proofs.Common.{sym, ap, subst, ◌∙◌, arith, append_assoc, length-append, append-nil, drop-drop, drop_at, length-drop}
use Rattle.chip_core.proofs.Common.{length-take-le, take_at, number, binary, field, spelled, in_widths, total_width, AreWidths, FieldsFit}
use Rattle.chip_core.specs.Readings.{number_at, values_at, column_at}
use Rattle.chip_core.specs.declared.field.Field.{Field}
use Rattle.chip_core.proofs.Digits.{number-binary, number_lt}
use Rattle.chip_core.proofs.FieldLists.{length-binary, spelled-append}
use Rattle.chip_core.proofs.Numerals.{read_spelled}

-- ONE FIELD
pub dropped : (a b : ℕ) (bits : List Bool) → drop a (drop b bits) ≡ drop (b + a) bits
dropped a b bits = drop-drop a b bits ∙ ap (λ (k : ℕ). drop k bits) (omega arith)

-- the first bits are a number of their width
pub front : (w : ℕ) (bits : List Bool) → w ≤ length bits →
    (number (take w bits) < 2 ^ w) × (bits ≡ binary w (number (take w bits)) ++ drop w bits)
front w bits room =
    let long : length (take w bits) ≡ w = length-take-le w bits room in (
      subst (λ (k : ℕ). number (take w bits) < 2 ^ k) long (number_lt (take w bits)),
      read_spelled bits w (number (take w bits)) room refl,
    )

-- a number that was spelled is read again
pub number_front : (w n : ℕ) (rest : List Bool) → n < 2 ^ w → number_at 0 w (binary w n ++ rest) ≡ n
number_front w n rest fits = ap number (take_at (binary w n) rest w (length-binary w n)) ∙ number-binary w n fits

pub after_front : (w n : ℕ) (rest : List Bool) → drop w (binary w n ++ rest) ≡ rest
after_front w n rest = drop_at (binary w n) rest w (length-binary w n)

-- MANY FIELDS
pub length-in_widths : (ws vs : List ℕ) → length ws ≡ length vs → length (spelled (in_widths ws vs)) ≡ total_width ws
length-in_widths [] [] h = refl
length-in_widths [] (x ∷ vs) h = absurd (omega (arith, h))
length-in_widths (x ∷ ws) [] h = absurd (omega (arith, h))
length-in_widths (x ∷ ws) (y ∷ vs) h =
    let more : length (spelled (in_widths ws vs)) ≡ total_width ws = length-in_widths ws vs (omega (arith, h)) in
    omega (arith, length-append (binary x y) (spelled (in_widths ws vs)), length-binary x y, more)

pub total_room : (ws : List ℕ) (i : ℕ) → i < length ws → total_width (take i ws) + get_or ws i 0 ≤ total_width ws
total_room [] i h = absurd (omega (arith, h))
total_room (w ∷ ws) zero h = omega arith
total_room (w ∷ ws) (suc i) h = omega (arith, total_room ws i (omega (arith, h)))

pub total_more : (ws : List ℕ) (i : ℕ) → i < length ws →
    total_width (take (i + 1) ws) ≡ total_width (take i ws) + get_or ws i 0
total_more [] i h = absurd (omega (arith, h))
total_more (w ∷ ws) zero h = omega arith
total_more (w ∷ ws) (suc i) h =
    let e : suc i + 1 ≡ suc (i + 1) = omega arith in
    rw e (omega (arith, total_more ws i (omega (arith, h))))

pub width_within : (ws : List ℕ) (i : ℕ) → AreWidths ws → i < length ws → (1 ≤ get_or ws i 0) × (get_or ws i 0 ≤ 64)
width_within [] i are h = absurd (omega (arith, h))
width_within (w ∷ ws) zero are h = (are.0, are.1)
width_within (w ∷ ws) (suc i) are h = width_within ws i are.2 (omega (arith, h))

pub fit_value : (ws vs : List ℕ) (i : ℕ) → FieldsFit (in_widths ws vs) → i < length ws →
    i < length vs → get_or vs i 0 < 2 ^ (get_or ws i 0)
fit_value [] vs i fit a b = absurd (omega (arith, a))
fit_value (w ∷ ws) [] i fit a b = absurd (omega (arith, b))
fit_value (w ∷ ws) (v ∷ vs) zero fit a b = fit.0
fit_value (w ∷ ws) (v ∷ vs) (suc i) fit a b = fit_value ws vs i fit.1 (omega (arith, a)) (omega (arith, b))

-- By induction over the widths, values that were spelled are read again: the first field is read as
-- its value, which fits its width, and what is left after it spells the other values.
pub values_again : (ws vs : List ℕ) (rest : List Bool) → length ws ≡ length vs →
    FieldsFit (in_widths ws vs) → values_at ws (spelled (in_widths ws vs) ++ rest) ≡ vs
values_again [] [] rest h fit = refl
values_again [] (v ∷ vs) rest h fit = absurd (omega (arith, h))
values_again (w ∷ ws) [] rest h fit = absurd (omega (arith, h))
values_again (w ∷ ws) (v ∷ vs) rest h fit =
    let more = spelled (in_widths ws vs) in
    let parts : (binary w v ++ more) ++ rest ≡ binary w v ++ (more ++ rest) = append_assoc (binary w v) more rest in
    let first : number_at 0 w ((binary w v ++ more) ++ rest) ≡ v =
    ap (number_at 0 w) parts ∙ number_front w v (more ++ rest) fit.0 in
    let later : values_at ws (drop w ((binary w v ++ more) ++ rest)) ≡ vs =
    ap (λ (r : List Bool). values_at ws (drop w r)) parts
    ∙ ap (values_at ws) (after_front w v (more ++ rest))
    ∙ values_again ws vs rest (omega (arith, h)) fit.1 in
    rw (first, later) refl

-- By induction over the widths, what is read has a value for each width, which fits it, and spells
-- the bits that were read: the first w bits are the w digits of their own number (`front`).
pub values_there : (ws : List ℕ) (bits : List Bool) → total_width ws ≤ length bits →
    (length (values_at ws bits) ≡ length ws) × FieldsFit (in_widths ws (values_at ws bits))
    × (bits ≡ spelled (in_widths ws (values_at ws bits)) ++ drop (total_width ws) bits)
values_there [] bits room = (refl, tt, refl)
values_there (w ∷ ws) bits room =
    let one = front w bits (omega (arith, room)) in
    let more = values_there ws (drop w bits) (omega (arith, room, length-drop w bits)) in
    let values = values_at ws (drop w bits) in
    let later = spelled (in_widths ws values) in
    let n = number (take w bits) in
    let following : drop w bits ≡ later ++ drop (w + total_width ws) bits =
    more.2 ∙ ap (λ (r : List Bool). later ++ r) (dropped (total_width ws) w bits) in (
      ap suc more.0,
      (one.0, more.1),
      one.1 ∙ ap (λ (r : List Bool). binary w n ++ r) following
          ∙ sym (append_assoc (binary w n) later (drop (w + total_width ws) bits)),
    )

-- LOOPS
-- one more field of many
pub taken_more : (ws vs : List ℕ) (i : ℕ) → i < length ws → i < length vs →
    in_widths (take (i + 1) ws) (take (i + 1) vs)
    ≡ in_widths (take i ws) (take i vs) ++ field (get_or ws i 0) (get_or vs i 0) ∷ []
taken_more [] vs i a b = absurd (omega (arith, a))
taken_more (w ∷ ws) [] i a b = absurd (omega (arith, b))
taken_more (w ∷ ws) (v ∷ vs) zero a b = refl
taken_more (w ∷ ws) (v ∷ vs) (suc i) a b =
    let e : suc i + 1 ≡ suc (i + 1) = omega arith in
    rw e (ap (λ (fs : List Field). field w v ∷ fs) (taken_more ws vs i (omega (arith, a)) (omega (arith, b))))

pub spelled_push : (fs : List Field) (w v : ℕ) → spelled (fs ++ field w v ∷ []) ≡ spelled fs ++ binary w v
spelled_push fs w v = spelled-append fs (field w v ∷ [])
    ∙ ap (λ (r : List Bool). spelled fs ++ r) (append-nil (binary w v))

-- one more field is written
pub write_push : (w v : ℕ) (fs : List Field) (first before after : List Bool) →
    before ≡ first ++ spelled fs → after ≡ before ++ binary w v → after ≡ first ++ spelled (fs ++ field w v ∷ [])
write_push w v fs first before after is next =
    next ∙ ap (λ (r : List Bool). r ++ binary w v) is
    ∙ append_assoc first (spelled fs) (binary w v)
    ∙ ap (λ (r : List Bool). first ++ r) (sym (spelled_push fs w v))

-- the loop over values to be written has room for one more
pub write_room : (ws vs : List ℕ) (i : ℕ) → length ws ≡ length vs → i < length ws →
    length (spelled (in_widths (take i ws) (take i vs))) + get_or ws i 0 ≤ total_width ws
write_room ws vs i h within =
    let a : length (take i ws) ≡ length (take i vs) = length-take-le i ws (omega (arith, within))
    ∙ sym (length-take-le i vs (omega (arith, within, h))) in
    omega (arith, length-in_widths (take i ws) (take i vs) a, total_room ws i within)

pub written_more : (ws vs : List ℕ) (i : ℕ) (before after first : List Bool) → i < length ws → i < length vs →
    before ≡ first ++ spelled (in_widths (take i ws) (take i vs)) →
    after ≡ before ++ binary (get_or ws i 0) (get_or vs i 0) →
    after ≡ first ++ spelled (in_widths (take (i + 1) ws) (take (i + 1) vs))
written_more ws vs i before after first a b is next =
    let fs = in_widths (take i ws) (take i vs) in
    write_push (get_or ws i 0) (get_or vs i 0) fs first before after is next
    ∙ ap (λ (gs : List Field). first ++ spelled gs) (sym (taken_more ws vs i a b))

-- By induction over the widths, one width more gives one value more, the number of its bits after
-- the total of the widths before: dropping width by width drops their total (`dropped`).
pub values_more : (ws : List ℕ) (i : ℕ) (bits : List Bool) → i < length ws → values_at (take (i + 1) ws) bits
    ≡ values_at (take i ws) bits ++ number_at (total_width (take i ws)) (get_or ws i 0) bits ∷ []
values_more [] i bits h = absurd (omega (arith, h))
values_more (w ∷ ws) zero bits h = refl
values_more (w ∷ ws) (suc i) bits h =
    let e : suc i + 1 ≡ suc (i + 1) = omega arith in
    let place : drop (total_width (take i ws)) (drop w bits) ≡ drop (w + total_width (take i ws)) bits =
    dropped (total_width (take i ws)) w bits in
    let v = get_or ws i 0 in
    rw e (ap (λ (vs : List ℕ). number_at 0 w bits ∷ vs)
    (values_more ws i (drop w bits) (omega (arith, h))
    ∙ ap (λ (r : List Bool). values_at (take i ws) (drop w bits) ++ number (take v r) ∷ []) place))

-- one more number of a column
pub column_more : (size place width n : ℕ) (bits : List Bool) → column_at size place width (n + 1) bits
    ≡ column_at size place width n bits ++ number_at (n * size + place) width bits ∷ []
column_more size place width zero bits = let e : 0 * size + place ≡ place = omega arith in
    rw e refl
column_more size place width (suc n) bits =
    let e : suc n + 1 ≡ suc (n + 1) = omega arith in
    let there : drop (n * size + place) (drop size bits) ≡ drop (suc n * size + place) bits =
    dropped (n * size + place) size bits ∙ ap (λ (k : ℕ). drop k bits) (omega arith) in
    rw e (ap (λ (ns : List ℕ). number_at place width bits ∷ ns)
    (column_more size place width n (drop size bits)
    ∙ ap (λ (r : List Bool). column_at size place width n (drop size bits)
    ++ number (take width r) ∷ []) there))

pub length-column : (size place width n : ℕ) (bits : List Bool) → length (column_at size place width n bits) ≡ n
length-column size place width zero bits = refl
length-column size place width (suc n) bits = ap suc (length-column size place width n (drop size bits))

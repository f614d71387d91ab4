-- The parts of a body, each spelled and read again.
use Rattle.message_layout.proofs.Common.{◌≡◌, ℕ, zero, suc, ◌+◌, ◌*◌, ◌/◌, ◌%◌, ◌^◌, ◌<◌, ◌≤◌, ◌==◌, Bool, true, false, cond, List, [], ◌∷◌}
use Rattle.message_layout.proofs.Common.{◌++◌, length, get_or, map, take, drop, refl, sym, ap, subst, ◌∙◌, arith, append_assoc, nat_le, inl}
use Rattle.message_layout.proofs.Common.{length-append, inr, Option, Some, None, cases_Bool, eq-eqb, eqb-true, le-leb, leb-true, lt-ltb}
use Rattle.message_layout.proofs.Common.{ltb-true, ne_eqb, append-nil, drop_at, length-take-le, take-append-drop, take_at, pow_pos, binary}
use Rattle.message_layout.proofs.Common.{field, spelled, in_widths, total_width, FieldsFit, number_at, values_at, length-binary, front}
use Rattle.message_layout.proofs.Common.{after_front, length-in_widths, number_front, values_again, values_there, columns_in, count_in}
use Rattle.message_layout.proofs.Common.{height, record_fields, share, shares, ◌>>=◌, fields_at, group_at, number_part, octets_at, part_at}
use Rattle.message_layout.proofs.Common.{presence_at, present_at, records_at, records_from, ends, group_is_told, group_fields, octet_bits}
use Rattle.message_layout.proofs.Common.{HaveValues, IsGroup, IsRest, Presence, Never, Flagged, UnlessLeft}
use Rattle.message_layout.proofs.Columns.{column_long, columns_again, columns_long, get-lengths, length-records, records_there, three_long}
use Rattle.message_layout.proofs.Lawful.{count_room, counted}

-- STEPS
abbrev found : {A : Type 0} → A → Option A
found x = Some x

pub some_is : {A : Type 0} (x y : A) → found x ≡ found y → x ≡ y
some_is x y e = cc

-- a step that was taken
pub bind_some : {A B : Type 0} (read : Option A) (f : A → Option B) (y : B) →
    (read >>= f) ≡ Some y → (x : A) × (read ≡ Some x) × (f x ≡ Some y)
bind_some None f y e = absurd (cc)
bind_some (Some x) f y e = (x, refl, e)

-- a test that was passed
pub guard_some : {A : Type 0} (b : Bool) (read : Option A) (y : A) →
    cond b read None ≡ Some y → (b ≡ true) × (read ≡ Some y)
guard_some true read y e = (refl, e)
guard_some false read y e = absurd (cc)

-- FIELDS
-- Spelled fields are read back: as many bits as the table's widths add up to are there, their
-- numbers are the values, and what is left is what comes after them.
pub fields_again : (ws vs : List ℕ) (rest : List Bool) → HaveValues ws vs →
    fields_at ws (spelled (in_widths ws vs) ++ rest) ≡ Some (vs, rest)
unfolding fields_at
fields_again ws vs rest have =
    let first = spelled (in_widths ws vs) in
    let all : length ws ≡ length vs = sym have.all in
    let long : length first ≡ total_width ws = length-in_widths ws vs all in
    let room = le-leb (total_width ws) (length (first ++ rest)) (omega (arith, length-append first rest, long)) in
    rw (room, values_again ws vs rest all have.fit, drop_at first rest (total_width ws) long) refl

pub fields_there : (ws vs : List ℕ) (bits after : List Bool) → fields_at ws bits ≡ Some (vs, after) →
    HaveValues ws vs × (bits ≡ spelled (in_widths ws vs) ++ after)
unfolding fields_at
fields_there ws vs bits after e =
    let read : List ℕ × List Bool = (values_at ws bits, drop (total_width ws) bits) in
    let g = guard_some (nat_le (total_width ws) (length bits)) (Some read) (vs, after) e in
    let there = values_there ws bits (leb-true (total_width ws) (length bits) g.0) in
    subst (λ (x : List ℕ × List Bool).
    HaveValues ws x.0 × (bits ≡ spelled (in_widths ws x.0) ++ x.1))
    (some_is read (vs, after) g.1) (record { all = there.0; fit = there.1 }, there.2)

-- BITS AND NUMBERS
pub part_again : (xs rest : List Bool) → part_at (length xs) (xs ++ rest) ≡ Some (xs, rest)
unfolding part_at
part_again xs rest =
    let room = le-leb (length xs) (length (xs ++ rest)) (omega (arith, length-append xs rest)) in
    rw (room, take_at xs rest (length xs) refl, drop_at xs rest (length xs) refl) refl

pub part_there : (n : ℕ) (bits xs after : List Bool) → part_at n bits ≡ Some (xs, after) →
    (length xs ≡ n) × (bits ≡ xs ++ after)
unfolding part_at
part_there n bits xs after e =
    let read : List Bool × List Bool = (take n bits, drop n bits) in
    let g = guard_some (nat_le n (length bits)) (Some read) (xs, after) e in
    subst (λ (x : List Bool × List Bool). (length x.0 ≡ n) × (bits ≡ x.0 ++ x.1)) (some_is read (xs, after) g.1)
    (length-take-le n bits (leb-true n (length bits) g.0), sym (take-append-drop n bits))

pub number_again : (w n : ℕ) (rest : List Bool) → n < 2 ^ w → number_part w (binary w n ++ rest) ≡ Some (n, rest)
unfolding number_part
number_again w n rest fits =
    let room = le-leb w (length (binary w n ++ rest))
    (omega (arith, length-append (binary w n) rest, length-binary w n)) in
    rw (room, number_front w n rest fits, after_front w n rest) refl

pub number_there : (w n : ℕ) (bits after : List Bool) → number_part w bits ≡ Some (n, after) →
    (n < 2 ^ w) × (bits ≡ binary w n ++ after)
unfolding number_part
number_there w n bits after e =
    let read : ℕ × List Bool = (number_at 0 w bits, drop w bits) in
    let g = guard_some (nat_le w (length bits)) (Some read) (n, after) e in
    subst (λ (x : ℕ × List Bool). (x.0 < 2 ^ w) × (bits ≡ binary w x.0 ++ x.1))
    (some_is read (n, after) g.1) (front w bits (leb-true w (length bits) g.0))

-- GROUPS
one_bit : (n : ℕ) (rest : List Bool) → spelled (field 1 n ∷ []) ++ rest ≡ binary 1 n ++ rest
one_bit n rest = ap (λ (r : List Bool). r ++ rest) (append-nil (binary 1 n))

pub group_again : (p : Presence) (ws : List ℕ) (group : Option (List ℕ)) (rest : List Bool) →
    group_is_told p ws ≡ true → IsGroup p ws group (length rest) →
    group_at p ws (spelled (group_fields p ws group) ++ rest) ≡ Some (group, rest)
unfolding group_at presence_at
group_again Never ws group rest told is = rw is refl
group_again Flagged ws None rest told is = rw (one_bit 0 rest, number_again 1 0 rest (omega arith)) refl
group_again Flagged ws (Some vs) rest told is =
    let first = spelled (in_widths ws vs) in
    rw (
      append_assoc (binary 1 1) first rest,
      number_again 1 1 (first ++ rest) (omega arith),
      fields_again ws vs rest is,
    ) refl
group_again (UnlessLeft count) ws None rest told is =
    let t = eq-eqb (length rest) count is in
    rw t refl
group_again (UnlessLeft count) ws (Some vs) rest told is =
    let first = spelled (in_widths ws vs) in
    let long : length first ≡ total_width ws = length-in_widths ws vs (sym is.all) in
    let more = ltb-true count (total_width ws) told in
    let f = ne_eqb (length (first ++ rest)) count (λ same. omega (arith, same, more, long, length-append first rest)) in
    rw (f, fields_again ws vs rest is) refl

-- a group with its sign, and what was read of it
abbrev GroupThere : Presence → List ℕ → List Bool → Option (List ℕ) × List Bool → Type 0
GroupThere p ws bits read = IsGroup p ws read.0 (length read.1) × (bits ≡ spelled (group_fields p ws read.0) ++ read.1)

-- A group that was read after its flag is spelled as it stood: a flag of 0 is followed by no group,
-- one of 1 by the fields that were read, and one bit tells nothing else.
flag_there : (ws : List ℕ) (group : Option (List ℕ)) (bits following after : List Bool) (n : ℕ) →
    number_part 1 bits ≡ Some (n, following) → present_at ws (n == 1) following ≡ Some (group, after) →
    GroupThere Flagged ws bits (group, after)
flag_there ws group bits following after zero a b =
    let flag = number_there 1 0 bits following a in
    subst (GroupThere Flagged ws bits) (some_is (None, following) (group, after) b)
    (tt, flag.1 ∙ sym (one_bit 0 following))
flag_there ws group bits following after (suc zero) a b =
    let flag = number_there 1 1 bits following a in
    let d = bind_some (fields_at ws following) (λ values. Some (Some values.0, values.1)) (group, after) b in
    let fields = fields_there ws d.0.0 following d.0.1 d.1 in
    let first = spelled (in_widths ws d.0.0) in
    subst (GroupThere Flagged ws bits) (some_is (Some d.0.0, d.0.1) (group, after) d.2) (
      fields.0,
      flag.1 ∙ ap (λ (r : List Bool). binary 1 1 ++ r) fields.1
          ∙ sym (append_assoc (binary 1 1) first d.0.1),
    )
flag_there ws group bits following after (suc (suc n)) a b =
    absurd (omega (arith, (number_there 1 (suc (suc n)) bits following a).0))

-- What was read of a group spells the bits that were read, in each form of presence: never, by a
-- flag, or unless a fixed number of bits is left.
pub group_there : (p : Presence) (ws : List ℕ) (group : Option (List ℕ)) (bits after : List Bool) →
    group_at p ws bits ≡ Some (group, after) → GroupThere p ws bits (group, after)
unfolding group_at presence_at
group_there Never ws group bits after e =
    subst (GroupThere Never ws bits) (some_is (None, bits) (group, after) e) (refl, refl)
group_there Flagged ws group bits after e =
    let a = bind_some (presence_at Flagged bits) (λ there. present_at ws there.0 there.1) (group, after) e in
    let b = bind_some (number_part 1 bits) (λ flag. Some (flag.0 == 1, flag.1)) a.0 a.1 in
    let same : (b.0.0 == 1, b.0.1) ≡ a.0 = some_is (b.0.0 == 1, b.0.1) a.0 b.2 in
    let present : present_at ws (b.0.0 == 1) b.0.1 ≡ Some (group, after) =
    ap (λ (x : Bool × List Bool). present_at ws x.0 x.1) same ∙ a.2 in
    flag_there ws group bits b.0.1 after b.0.0 b.1 present
group_there (UnlessLeft count) ws group bits after e =
    elim (cases_Bool (length bits == count)) [
      | inl t ↦
          let none : Some (None, bits) ≡ Some (group, after) = rw t at e in
          subst (GroupThere (UnlessLeft count) ws bits)
          (some_is (None, bits) (group, after) none) (eqb-true (length bits) count t, refl)
      | inr f ↦
          let some : present_at ws true bits ≡ Some (group, after) = rw f at e in
          let d = bind_some (fields_at ws bits) (λ values. Some (Some values.0, values.1)) (group, after) some in
          subst (GroupThere (UnlessLeft count) ws bits) (some_is (Some d.0.0, d.0.1) (group, after) d.2)
          (fields_there ws d.0.0 bits d.0.1 d.1)
    ]

-- OCTETS
octet_parts : (z w : ℕ) (octets rest : List Bool) → octet_bits z w octets ++ rest
    ≡ binary z 0 ++ (binary w (length octets / 8) ++ (octets ++ rest))
octet_parts z w octets rest =
    let count = binary w (length octets / 8) in
    ap (λ (r : List Bool). ((binary z 0 ++ r) ++ octets) ++ rest) (append-nil count)
    ∙ append_assoc (binary z 0 ++ count) octets rest
    ∙ append_assoc (binary z 0) count (octets ++ rest)

-- Spelled octets are read back: after the bits that are 0 the count is read, which is that of the
-- octets and fits into its bits, and eight times as many bits are the octets themselves.
pub octets_again : (z w : ℕ) (octets rest : List Bool) → length octets % 8 ≡ 0 → length octets / 8 < 2 ^ w →
    octets_at z w (octet_bits z w octets ++ rest) ≡ Some (octets, rest)
unfolding octets_at
octets_again z w octets rest whole counted =
    let n = length octets / 8 in
    let all : 8 * n ≡ length octets = omega (arith, whole) in
    let following = octets ++ rest in
    rw (
      octet_parts z w octets rest,
      number_again z 0 (binary w n ++ following) (pow_pos z),
      number_again w n following counted,
    ) (ap (λ (k : ℕ). part_at k following) all ∙ part_again octets rest)

-- Octets that were read are spelled by the bits that they were read from: the zeros, the count and
-- the octets were read one after another, and each of the three spells the bits that it took.
pub octets_there : (z w : ℕ) (bits octets after : List Bool) → octets_at z w bits ≡ Some (octets, after) →
    (length octets % 8 ≡ 0) × (length octets / 8 < 2 ^ w) × (bits ≡ octet_bits z w octets ++ after)
unfolding octets_at
octets_there z w bits octets after e =
    let a = bind_some (number_part z bits) (λ none. number_part w none.1 >>= λ count.
    cond (none.0 == 0) (part_at (8 * count.0) count.1) None) (octets, after) e in
    let b = bind_some (number_part w a.0.1) (λ count.
    cond (a.0.0 == 0) (part_at (8 * count.0) count.1) None) (octets, after) a.2 in
    let g = guard_some (a.0.0 == 0) (part_at (8 * b.0.0) b.0.1) (octets, after) b.2 in
    let none = eqb-true a.0.0 0 g.0 in
    let first = number_there z a.0.0 bits a.0.1 a.1 in
    let second = number_there w b.0.0 a.0.1 b.0.1 b.1 in
    let third = part_there (8 * b.0.0) b.0.1 octets after g.1 in
    let n : b.0.0 ≡ length octets / 8 = omega (arith, third.0) in
    let count = binary w (length octets / 8) in
    let following : a.0.1 ≡ count ++ (octets ++ after) =
    second.1 ∙ ap (λ (k : ℕ). binary w k ++ b.0.1) n
    ∙ ap (λ (r : List Bool). count ++ r) third.1 in (
      omega (arith, third.0),
      subst (λ (k : ℕ). k < 2 ^ w) n second.0,
      first.1 ∙ ap (λ (k : ℕ). binary z k ++ a.0.1) none
          ∙ ap (λ (r : List Bool). binary z 0 ++ r) following ∙ sym (octet_parts z w octets after),
    )

-- RECORDS
-- Spelled records are read back: the bits after them are too few for one more, so their count is
-- told by how many bits are left, and each column is read again from its places.
pub records_part_again : (ws : List ℕ) (least : ℕ) (most : Option ℕ) (columns : List (List ℕ))
    (rest : List Bool) → length ws ≤ 3 → ends ws most ≡ true → map length columns ≡ shares ws (height columns) →
    FieldsFit (record_fields ws (height columns) columns) → least ≤ height columns → IsRest most rest →
    records_at ws least (spelled (record_fields ws (height columns) columns) ++ rest) ≡ Some (columns, rest)
unfolding records_at
records_part_again ws least most columns rest few last even fit some short =
    let n = height columns in
    let first = spelled (record_fields ws n columns) in
    let bits = first ++ rest in
    let wide : length ws ≤ length columns = omega (arith, few, three_long ws n columns even) in
    let long : length first ≡ n * total_width ws = length-records ws n columns wide in
    let share_of : n ≡ share ws n 0 = sym (get-lengths columns 0) ∙ ap (λ (ls : List ℕ). get_or ls 0 0) even in
    let count : count_in ws (length bits) ≡ n =
    counted ws n most rest (length bits) last short share_of (omega (arith, length-append first rest, long)) in
    ap (λ (k : ℕ). records_from ws least k bits) count
    ∙ rw (
      le-leb least n some,
      drop_at first rest (n * total_width ws) long,
    ) (ap (λ (cs : List (List ℕ)). Some (cs, rest))
    (columns_again ws n columns rest few even fit))

height_read : (ws : List ℕ) (all : ℕ) (bits : List Bool) →
    height (columns_in ws (count_in ws all) bits) ≡ count_in ws all
height_read [] all bits = refl
height_read (w ∷ ws) all bits =
    let n = count_in (w ∷ ws) all in
    let t = lt-ltb 0 (length (w ∷ ws)) (omega arith) in
    let one : share (w ∷ ws) n 0 ≡ n = rw t refl in
    column_long (w ∷ ws) n 0 bits ∙ one

-- what was read of records
abbrev RecordsThere : List ℕ → ℕ → List Bool → List (List ℕ) × List Bool → Type 0
RecordsThere ws least bits read =
    (map length read.0 ≡ shares ws (height read.0))
    × FieldsFit (record_fields ws (height read.0) read.0) × (least ≤ height read.0)
    × (bits ≡ spelled (record_fields ws (height read.0) read.0) ++ read.1)

-- Records that were read are spelled by the bits that they were read from: as many were read as
-- have room in the bits, each spells its own, the columns are as long as there are records, and
-- there are at least as many as the layout asks for.
pub records_part_there : (ws : List ℕ) (least : ℕ) (bits : List Bool) (columns : List (List ℕ))
    (after : List Bool) → length ws ≤ 3 → records_at ws least bits ≡ Some (columns, after) →
    RecordsThere ws least bits (columns, after)
unfolding records_at
records_part_there ws least bits columns after few e =
    let n = count_in ws (length bits) in
    let all = columns_in ws n bits in
    let read : List (List ℕ) × List Bool = (all, drop (n * total_width ws) bits) in
    let g = guard_some (nat_le least n) (Some read) (columns, after) e in
    let there = records_there ws n bits few (count_room ws (length bits)) in
    let tall : n ≡ height all = sym (height_read ws (length bits) bits) in
    let fields : FieldsFit (record_fields ws (height all) all)
    × (bits ≡ spelled (record_fields ws (height all) all) ++ read.1) =
    subst (λ (k : ℕ). FieldsFit (record_fields ws k all)
    × (bits ≡ spelled (record_fields ws k all) ++ read.1)) tall there in
    subst (RecordsThere ws least bits) (some_is read (columns, after) g.1) (
      columns_long ws n bits ∙ ap (shares ws) tall,
      fields.0,
      subst (λ (k : ℕ). least ≤ k) tall (leb-true least n g.0),
      fields.1,
    )

-- LEFT
-- no part leaves more bits than there were
after_less : (first after bits : List Bool) → bits ≡ first ++ after → length after ≤ length bits
after_less first after bits is = omega (arith, ap length is, length-append first after)

pub octets_left : (p : Presence) (fixed group : List ℕ) (z w : ℕ) (bits b1 b2 b3 : List Bool)
    (vs : List ℕ) (g : Option (List ℕ)) (octets : List Bool) →
    Some (vs, b1) ≡ fields_at fixed bits → Some (g, b2) ≡ group_at p group b1 →
    Some (octets, b3) ≡ octets_at z w b2 → length b3 ≤ length bits
octets_left p fixed group z w bits b1 b2 b3 vs g octets a b c =
    let x = fields_there fixed vs bits b1 (sym a) in
    let y = group_there p group g b1 b2 (sym b) in
    let d = octets_there z w b2 octets b3 (sym c) in
    omega (
      arith,
      after_less (spelled (in_widths fixed vs)) b1 bits x.1,
      after_less (spelled (group_fields p group g)) b2 b1 y.1,
      after_less (octet_bits z w octets) b3 b2 d.2,
    )

pub length-octets : (z w : ℕ) (octets : List Bool) → length (octet_bits z w octets) ≡ z + w + length octets
length-octets z w octets =
    let count = binary w (length octets / 8) in
    omega (
      arith,
      length-append (binary z 0 ++ (count ++ [])) octets,
      length-append (binary z 0) (count ++ []),
      length-append count [],
      length-binary z 0,
      length-binary w (length octets / 8),
    )

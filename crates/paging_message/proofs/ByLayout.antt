-- What stands after the message types, by its layouts.
use Rattle.paging_message.proofs.Common.{Bool, Contents, IsNeighborList, IsOf, IsPagingMessage, IsSpelled, List, MessageShape, MessageType}
use Rattle.paging_message.proofs.Common.{NeighborFields, None, PagingMessage, Some, [], admits, and_parts, ap, arith, body_of, both_columns}
use Rattle.paging_message.proofs.Common.{cases_Bool, channel_contents, channel_shape, channel_widths, channels_from, cond, contents_of, inl}
use Rattle.paging_message.proofs.Common.{count_in, eqb-true, false, first_column, get_or, has_length, has_type, inr, is_lawful, le-leb, sym}
use Rattle.paging_message.proofs.Common.{length, list_said, lt-leb, map-places-all, mapped, mapped_cond, message_at, message_body, not_both}
use Rattle.paging_message.proofs.Common.{message_from, neighbor_contents, neighbor_shape, neighbor_widths, neighbors_from, no_columns, refl}
use Rattle.paging_message.proofs.Common.{other_contents, other_from, other_shape, other_type, own_types, paging_kind_of, paging_shape_of, ℕ}
use Rattle.paging_message.proofs.Common.{places, plain_back, plain_reading, plain_shape, reading, record_fit, rest_back, subst, system_from}
use Rattle.paging_message.proofs.Common.{system_contents, system_of, system_shape, system_values, system_widths, true, type_in, ◌+◌, ◌-◌}
use Rattle.paging_message.proofs.Common.{◌<◌, ◌==◌, ◌||◌, ◌∙◌, ◌∷◌, ◌≡◌, ◌≤◌, All, list_all, get_or_default}
use Rattle.paging_message.specs.declared.message.PagingMessage.TheVariants as messages

-- a claim on each message type: on those with fields of their own, and on the others
by_type : (P : ℕ → Type 0) → P 1 → P 3 → P 4 →
    ((k : ℕ) → (k == 1) ≡ false → (k == 3) ≡ false → (k == 4) ≡ false → P k) → (k : ℕ) → P k
by_type P one three four others k =
    elim (cases_Bool (k == 1)) [
      | inl t ↦ subst P (sym (eqb-true k 1 t)) one
      | inr a ↦ elim (cases_Bool (k == 3)) [
        | inl t ↦ subst P (sym (eqb-true k 3 t)) three
        | inr b ↦ elim (cases_Bool (k == 4)) [
          | inl t ↦ subst P (sym (eqb-true k 4 t)) four
          | inr d ↦ others k a b d
        ]
      ]
    ]

-- what the table of types passes, and what any other type passes, each type does
pub passes : (test : MessageType → Bool) → list_all test own_types ≡ true →
    ((k : ℕ) → test (other_type k) ≡ true) → (k : ℕ) → test (type_in own_types k) ≡ true
passes test own others k = row_passes own_types own where
  row_passes : (types : List MessageType) → list_all test types ≡ true → test (type_in types k) ≡ true
  row_passes [] all = others k
  row_passes (row ∷ types) all =
      let both = and_parts (test row) (list_all test types) all in
      elim (cases_Bool (k == row.kind)) [
        | inl t ↦ rw t both.0
        | inr f ↦ rw f (row_passes types both.1)
      ]

-- a type that isn't in the table
unlisted : (types : List MessageType) (k : ℕ) → has_type types k ≡ false → type_in types k ≡ other_type k
unlisted [] k none = refl
unlisted (row ∷ types) k none =
    elim (cases_Bool (k == row.kind)) [
      | inl t ↦ absurd (not_both (sym (ap (λ b. b || has_type types k) t) ∙ none) refl)
      | inr f ↦ rw f (unlisted types k (sym (ap (λ b. b || has_type types k) f) ∙ none))
    ]

no_own_type : (k : ℕ) → (k == 1) ≡ false → (k == 3) ≡ false → (k == 4) ≡ false → has_type own_types k ≡ false
no_own_type k a b d =
    let none : ((k == 1) || ((k == 3) || ((k == 4) || false))) ≡ false = rw (a, b, d) refl in
    none

other_row : (k : ℕ) → (k == 1) ≡ false → (k == 3) ≡ false → (k == 4) ≡ false → other_type k ≡ type_in own_types k
other_row k a b d = sym (unlisted own_types k (no_own_type k a b d))

pub lawful : (k : ℕ) → is_lawful (paging_shape_of k) ≡ true
unfolding is_lawful
lawful = passes (λ row. is_lawful row.shape) refl (λ k. refl)

-- a body has at most 104 records
pub few_records : (k count : ℕ) → count ≤ 1146 → count_in (paging_shape_of k).records count ≤ 128
few_records k count most =
    by_type (λ j. count_in (paging_shape_of j).records count ≤ 128) (omega arith) (omega (arith, most))
    (omega (arith, most))
    (λ j a b d. subst (λ (row : MessageType). count_in row.shape.records count ≤ 128)
    (other_row j a b d) (omega arith)) k

-- MESSAGES AND CONTENTS
-- a message's contents are its type's, and those of no other message
pub spelled_by : (m : PagingMessage) → IsPagingMessage m →
    IsSpelled (paging_kind_of m) (paging_shape_of (paging_kind_of m)) (contents_of m)
spelled_by (messages.System m) is = is
spelled_by (messages.Neighbors m) is = is
spelled_by (messages.Channels m) is = is
spelled_by (messages.Other m) is =
    subst (λ (row : MessageType). IsSpelled m.kind row.shape (other_contents m))
    (sym (unlisted own_types m.kind is.other)) is.spelled

other_made_again : (c : Contents) (k : ℕ) → has_type own_types k ≡ false →
    message_from k c ≡ messages.Other (other_from k c)
other_made_again c =
    by_type (λ k. has_type own_types k ≡ false → message_from k c ≡ messages.Other (other_from k c))
    (λ none. absurd (not_both none refl)) (λ none. absurd (not_both none refl))
    (λ none. absurd (not_both none refl)) (λ k a b d none. rw (a, b, d) refl)

pub made_again : (m : PagingMessage) → IsPagingMessage m → message_from (paging_kind_of m) (contents_of m) ≡ m
unfolding system_of
made_again (messages.System m) is = refl
made_again (messages.Neighbors m) is = refl
made_again (messages.Channels m) is = refl
made_again (messages.Other m) is = other_made_again (other_contents m) m.kind is.other

-- contents of a layout are those of the message that is made of them
system_back : (c : Contents) → IsOf system_shape c → system_contents (system_from c) ≡ c
unfolding system_of places
system_back c is =
    let values : system_values (system_from c) ≡ c.fixed =
    sym (map-places-all (λ k. get_or c.fixed k 0) c.fixed 37 0 is.fixed.all (λ k lt. refl)) in
    rw (values, no_columns c.columns is.columns) (plain_back system_widths [] 0 None c is)

neighbor_back : (c : Contents) → IsOf neighbor_shape c → neighbor_contents (neighbors_from c) ≡ c
unfolding places
neighbor_back c is =
    let values : get_or c.fixed 0 0 ∷ get_or c.fixed 1 0 ∷ get_or c.fixed 2 0 ∷ [] ≡ c.fixed =
    sym (map-places-all (λ k. get_or c.fixed k 0) c.fixed 3 0 is.fixed.all (λ k lt. refl)) in
    rw (values, both_columns 3 9 c.columns is.columns) (plain_back neighbor_widths (3 ∷ 9 ∷ []) 0 (Some 7) c is)

channel_back : (c : Contents) → IsOf channel_shape c → channel_contents (channels_from c) ≡ c
unfolding places
channel_back c is =
    let values : get_or c.fixed 0 0 ∷ get_or c.fixed 1 0 ∷ [] ≡ c.fixed =
    sym (map-places-all (λ k. get_or c.fixed k 0) c.fixed 2 0 is.fixed.all (λ k lt. refl)) in
    rw (values, first_column 11 c.columns is.columns) (plain_back channel_widths (11 ∷ []) 0 (Some 7) c is)

-- a message that is made of contents
abbrev MadeOf : ℕ → Type 0
MadeOf k = (c : Contents) → IsSpelled k (paging_shape_of k) c →
    IsPagingMessage (message_from k c) × (body_of k (paging_shape_of k) c ≡ message_body (message_from k c))

made_so : (k : ℕ) (s : MessageShape) (c own : Contents) → own ≡ c → IsSpelled k s c →
    IsSpelled k s own × (body_of k s c ≡ body_of k s own)
made_so k s c own back is = (subst (IsSpelled k s) (sym back) is, ap (body_of k s) (sym back))

other_made : (k : ℕ) → (k == 1) ≡ false → (k == 3) ≡ false → (k == 4) ≡ false → MadeOf k
unfolding message_body
other_made k a b d c is =
    let said = subst (λ (row : MessageType). IsSpelled k row.shape c) (sym (other_row k a b d)) is in
    let back = sym (rest_back c said.said) in
    let made : message_from k c ≡ messages.Other (other_from k c) = rw (a, b, d) refl in
    subst (λ (m : PagingMessage). IsPagingMessage m × (body_of k (paging_shape_of k) c ≡ message_body m))
    (sym made) (
      record { spelled = subst (IsSpelled k other_shape) back said; other = no_own_type k a b d },
      ap (body_of k (paging_shape_of k)) back,
    )

pub made_of : (k : ℕ) → MadeOf k
unfolding message_body
made_of =
    by_type MadeOf (λ c is. made_so 1 system_shape c (system_contents (system_from c)) (system_back c is.said) is)
    (λ c is. made_so 3 neighbor_shape c (neighbor_contents (neighbors_from c)) (neighbor_back c is.said) is)
    (λ c is. made_so 4 channel_shape c (channel_contents (channels_from c)) (channel_back c is.said) is)
    other_made

-- READ BY PLACES
plain : (k : ℕ) →
    let s = paging_shape_of k in
    s ≡ plain_shape s.fixed s.records s.least s.most
plain =
    by_type (λ k. paging_shape_of k ≡ plain_shape (paging_shape_of k).fixed (paging_shape_of k).records
    (paging_shape_of k).least (paging_shape_of k).most) refl refl refl
    (λ k a b d. subst (λ (row : MessageType).
    let s = row.shape in
    s ≡ plain_shape s.fixed s.records s.least s.most) (other_row k a b d) refl)

-- what is read by a layout is what stands at the places of the fields
pub placed : (bits : List Bool) (k : ℕ) → mapped (message_from k) (reading (paging_shape_of k) bits)
    ≡ cond (admits k (8 + length bits)) (Some (message_at k bits)) None
unfolding admits message_at
placed bits k =
    let s = paging_shape_of k in
    let typed = le-leb 8 (8 + length bits) (omega arith) in
    let later : 8 + length bits - 8 ≡ length bits = omega arith in
    rw (typed, later)
    (ap (λ (r : MessageShape). mapped (message_from k) (reading r bits)) (plain k)
    ∙ ap (mapped (message_from k)) (plain_reading s.fixed s.records s.least s.most bits)
    ∙ mapped_cond (message_from k) (has_length s (length bits)) (list_said s.fixed s.records bits))

pub admits_short : (k count : ℕ) → count < 8 → admits k count ≡ false
unfolding admits
admits_short k count short = rw (lt-leb 8 count short) refl

-- the offsets of neighbors
pub pns_below : (m : NeighborFields) → IsNeighborList m → All (λ p. p < 512) m.pns
pns_below m is k d within =
    let paired : length m.configs ≡ length m.pns = sym (ap (λ (ls : List ℕ). get_or ls 1 0) is.said.columns) in
    let fit = record_fit (3 ∷ 9 ∷ []) (length m.configs) k (m.configs ∷ m.pns ∷ [] ∷ [])
    (omega (arith, within, paired)) is.said.records in
    omega (arith, get_or_default m.pns k d 0 within, fit.1.0)

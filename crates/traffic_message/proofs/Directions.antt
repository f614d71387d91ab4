-- Handoff directions: where HARD_INCLUDED stands, and how many records there is room for.
use Rattle.traffic_message.proofs.Common.{◌≡◌, Option, ap, append_assoc, arith, false, inl, inr, length, length-append, refl, sym, take, []}
use Rattle.traffic_message.proofs.Common.{true, ◌*◌, ◌++◌, ◌+◌, ◌/◌, ◌==◌, ◌∙◌, ◌∷◌, ◌≤◌, append-nil, drop_at, length-drop, length-binary}
use Rattle.traffic_message.proofs.Common.{after_front, dropped, length-in_widths, number_front, number, in_widths, spelled, length-records}
use Rattle.traffic_message.proofs.Common.{record_fields, group_fields, spelling, Flagged, search_widths, time_widths, DirectionFields, Bool}
use Rattle.traffic_message.proofs.Common.{Search, List, None, Some, drop, ℕ, cases_Bool, binary, number_at}
use Rattle.traffic_message.specs.Handoff as handoff

-- with search parameters, and without
place_set : (bits : List Bool) → (number_at 9 1 bits == 1) ≡ true → handoff.hard_place bits ≡ 34
unfolding handoff.hard_place
place_set bits t = rw t refl

place_clear : (bits : List Bool) → (number_at 9 1 bits == 1) ≡ false → handoff.hard_place bits ≡ 10
unfolding handoff.hard_place
place_clear bits f = rw f refl

-- what stands after them
abbrev search_bits : Option Search → List Bool
search_bits s = spelled (group_fields Flagged search_widths (handoff.search_group s))

-- From HARD_INCLUDED on the bits are those after the search parameters: where SEARCH_INCLUDED, at
-- bit 9, is 0 there are none and it is bit 10, and where it is 1 they take 24 bits and it is bit
-- 34.
after_search : (s : Option Search) (bits following : List Bool) → drop 9 bits ≡ search_bits s ++ following →
    drop (handoff.hard_place bits) bits ≡ following
after_search None bits following is =
    let first : drop 9 bits ≡ binary 1 0 ++ following =
    is ∙ ap (λ (r : List Bool). r ++ following) (append-nil (binary 1 0)) in
    let bit : number_at 9 1 bits ≡ 0 =
    ap (λ (r : List Bool). number (take 1 r)) first ∙ number_front 1 0 following (omega arith) in
    let place = place_clear bits (ap (λ (n : ℕ). n == 1) bit) in
    rw place (sym (dropped 1 9 bits) ∙ ap (drop 1) first ∙ after_front 1 0 following)
after_search (Some s) bits following is =
    let vs = handoff.search_values s in
    let fs = spelled (in_widths search_widths vs) in
    let first : drop 9 bits ≡ binary 1 1 ++ (fs ++ following) = is ∙ append_assoc (binary 1 1) fs following in
    let bit : number_at 9 1 bits ≡ 1 =
    ap (λ (r : List Bool). number (take 1 r)) first
    ∙ number_front 1 1 (fs ++ following) (omega arith) in
    let place = place_set bits (ap (λ (n : ℕ). n == 1) bit) in
    rw place (sym (dropped 25 9 bits) ∙ ap (drop 25) is
    ∙ drop_at (binary 1 1 ++ fs) following 25 (length-in_widths (1 ∷ search_widths) (1 ∷ vs) refl))

abbrev records : DirectionFields → List Bool
records m = spelled (record_fields (9 ∷ 1 ∷ 8 ∷ []) (length m.pns) (m.pns ∷ m.combs ∷ m.rows ∷ []))

abbrev bits : DirectionFields → List Bool
bits m = spelling handoff.direction_shape (handoff.direction_contents m)

-- of a direction that is HARD_INCLUDED, ADD_LENGTH, the octets, the records and the rest
abbrev after_hard : DirectionFields → List Bool
after_hard m = binary 3 (length m.extra / 8) ++ (m.extra ++ (records m ++ m.rest))

-- In the bits of a direction HARD_INCLUDED is 0 where the definition looks for it: the action time
-- and the sequence number take the first 9 bits, the search parameters follow, and it comes next.
hard_at : (m : DirectionFields) → drop (handoff.hard_place (bits m)) (bits m) ≡ binary 1 0 ++ after_hard m
unfolding spelling
hard_at m =
    let times = spelled (in_widths time_widths (handoff.time_values m)) in
    let search = search_bits m.search in
    let three = binary 3 (length m.extra / 8) in
    let last = records m ++ m.rest in
    let following = ((binary 1 0 ++ (three ++ [])) ++ m.extra) ++ last in
    after_search m.search (times ++ (search ++ following)) following
    (drop_at times (search ++ following) 9 (length-in_widths time_widths (handoff.time_values m) refl))
    ∙ append_assoc (binary 1 0 ++ (three ++ [])) m.extra last
    ∙ append_assoc (binary 1 0) (three ++ []) (m.extra ++ last)
    ∙ ap (λ (r : List Bool). binary 1 0 ++ r) (append_assoc three [] (m.extra ++ last))

-- no direction that is spelled is a hard one
pub soft_bits : (m : DirectionFields) → handoff.is_hard (bits m) ≡ false
unfolding handoff.is_hard
soft_bits m =
    ap (λ (r : List Bool). number (take 1 r) == 1) (hard_at m)
    ∙ ap (λ (n : ℕ). n == 1) (number_front 1 0 (after_hard m) (omega arith))

-- ten bits or more, four, and the records
place_least : (bits : List Bool) → 10 ≤ handoff.hard_place bits
place_least bits =
    elim (cases_Bool (number_at 9 1 bits == 1)) [
      | inl t ↦ rw (place_set bits t) (omega arith)
      | inr f ↦ rw (place_clear bits f) (omega arith)
    ]

pub records_room : (m : DirectionFields) → 14 + 18 * length m.pns ≤ length (bits m)
records_room m =
    let h = handoff.hard_place (bits m) in
    let three = binary 3 (length m.extra / 8) in
    omega (
      arith,
      place_least (bits m),
      length-drop h (bits m),
      ap length (hard_at m),
      length-append (binary 1 0) (after_hard m),
      length-append three (m.extra ++ (records m ++ m.rest)),
      length-append m.extra (records m ++ m.rest),
      length-append (records m) m.rest,
      length-binary 1 0,
      length-binary 3 (length m.extra / 8),
      length-records (9 ∷ 1 ∷ 8 ∷ []) (length m.pns) (m.pns ∷ m.combs ∷ m.rows ∷ []) (omega arith),
    )
